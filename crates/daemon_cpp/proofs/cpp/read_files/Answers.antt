use Rattle.std.proofs.Common.{◌≡◌, List, subst}
use Rattle.daemon_cpp.specs.declared.cpp.Told.{Told}
use Rattle.daemon_cpp.specs.Prep.{World, world_of}
use Rattle.daemon_cpp.specs.parts.Files.{After, ComesTo, source_behind}
use Rattle.std.proofs.lemmas.Result.{IfOk-weaker}
use Rattle.job_words.specs.declared.MacroWord.{MacroWord}
use Rattle.daemon_cpp.specs.parts.Files.{IsEnd, source_told}
use Rattle.daemon_cpp.proofs.Readers.{brings-end}
use Rattle.daemon_cpp.proofs.cpp.read_files.Goals as goal

pub returns-clause-told : goal.returns-clause-told
returns-clause-told g c = λ told is.
    let world : World = world_of told c.args.job.now.setup in
    let behind : After = source_behind world c.args.source.now c.args.job.now.forced in
    let whole : Told = source_told world c.args.job.now.macros c.args.source.now c.args.job.now.forced in
    let comes = subst (λ (words : List MacroWord). ComesTo world behind c.in_ok-reader.reader (source_told world words c.args.source.now c.args.job.now.forced)) c.macros.ensures (c.in_ok-reader.ensures.comes world c.args.job.now.forced) in
    let ends = brings-end world (ComesTo world behind c.in_ok-reader.reader) c.read_all-ended.new.self c.read_all-ended.result whole comes (c.read_all-ended.ensures.brings told is) in
    IfOk-weaker c.told.result (λ all. (v : World) (w : Told) → IsEnd v c.read_all-ended.new.self w c.read_all-ended.result → all ≡ w) (λ all. all ≡ whole) (λ all says. says world whole ends) c.told.ensures.told
