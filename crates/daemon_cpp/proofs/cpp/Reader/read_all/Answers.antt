use Rattle.std.proofs.Common.{Result, ◌∙◌, subst}
use Rattle.search_path.specs.Search.{Hit}
use Rattle.search_path.specs.SetupOf.{SetupData}
use Rattle.daemon_cpp.specs.declared.stop.Stop.{Stop}
use Rattle.daemon_cpp.specs.Prep.{World, Go, world_of}
use Rattle.daemon_cpp.specs.parts.Files.{After, RestLeadsTo, ComesTo, Brings, source_behind}
use Rattle.daemon_cpp.proofs.Readers.{brings-then, brings-stop}
use Rattle.daemon_cpp.proofs.cpp.Reader.read_all.Goals as goal

pub returns-in-Ok-clause-brings : goal.returns-in-Ok-clause-brings
returns-in-Ok-clause-brings g c = λ told is.
    let source : Hit = c.args.source.now in
    let world : World = world_of told c.args.job.now.setup in
    let behind : After = source_behind world source c.args.job.now.forced in
    brings-then (ComesTo world behind c.args.self.now) c.open_source.new.self c.read.new.self (λ done. RestLeadsTo world (λ state. Go state) c.open_source.new.self) (λ done. ComesTo world (λ state. Go state) c.read.new.self) (tt {0}) c.read.result
    (subst (λ (r : Result (Unit {0}) Stop). Brings (ComesTo world behind c.args.self.now) c.open_source.new.self (λ done. RestLeadsTo world (λ state. Go state) c.open_source.new.self) r) c.in-Ok.is (c.open_source.ensures.brings told is))
    (subst (λ (setup : SetupData). Brings (RestLeadsTo (world_of told setup) (λ state. Go state) c.open_source.new.self) c.read.new.self (λ done. ComesTo (world_of told setup) (λ state. Go state) c.read.new.self) c.read.result) c.setup.ensures
    (c.read.ensures.brings told (c.in-Ok.ensures.same ∙ is) (λ state. Go state)))

pub returns-in-Err-clause-brings : goal.returns-in-Err-clause-brings
returns-in-Err-clause-brings g c = λ told is.
    let source : Hit = c.args.source.now in
    let world : World = world_of told c.args.job.now.setup in
    let behind : After = source_behind world source c.args.job.now.forced in
    brings-stop {A = Unit {0}} {B = Unit {0}} (ComesTo world behind c.args.self.now) c.open_source.new.self (λ done. RestLeadsTo world (λ state. Go state) c.open_source.new.self) (λ done. ComesTo world (λ state. Go state) c.open_source.new.self) c.in-Err.stop
    (subst (λ (r : Result (Unit {0}) Stop). Brings (ComesTo world behind c.args.self.now) c.open_source.new.self (λ done. RestLeadsTo world (λ state. Go state) c.open_source.new.self) r) c.in-Err.is (c.open_source.ensures.brings told is))
