use Rattle.std.proofs.Common.{◌∷◌, Option, Some, Result, Ok, ◌∙◌, ap, subst}
use Rattle.macro_expand.specs.declared.answers.Presumed.{Presumed}
use Rattle.search_path.specs.Search.{Hit}
use Rattle.daemon_cpp.specs.declared.stop.Stop.{Stop}
use Rattle.daemon_cpp.specs.declared.cpp.Reader.{Reader}
use Rattle.daemon_cpp.specs.Prep.{world_of}
use Rattle.daemon_cpp.specs.parts.Showing.{Includes}
use Rattle.daemon_cpp.specs.parts.Files.{ComesTo, Brings, NamedTo, source_behind}
use Rattle.daemon_cpp.proofs.Readers.{named_step, named-brings, brings-then, brings-stop}
use Rattle.daemon_cpp.proofs.cpp.Reader.read_named.Goals as goal

pub returns-in-Ok-Some-clause-brings : goal.returns-in-Ok-Some-clause-brings
returns-in-Ok-Some-clause-brings g c = λ told is source names.
    let mid : Reader = record c.args.self.now { kept = c.forced.new.kept } in
    let includes = subst (λ (p : Presumed). Includes c.args.self.now.kept c.forced.new.kept c.args.self.now.source (record { place = c.args.self.now.file.visit.place; found = c.args.self.now.file.visit.found; real = c.args.self.now.file.real; name = p.name; shift = p.shift }) 0
    (λ entering state. named_step (world_of told c.args.setup.now) c.args.name.now entering state) c.forced.result) c.presumed.ensures (c.forced.ensures.includes told is) in
    let brings = subst (λ (r : Result (Option Hit) Stop). Brings (ComesTo (world_of told c.args.setup.now) (source_behind (world_of told c.args.setup.now) source (c.args.name.now ∷ names)) c.args.self.now) mid (λ found w. NamedTo (world_of told c.args.setup.now) source names mid found w) r) (c.in-Ok-Some.is ∙ ap Ok c.in-Ok-Some.field-0-is)
    (named-brings (world_of told c.args.setup.now) source c.args.name.now names c.args.self.now c.forced.new.kept c.forced.result c.requires includes) in
    brings-then (ComesTo (world_of told c.args.setup.now) (source_behind (world_of told c.args.setup.now) source (c.args.name.now ∷ names)) c.args.self.now) mid c.read_found.new.self (λ found w. NamedTo (world_of told c.args.setup.now) source names mid found w) (λ done. ComesTo (world_of told c.args.setup.now) (source_behind (world_of told c.args.setup.now) source names) c.read_found.new.self) (Some c.in-Ok-Some.file) c.read_found.result
    brings (c.read_found.ensures.brings told (c.in-Ok-Some.ensures.same ∙ is) (source_behind (world_of told c.args.setup.now) source names))

pub returns-in-Ok-None-clause-brings : goal.returns-in-Ok-None-clause-brings
returns-in-Ok-None-clause-brings g c = λ told is source names whole comes.
    let mid : Reader = record c.args.self.now { kept = c.forced.new.kept } in
    let includes = subst (λ (p : Presumed). Includes c.args.self.now.kept c.forced.new.kept c.args.self.now.source (record { place = c.args.self.now.file.visit.place; found = c.args.self.now.file.visit.found; real = c.args.self.now.file.real; name = p.name; shift = p.shift }) 0
    (λ entering state. named_step (world_of told c.args.setup.now) c.args.name.now entering state) c.forced.result) c.presumed.ensures (c.forced.ensures.includes told is) in
    let brings = subst (λ (r : Result (Option Hit) Stop). Brings (ComesTo (world_of told c.args.setup.now) (source_behind (world_of told c.args.setup.now) source (c.args.name.now ∷ names)) c.args.self.now) mid (λ found w. NamedTo (world_of told c.args.setup.now) source names mid found w) r) (c.in-Ok-None.is ∙ ap Ok c.in-Ok-None.field-0-is)
    (named-brings (world_of told c.args.setup.now) source c.args.name.now names c.args.self.now c.forced.new.kept c.forced.result c.requires includes) in
    brings whole comes

pub returns-in-Err-clause-brings : goal.returns-in-Err-clause-brings
returns-in-Err-clause-brings g c = λ told is source names.
    let mid : Reader = record c.args.self.now { kept = c.forced.new.kept } in
    let includes = subst (λ (p : Presumed). Includes c.args.self.now.kept c.forced.new.kept c.args.self.now.source (record { place = c.args.self.now.file.visit.place; found = c.args.self.now.file.visit.found; real = c.args.self.now.file.real; name = p.name; shift = p.shift }) 0
    (λ entering state. named_step (world_of told c.args.setup.now) c.args.name.now entering state) c.forced.result) c.presumed.ensures (c.forced.ensures.includes told is) in
    let brings = subst (λ (r : Result (Option Hit) Stop). Brings (ComesTo (world_of told c.args.setup.now) (source_behind (world_of told c.args.setup.now) source (c.args.name.now ∷ names)) c.args.self.now) mid (λ found w. NamedTo (world_of told c.args.setup.now) source names mid found w) r) (c.in-Err.is)
    (named-brings (world_of told c.args.setup.now) source c.args.name.now names c.args.self.now c.forced.new.kept c.forced.result c.requires includes) in
    brings-stop {B = Unit {0}} (ComesTo (world_of told c.args.setup.now) (source_behind (world_of told c.args.setup.now) source (c.args.name.now ∷ names)) c.args.self.now) mid (λ found w. NamedTo (world_of told c.args.setup.now) source names mid found w) (λ done. ComesTo (world_of told c.args.setup.now) (source_behind (world_of told c.args.setup.now) source names) mid) c.in-Err.stop brings
