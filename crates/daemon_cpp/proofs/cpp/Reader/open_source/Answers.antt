use Rattle.std.proofs.Common.{[], Result, ◌∙◌, subst}
use Rattle.search_path.specs.Search.{Hit}
use Rattle.search_path.specs.SetupOf.{SetupData}
use Rattle.daemon_cpp.specs.declared.stop.Stop.{Stop}
use Rattle.daemon_cpp.specs.Prep.{World, Go, world_of}
use Rattle.daemon_cpp.specs.parts.Files.{RestLeadsTo, ComesTo, Brings, source_behind}
use Rattle.daemon_cpp.proofs.Readers.{brings-then, brings-stop}
use Rattle.daemon_cpp.proofs.cpp.Reader.open_source.Goals as goal

pub returns-in-Ok-clause-brings : goal.returns-in-Ok-clause-brings
returns-in-Ok-clause-brings g c = λ told is.
    let source : Hit = c.args.source.now in
    let world : World = world_of told c.args.job.now.setup in
    let forced = c.read_forced.ensures.brings told is source in
    brings-then (ComesTo world (source_behind world source c.args.job.now.forced) c.args.self.now) c.read_forced.new.self c.enter_source.new.self (λ done. ComesTo world (source_behind world source []) c.read_forced.new.self) (λ done. RestLeadsTo world (λ state. Go state) c.enter_source.new.self) (tt {0}) c.enter_source.result
    (subst (λ (r : Result (Unit {0}) Stop). Brings (ComesTo world (source_behind world source c.args.job.now.forced) c.args.self.now) c.read_forced.new.self (λ done. ComesTo world (source_behind world source []) c.read_forced.new.self) r) c.in-Ok.is forced)
    (subst (λ (setup : SetupData). Brings (ComesTo (world_of told setup) (source_behind (world_of told setup) source []) c.read_forced.new.self) c.enter_source.new.self (λ done. RestLeadsTo (world_of told setup) (λ state. Go state) c.enter_source.new.self) c.enter_source.result) c.setup.ensures
    (c.enter_source.ensures.brings told (c.in-Ok.ensures.same ∙ is)))

pub returns-in-Err-clause-brings : goal.returns-in-Err-clause-brings
returns-in-Err-clause-brings g c = λ told is.
    let source : Hit = c.args.source.now in
    let world : World = world_of told c.args.job.now.setup in
    brings-stop {A = Unit {0}} {B = Unit {0}} (ComesTo world (source_behind world source c.args.job.now.forced) c.args.self.now) c.read_forced.new.self (λ done. ComesTo world (source_behind world source []) c.read_forced.new.self) (λ done. RestLeadsTo world (λ state. Go state) c.read_forced.new.self) c.in-Err.stop
    (subst (λ (r : Result (Unit {0}) Stop). Brings (ComesTo world (source_behind world source c.args.job.now.forced) c.args.self.now) c.read_forced.new.self (λ done. ComesTo world (source_behind world source []) c.read_forced.new.self) r) c.in-Err.is (c.read_forced.ensures.brings told is source))
