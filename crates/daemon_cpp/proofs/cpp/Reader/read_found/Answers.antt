use Rattle.std.proofs.Common.{Result, ◌∙◌, subst}
use Rattle.daemon_cpp.specs.declared.stop.Stop.{Stop}
use Rattle.daemon_cpp.specs.Prep.{world_of}
use Rattle.daemon_cpp.specs.parts.Files.{RestLeadsTo, EntersTo, ComesTo, Brings}
use Rattle.daemon_cpp.proofs.Readers.{brings-then, brings-stop}
use Rattle.daemon_cpp.proofs.cpp.Reader.read_found.Goals as goal

pub returns-in-Ok-clause-brings : goal.returns-in-Ok-clause-brings
returns-in-Ok-clause-brings g c = λ told is behind.
    brings-then (EntersTo (world_of told c.args.setup.now) behind c.args.self.now 0 c.args.file) c.enter.new.self c.read.new.self (λ done. RestLeadsTo (world_of told c.args.setup.now) behind c.enter.new.self) (λ done. ComesTo (world_of told c.args.setup.now) behind c.read.new.self) (tt {0}) c.read.result
    (subst (λ (r : Result (Unit {0}) Stop). Brings (EntersTo (world_of told c.args.setup.now) behind c.args.self.now 0 c.args.file) c.enter.new.self (λ done. RestLeadsTo (world_of told c.args.setup.now) behind c.enter.new.self) r) c.in-Ok.is (c.enter.ensures.brings told is behind))
    (c.read.ensures.brings told (c.in-Ok.ensures.same ∙ is) behind)

pub returns-in-Err-clause-brings : goal.returns-in-Err-clause-brings
returns-in-Err-clause-brings g c = λ told is behind.
    brings-stop {A = Unit {0}} {B = Unit {0}} (EntersTo (world_of told c.args.setup.now) behind c.args.self.now 0 c.args.file) c.enter.new.self (λ done. RestLeadsTo (world_of told c.args.setup.now) behind c.enter.new.self) (λ done. ComesTo (world_of told c.args.setup.now) behind c.enter.new.self) c.in-Err.stop
    (subst (λ (r : Result (Unit {0}) Stop). Brings (EntersTo (world_of told c.args.setup.now) behind c.args.self.now 0 c.args.file) c.enter.new.self (λ done. RestLeadsTo (world_of told c.args.setup.now) behind c.enter.new.self) r) c.in-Err.is (c.enter.ensures.brings told is behind))
