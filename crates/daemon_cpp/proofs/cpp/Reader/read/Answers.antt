use Rattle.std.proofs.Common.{◌≡◌, ◌≤◌, length, Result, Err, ◌∙◌, subst, arith}
use Rattle.daemon_cpp.specs.declared.stop.Stop.{Stop}
use Rattle.daemon_cpp.specs.Prep.{world_of}
use Rattle.daemon_cpp.specs.parts.Files.{RestLeadsTo, ComesTo, Brings}
use Rattle.std.proofs.Common.{rules}
use Rattle.std.proofs.lemmas.List.{nil_from_length}
use Rattle.std.proofs.lemmas.Grind.{common_steps}
use Rattle.daemon_cpp.proofs.Readers.{all-read, brings-before, brings-stop}
use Rattle.daemon_cpp.proofs.cpp.Reader.read.Goals as goal

pub returns-in-Err-clause-brings : goal.returns-in-Err-clause-brings
returns-in-Err-clause-brings g c = λ told is behind.
    brings-before (RestLeadsTo (world_of told c.args.setup.now) behind c.args.self.now) (RestLeadsTo (world_of told c.args.setup.now) behind c.files.self) c.next_piece.new.self (λ (done : Unit {0}). ComesTo (world_of told c.args.setup.now) behind c.next_piece.new.self) (Err c.in-Err.stop)
    (λ whole left. c.files.invariant.left told is behind whole left)
    (brings-stop {A = Unit {0}} {B = Unit {0}} (RestLeadsTo (world_of told c.args.setup.now) behind c.files.self) c.next_piece.new.self (λ done. RestLeadsTo (world_of told c.args.setup.now) behind c.next_piece.new.self) (λ done. ComesTo (world_of told c.args.setup.now) behind c.next_piece.new.self) c.in-Err.stop
    (subst (λ (r : Result (Unit {0}) Stop). Brings (RestLeadsTo (world_of told c.args.setup.now) behind c.files.self) c.next_piece.new.self (λ done. RestLeadsTo (world_of told c.args.setup.now) behind c.next_piece.new.self) r) c.in-Err.is
    (c.next_piece.ensures.brings told (c.files.invariant.same ∙ is) behind)))

pub returns-in-Err-come_back-clause-brings : goal.returns-in-Err-come_back-clause-brings
returns-in-Err-come_back-clause-brings g c = λ told is behind.
    brings-before (RestLeadsTo (world_of told c.args.setup.now) behind c.args.self.now) (RestLeadsTo (world_of told c.args.setup.now) behind c.files.self) c.come_back.new.self (λ (done : Unit {0}). ComesTo (world_of told c.args.setup.now) behind c.come_back.new.self) (Err c.in-Err-come_back.stop)
    (λ whole left. c.files.invariant.left told is behind whole left)
    (brings-stop {A = Unit {0}} {B = Unit {0}} (RestLeadsTo (world_of told c.args.setup.now) behind c.files.self) c.come_back.new.self (λ done. RestLeadsTo (world_of told c.args.setup.now) behind c.come_back.new.self) (λ done. ComesTo (world_of told c.args.setup.now) behind c.come_back.new.self) c.in-Err-come_back.stop
    (subst (λ (r : Result (Unit {0}) Stop). Brings (RestLeadsTo (world_of told c.args.setup.now) behind c.files.self) c.come_back.new.self (λ done. RestLeadsTo (world_of told c.args.setup.now) behind c.come_back.new.self) r) c.in-Err-come_back.is
    (c.come_back.ensures.brings (world_of told c.args.setup.now) behind)))

pub returns-else-not-is_empty-clause-brings : goal.returns-else-not-is_empty-clause-brings
returns-else-not-is_empty-clause-brings g c = λ told is behind whole left.
    let ends : length c.files.self.file.pieces ≤ c.files.self.file.next = omega (arith, c.len.ensures) in
    let alone : length c.files.self.around.items ≡ 0 = first_of (search rules, grind (arith, common_steps)) in
    all-read (world_of told c.args.setup.now) behind c.files.self whole (record { alone = nil_from_length c.files.self.around.items alone; ended = ends }) (c.files.invariant.left told is behind whole left)
