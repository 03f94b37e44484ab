use Rattle.std.proofs.Common.{ℕ, Result, subst}
use Rattle.macro_expand.specs.declared.answers.Presumed.{Presumed}
use Rattle.daemon_cpp.specs.declared.stop.Stop.{Stop}
use Rattle.daemon_cpp.specs.declared.cpp.Reader.{Reader}
use Rattle.daemon_cpp.specs.Prep.{world_of}
use Rattle.daemon_cpp.specs.parts.Reading.{run_flat, reading}
use Rattle.daemon_cpp.specs.parts.Showing.{Seeks}
use Rattle.daemon_cpp.specs.parts.Files.{pieces_left, RestLeadsTo, Brings}
use Rattle.daemon_cpp.proofs.Readers.{seeks-brings, brings-stop}
use Rattle.daemon_cpp.proofs.cpp.Reader.open_section.Goals as goal

pub returns-in-Ok-clause-brings : goal.returns-in-Ok-clause-brings
returns-in-Ok-clause-brings g c = λ told is behind whole left.
    let seeks = subst (λ (p : Presumed). Seeks c.args.self.now.kept c.read_opening.new.kept c.args.self.now.source (record { place = c.args.self.now.file.visit.place; found = c.args.self.now.file.visit.found; real = c.args.self.now.file.real; name = p.name; shift = p.shift }) (world_of told c.args.setup.now) c.args.self.now.file.pieces
    (λ entering state. run_flat (world_of told c.args.setup.now) entering reading (pieces_left c.args.self.now.file) state) c.read_opening.result) c.presumed.ensures (c.read_opening.ensures.seeks told is) in
    let mid : Reader = record c.args.self.now { kept = c.read_opening.new.kept } in
    let brings = subst (λ (r : Result ℕ Stop). Brings (RestLeadsTo (world_of told c.args.setup.now) behind c.args.self.now) mid (λ n w. RestLeadsTo (world_of told c.args.setup.now) behind (record mid { file = record c.args.self.now.file { next = n } }) w) r) c.in-Ok.is
    (seeks-brings (world_of told c.args.setup.now) behind c.args.self.now c.read_opening.new.kept c.read_opening.result seeks) in
    brings whole left

pub returns-in-Err-clause-brings : goal.returns-in-Err-clause-brings
returns-in-Err-clause-brings g c = λ told is behind.
    let seeks = subst (λ (p : Presumed). Seeks c.args.self.now.kept c.read_opening.new.kept c.args.self.now.source (record { place = c.args.self.now.file.visit.place; found = c.args.self.now.file.visit.found; real = c.args.self.now.file.real; name = p.name; shift = p.shift }) (world_of told c.args.setup.now) c.args.self.now.file.pieces
    (λ entering state. run_flat (world_of told c.args.setup.now) entering reading (pieces_left c.args.self.now.file) state) c.read_opening.result) c.presumed.ensures (c.read_opening.ensures.seeks told is) in
    let mid : Reader = record c.args.self.now { kept = c.read_opening.new.kept } in
    let brings = subst (λ (r : Result ℕ Stop). Brings (RestLeadsTo (world_of told c.args.setup.now) behind c.args.self.now) mid (λ n w. RestLeadsTo (world_of told c.args.setup.now) behind (record mid { file = record c.args.self.now.file { next = n } }) w) r) c.in-Err.is
    (seeks-brings (world_of told c.args.setup.now) behind c.args.self.now c.read_opening.new.kept c.read_opening.result seeks) in
    brings-stop {B = Unit {0}} (RestLeadsTo (world_of told c.args.setup.now) behind c.args.self.now) mid (λ n w. RestLeadsTo (world_of told c.args.setup.now) behind (record mid { file = record c.args.self.now.file { next = n } }) w) (λ done. RestLeadsTo (world_of told c.args.setup.now) behind mid) c.in-Err.stop brings
