use Rattle.std.proofs.Common.{◌<◌, ◌≤◌, List, length, Result, ap, subst, arith}
use Rattle.base_types.specs.Limits.{include_depth_limit}
use Rattle.directive_scan.specs.declared.Piece.{Piece}
use Rattle.daemon_cpp.specs.declared.stop.Stop.{Stop}
use Rattle.daemon_cpp.specs.declared.cpp.Reader.{Reader}
use Rattle.daemon_cpp.specs.declared.cpp.OpenFile.{OpenFile}
use Rattle.daemon_cpp.specs.Prep.{world_of}
use Rattle.daemon_cpp.specs.parts.Files.{RestLeadsTo, EntersTo, Brings, GoesInto, InsideTo}
use Rattle.daemon_cpp.proofs.Readers.{too-deep, opens-brings, brings-stop}
use Rattle.daemon_cpp.proofs.cpp.Reader.enter.Goals as goal

pub returns-then-as_slice-ge-INCLUDE_DEPTH_LIMIT-clause-brings : goal.returns-then-as_slice-ge-INCLUDE_DEPTH_LIMIT-clause-brings
returns-then-as_slice-ge-INCLUDE_DEPTH_LIMIT-clause-brings g c = λ told is behind.
    let same = ap length c.as_slice.ensures.value in
    let deep : include_depth_limit ≤ length c.args.self.now.around.items = omega (arith, same, c.if-as_slice-ge-INCLUDE_DEPTH_LIMIT.true) in
    too-deep {A = Unit {0}} (world_of told c.args.setup.now) behind c.args.self.now c.args.at c.args.inner (λ done. RestLeadsTo (world_of told c.args.setup.now) behind c.args.self.now) c.refused.result deep c.refused.ensures

pub returns-in_ok-go_into-in-Ok-clause-brings : goal.returns-in_ok-go_into-in-Ok-clause-brings
returns-in_ok-go_into-in-Ok-clause-brings g c = λ told is behind whole enters_to.
    let same = ap length c.as_slice.ensures.value in
    let shallow : length c.args.self.now.around.items < include_depth_limit = omega (arith, same, c.if-as_slice-ge-INCLUDE_DEPTH_LIMIT.false) in
    let mid : Reader = record c.args.self.now { kept = c.open_file.new.kept; lexed = c.open_file.new.lexed } in
    let opened = subst (λ (r : Result (List Piece) Stop). Brings (EntersTo (world_of told c.args.setup.now) behind c.args.self.now c.args.at c.args.inner) mid (λ pieces w. InsideTo (world_of told c.args.setup.now) behind mid c.args.at c.args.inner pieces w) r) c.in-Ok.is
    (opens-brings (world_of told c.args.setup.now) behind c.args.self.now c.open_file.new.kept c.open_file.new.lexed c.args.at c.args.inner shallow (c.open_file.ensures.knows told is) c.open_file.result (c.open_file.ensures.opens told is)) in
    opened whole enters_to c.go_into.new.self
    (subst (λ (f : OpenFile). GoesInto mid f c.args.at c.go_into.new.self) c.in_ok-new-in-Ok.ensures c.in_ok-go_into-in-Ok.ensures)

pub returns-in-Err-clause-brings : goal.returns-in-Err-clause-brings
returns-in-Err-clause-brings g c = λ told is behind.
    let same = ap length c.as_slice.ensures.value in
    let shallow : length c.args.self.now.around.items < include_depth_limit = omega (arith, same, c.if-as_slice-ge-INCLUDE_DEPTH_LIMIT.false) in
    let mid : Reader = record c.args.self.now { kept = c.open_file.new.kept; lexed = c.open_file.new.lexed } in
    brings-stop {B = Unit {0}} (EntersTo (world_of told c.args.setup.now) behind c.args.self.now c.args.at c.args.inner) mid (λ pieces w. InsideTo (world_of told c.args.setup.now) behind mid c.args.at c.args.inner pieces w) (λ done. RestLeadsTo (world_of told c.args.setup.now) behind mid) c.in-Err.stop
    (subst (λ (r : Result (List Piece) Stop). Brings (EntersTo (world_of told c.args.setup.now) behind c.args.self.now c.args.at c.args.inner) mid (λ pieces w. InsideTo (world_of told c.args.setup.now) behind mid c.args.at c.args.inner pieces w) r) c.in-Err.is
    (opens-brings (world_of told c.args.setup.now) behind c.args.self.now c.open_file.new.kept c.open_file.new.lexed c.args.at c.args.inner shallow (c.open_file.ensures.knows told is) c.open_file.result (c.open_file.ensures.opens told is)))
