use Rattle.std.proofs.Common.{sym, ◌∙◌, ◌<◌, ◌≤◌, length, arith}
use Rattle.directive_scan.specs.Spots.{role_told}
use Rattle.daemon_cpp.proofs.Skipping.{passed-over, stopped-at, skipped-all, no-deeper}
use Rattle.daemon_cpp.proofs.section.skip.Goals as goal

pub returns-in-None-clause-rest : goal.returns-in-None-clause-rest
returns-in-None-clause-rest c =
    let within : c.loop-next.next < length c.args.pieces.now = omega (arith, c.loop-next-test.true, c.len.ensures) in
    stopped-at (role_told c.nesting.result) c.loop-next.depth c.args.pieces.now c.loop-next.next within c.nesting.ensures (sym c.in-None.ensures)
    ∙ c.loop-next.invariant.same

pub loop-next-preserved : goal.loop-next-preserved
loop-next-preserved c =
    let within : c.loop-next.next < length c.args.pieces.now = omega (arith, c.loop-next-test.true, c.len.ensures) in
    record {
      same =
          sym (passed-over (role_told c.nesting.result) c.loop-next.depth c.in-Some.around c.args.pieces.now c.loop-next.next within c.nesting.ensures (sym c.in-Some.ensures))
          ∙ c.loop-next.invariant.same;
      later = omega (arith, c.loop-next.invariant.later);
      within = omega (arith, within);
      deep = no-deeper (role_told c.nesting.result) c.loop-next.depth c.in-Some.around c.loop-next.next c.loop-next.invariant.deep (sym c.in-Some.ensures);
    }

pub returns-clause-rest : goal.returns-clause-rest
returns-clause-rest c =
    let past : length c.args.pieces.now ≤ c.loop-next.next = omega (arith, c.loop-next-test.false, c.len.ensures) in
    skipped-all c.loop-next.depth c.args.pieces.now c.loop-next.next past ∙ c.loop-next.invariant.same
