use Rattle.std.proofs.Common.{sym, ◌∙◌, ◌<◌, ◌≤◌, length, arith}
use Rattle.directive_scan.specs.Spots.{role_told}
use Rattle.daemon_cpp.proofs.Sections.{pass-end, pass-endif, pass-more}
use Rattle.daemon_cpp.proofs.section.pass.Goals as goal

pub returns-then-line-len-clause-passes : goal.returns-then-line-len-clause-passes
returns-then-line-len-clause-passes c =
    let past : length c.args.pieces.now ≤ c.skip-line.result = omega (arith, c.if-line-len.true, c.len.ensures) in
    λ world entering state.
    c.loop-from.invariant.same world entering state
    ∙ pass-end world entering c.args.pieces.now c.loop-from.next c.skip-line.result c.skip-line.ensures.rest state past

pub returns-then-is_endif-clause-passes : goal.returns-then-is_endif-clause-passes
returns-then-is_endif-clause-passes c =
    let within : c.skip-line.result < length c.args.pieces.now = omega (arith, c.if-line-len.false, c.len.ensures) in
    λ world entering state.
    c.loop-from.invariant.same world entering state
    ∙ pass-endif world entering c.args.pieces.now c.loop-from.next c.skip-line.result c.skip-line.ensures.rest (role_told c.nesting.result) within c.nesting.ensures state (sym c.if-is_endif.ensures)

pub loop-from-preserved : goal.loop-from-preserved
loop-from-preserved c =
    let within : c.skip-line.result < length c.args.pieces.now = omega (arith, c.if-line-len.false, c.len.ensures) in
    record {
      same = λ world entering state.
          c.loop-from.invariant.same world entering state
          ∙ pass-more world entering c.args.pieces.now c.loop-from.next c.skip-line.result c.skip-line.ensures.rest (role_told c.nesting.result) within c.nesting.ensures state (sym c.if-is_endif.ensures);
      later = omega (arith, c.loop-from.invariant.later, c.skip-line.ensures.later.0);
      within = omega (arith, within);
    }
