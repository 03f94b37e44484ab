use Rattle.std.proofs.Common.{◌≤◌, length, ◌∙◌, arith}
use Rattle.directive_scan.specs.parts.PartsSoFar.{stage_told}
use Rattle.directive_scan.proofs.PartSteps.{at_first, all_read, left_open}
use Rattle.directive_scan.proofs.operand.parts_of.Goals as goal

pub loop-token-init : goal.loop-token-init
loop-token-init c = record {
  shown = rw c.new-parts.ensures (at_first c.args.line.now);
  counted = omega arith;
}

pub returns-then-not-may_end : goal.returns-then-not-may_end
returns-then-not-may_end c =
    let line = c.args.line.now in
    let past : length line ≤ c.loop-token.token-index = omega (arith, c.loop-token-test.false) in
    left_open c.loop-token.parts (stage_told c.loop-token.stage) line c.loop-token.token-index past c.if-not-may_end.ensures ∙ c.loop-token.invariant.shown

pub returns : goal.returns
returns c =
    let line = c.args.line.now in
    let past : length line ≤ c.loop-token.token-index = omega (arith, c.loop-token-test.false) in
    all_read c.loop-token.parts (stage_told c.loop-token.stage) line c.loop-token.token-index past c.if-not-may_end.ensures ∙ c.loop-token.invariant.shown
