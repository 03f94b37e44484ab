use Rattle.std.proofs.Common.{◌≡◌, ◌≤◌, drop}
use Rattle.directive_scan.specs.Operands.{parts_of}
use Rattle.directive_scan.specs.parts.PartsSoFar.{stage_told, open_count, so_far}
use Rattle.directive_scan.proofs.operand.parts_of.Given as goal

abbrev pub invariant-loop-token : goal.invariant-loop-token
invariant-loop-token l = record {
  shown : so_far l.parts (stage_told l.stage) (drop l.token-index l.line) ≡ parts_of l.line;
  counted : open_count l.stage ≤ l.token-index;
}
