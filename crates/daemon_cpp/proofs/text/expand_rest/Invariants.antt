use Rattle.std.proofs.Common.{◌≡◌, ◌+◌, ◌≤◌}
use Rattle.macro_expand.specs.declared.stream.Standing.TheVariants.{Going}
use Rattle.macro_expand.specs.Stream.{to_come, at_hand}
use Rattle.daemon_cpp.specs.parts.Showing.{units_or_failure}
use Rattle.daemon_cpp.proofs.text.expand_rest.Given as goal

abbrev pub invariant-loop : goal.invariant-loop
invariant-loop l = record {
  kept : units_or_failure (to_come l.fn.stream l.fn.work.left) ≡ units_or_failure (to_come l.stream l.work.left);
  going : l.stream.standing ≡ Going;
  spends : l.work.left ≤ l.fn.work.left;
}

abbrev pub decreases-loop : goal.decreases-loop
decreases-loop l = at_hand l.stream + l.work.left
