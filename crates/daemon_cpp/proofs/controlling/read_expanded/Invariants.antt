use Rattle.std.proofs.Common.{◌≡◌, ◌+◌, ◌≤◌}
use Rattle.macro_defs.specs.Table.{lookup}
use Rattle.macro_expand.specs.declared.stream.Standing.TheVariants.{Going}
use Rattle.macro_expand.specs.Stream.{to_come, at_hand}
use Rattle.daemon_cpp.specs.Prep.{is_defined}
use Rattle.daemon_cpp.specs.parts.Controlling.{at_first, read_from}
use Rattle.daemon_cpp.proofs.controlling.read_expanded.Given as goal

-- the line so far, before what is still to come
abbrev pub invariant-loop-line : goal.invariant-loop-line
invariant-loop-line l = record {
  kept : read_from (is_defined (lookup l.fn.macros)) at_first (to_come l.fn.stream l.fn.work.left)
      ≡ read_from (is_defined (lookup l.fn.macros)) l.line (to_come l.stream l.work.left);
  going : l.stream.standing ≡ Going;
  spends : l.work.left ≤ l.fn.work.left;
}

abbrev pub decreases-loop-line : goal.decreases-loop-line
decreases-loop-line l = at_hand l.stream + l.work.left
