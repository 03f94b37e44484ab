use Rattle.std.proofs.Common.{◌≡◌, ◌≤◌, ℕ}
use Rattle.macro_defs.specs.Table.{lookup}
use Rattle.macro_expand.specs.declared.stream.Standing.TheVariants.{Going}
use Rattle.macro_expand.specs.Stream.{to_come, at_hand}
use Rattle.daemon_cpp.specs.Prep.{is_defined}
use Rattle.daemon_cpp.specs.parts.Controlling.{read_from}
use Rattle.daemon_cpp.proofs.controlling.read_lent.Given as goal

-- the line so far, before what is still to come
abbrev pub invariant-loop-token : goal.invariant-loop-token
invariant-loop-token l = record {
  kept : (units : ℕ) → read_from (is_defined (lookup l.macros)) l.initial.line (to_come l.initial.stream units)
      ≡ read_from (is_defined (lookup l.macros)) l.line (to_come l.stream units);
  going : l.stream.standing ≡ Going;
  few : at_hand l.stream ≤ at_hand l.initial.stream;
}

abbrev pub decreases-loop-token : goal.decreases-loop-token
decreases-loop-token l = at_hand l.stream
