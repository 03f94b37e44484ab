use Rattle.std.proofs.Common.{◌≡◌, drop}
use Rattle.std.specs.Prelude.{bytes_eq}
use Rattle.std.specs.Cmp.Lexicographic.{pointwise}
use Rattle.macro_defs.proofs.sameness.same_names.Given as goal

abbrev pub invariant-loop-i : goal.invariant-loop-i
invariant-loop-i l = pointwise bytes_eq l.one l.other ≡ pointwise bytes_eq (drop l.i l.one) (drop l.i l.other)
