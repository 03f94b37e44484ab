use Rattle.std.proofs.Common.{◌≡◌, drop}
use Rattle.macro_defs.specs.Defining as spec
use Rattle.macro_defs.proofs.params.few_distinct.Given as goal

abbrev pub invariant-loop-i : goal.invariant-loop-i
invariant-loop-i l = spec.are_distinct l.names ≡ spec.are_distinct (drop l.i l.names)
