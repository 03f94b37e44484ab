use Rattle.std.proofs.Common.{◌≡◌, drop}
use Rattle.macro_defs.specs.Defining as spec
use Rattle.macro_defs.specs.parts.Stored.{names_held}
use Rattle.macro_defs.proofs.replacement.hashes_known.Given as goal

abbrev pub invariant-loop-i : goal.invariant-loop-i
invariant-loop-i l = spec.hashes_parameters (names_held l.known) l.body ≡ spec.hashes_parameters (names_held l.known) (drop l.i l.body)
