use Rattle.std.proofs.Common.{◌≡◌, length}
use Rattle.macro_defs.specs.Defining as spec
use Rattle.macro_defs.specs.Defining.{cut_at_commas, behind_names}
use Rattle.macro_defs.proofs.params.listed.Given as goal

abbrev pub invariant-loop-piece : goal.invariant-loop-piece
invariant-loop-piece l = spec.listed (cut_at_commas l.within) ≡ behind_names l.names (spec.listed (cut_at_commas l.rest))

abbrev pub decreases-loop-piece : goal.decreases-loop-piece
decreases-loop-piece l = length l.rest
