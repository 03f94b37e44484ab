use Rattle.std.proofs.Common.{◌≡◌, true, length, ◌-◌}
use Rattle.closure_fixpoint.specs.Naming.{Follows}
use Rattle.closure_fixpoint.proofs.naming.catch_up.Given as goal

-- what is kept is that of the job and of the sheets so far
abbrev pub invariant-loop-naming : goal.invariant-loop-naming
invariant-loop-naming l = record { follows : Follows l.naming l.job l.sheets; begun : l.naming.begun ≡ true }

abbrev pub decreases-loop-naming : goal.decreases-loop-naming
decreases-loop-naming l = length l.sheets - l.naming.told
