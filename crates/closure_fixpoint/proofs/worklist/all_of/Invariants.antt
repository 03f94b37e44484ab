use Rattle.std.proofs.Common.{◌≡◌, take}
use Rattle.closure_fixpoint.proofs.worklist.all_of.Given as goal

-- the visits so far were copied
abbrev pub invariant-loop-number : goal.invariant-loop-number
invariant-loop-number l = l.visits.items ≡ take l.number l.found
