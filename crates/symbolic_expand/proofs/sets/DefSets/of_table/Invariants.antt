use Rattle.symbolic_expand.specs.parts.Stored.{HasBefore}
use Rattle.symbolic_expand.proofs.sets.DefSets.of_table.Given as goal

-- the names before the place have their definitions
abbrev pub invariant-loop-place : goal.invariant-loop-place
invariant-loop-place l = HasBefore l.table l.place l.sets
