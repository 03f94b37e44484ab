use Rattle.std.proofs.Common.{ℕ, List, take}
use Rattle.std.specs.List.{Contains}
use Rattle.base_types.specs.Members.{Member}
use Rattle.closure_fixpoint.proofs.naming.is_touched.Given as goal

-- the answer rests on none of the names so far
abbrev pub invariant-loop-name : goal.invariant-loop-name
invariant-loop-name l = (name : List ℕ) → Contains l.kept.names.support name → Member name (take l.name-index l.since) → ⊥
