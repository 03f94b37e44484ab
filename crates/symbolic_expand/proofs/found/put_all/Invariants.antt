use Rattle.std.proofs.Common.{◌≡◌, ◌++◌, map, length}
use Rattle.symbolic_expand.specs.parts.Search.{header_at}
use Rattle.symbolic_expand.proofs.found.put_all.Given as goal

abbrev pub invariant-loop-text : goal.invariant-loop-text
invariant-loop-text l = l.out.items ++ map (header_at l.angle) l.texts ≡ l.initial.out.items ++ map (header_at l.angle) l.initial.texts

abbrev pub decreases-loop-text : goal.decreases-loop-text
decreases-loop-text l = length l.texts
