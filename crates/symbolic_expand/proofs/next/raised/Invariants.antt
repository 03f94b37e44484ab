use Rattle.std.proofs.Common.{◌≡◌, ℕ, map, take}
use Rattle.symbolic_expand.proofs.next.raised.Given as goal

abbrev pub invariant-loop-n : goal.invariant-loop-n
invariant-loop-n l = l.list.items ≡ map (λ (n : ℕ × ℕ). n.0) (take l.n-index l.taken)
