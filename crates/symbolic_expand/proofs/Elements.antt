-- Elements of a list, by its first.
use Rattle.std.proofs.Common.{◌≡◌, zero, suc, List, [], ◌∷◌, sym, arith, inl, inr, ◌⊎◌}
use Rattle.std.specs.List.{Contains}

pub contains_tail : {A : Type 0} (x y : A) (xs : List A) → Contains (y ∷ xs) x → (x ≡ y) ⊎ Contains xs x
contains_tail x y xs (zero, below, is) = inl (sym is)
contains_tail x y xs (suc k, below, is) = inr (k, omega arith, is)

pub contains_none : {A : Type 0} (x : A) → Contains [] x → ⊥
contains_none x (k, below, is) = absurd (omega arith)
