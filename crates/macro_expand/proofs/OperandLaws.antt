-- The operand of `defined`, read token by token.
use Rattle.std.proofs.Common.{◌≡◌, ℕ, zero, suc, ◌+◌, List, [], ◌∷◌, ◌++◌, take, drop, refl, ap, arith}
use Rattle.macro_expand.specs.declared.marked.Marked.{Marked as Kept}

-- tokens that were moved one by one
pub moved_more : (xs : List Kept) (i : ℕ) → (take (i + 1) xs ≡ take i xs ++ take 1 (drop i xs)) × (drop (i + 1) xs ≡ drop 1 (drop i xs))
moved_more [] zero = (refl, refl)
moved_more [] (suc i) = let e : suc i + 1 ≡ suc (i + 1) = omega arith in rw e (refl, refl)
moved_more (x ∷ xs) zero = (refl, refl)
moved_more (x ∷ xs) (suc i) = let e : suc i + 1 ≡ suc (i + 1) = omega arith in rw e (ap (λ (l : List Kept). x ∷ l) (moved_more xs i).0, (moved_more xs i).1)
