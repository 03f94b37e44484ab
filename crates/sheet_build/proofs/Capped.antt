-- Sums that stop at a top.
use Rattle.std.proofs.Common.{◌≡◌, ◌+◌, [], ◌∷◌, ℕ, List, map, refl, sym, ap, ◌∙◌, arith}
use Rattle.std.specs.Prelude.{min, sum_by}
use Rattle.std.proofs.lemmas.List.Sums.{sum_by-cons}

-- two of them together
pub capped_two : (top a b : ℕ) {s t both : ℕ} → s ≡ min top a → t ≡ min top b → both ≡ min (s + t) top → both ≡ min top (a + b)
capped_two top a b one other is = omega (arith, one, other, is)

-- four of them, and one more
pub capped_four : (top a b c d : ℕ) {s t u v st uv all more : ℕ} → s ≡ min top a → t ≡ min top b → u ≡ min top c → v ≡ min top d →
    st ≡ min (s + t) top → uv ≡ min (u + v) top → all ≡ min (st + uv) top → more ≡ min (all + 1) top → more ≡ min top (1 + (a + (b + (c + d))))
capped_four top a b c d first second third fourth front back whole is =
    let so_far = capped_two top (a + b) (c + d) (capped_two top a b first second front) (capped_two top c d third fourth back) whole in
    omega (arith, so_far, is)

-- the sum over what a list becomes
pub sum_by-map : {X Y : Type 0} (g : Y → ℕ) (f : X → Y) (xs : List X) → sum_by g (map f xs) ≡ sum_by (λ x. g (f x)) xs
sum_by-map g f [] = refl
sum_by-map g f (x ∷ xs) =
    sum_by-cons g (f x) (map f xs)
    ∙ ap (λ (n : ℕ). g (f x) + n) (sum_by-map g f xs)
    ∙ sym (sum_by-cons (λ x. g (f x)) x xs)
