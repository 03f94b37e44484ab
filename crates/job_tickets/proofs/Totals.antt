-- Sums over lists that change at one place, and how often a number stands in a list.
use Rattle.std.proofs.Common.{◌≡◌, ℕ, zero, suc, ◌+◌, ◌<◌, ◌≤◌, cond, ◌==◌, List, [], ◌∷◌, ◌++◌, length, set, sym, refl, ap, arith}
use Rattle.std.proofs.lemmas.Grind.{common_steps}
use mathlib.Core.Option.{some, some-injective, some-ne-none}
use lib.ListN.{get_elem?}
use Rattle.job_tickets.specs.Seats.{total, once_below}

module _ {A : Type 0} where
  module _ (g : A → ℕ) where
    pub total-append : (l m : List A) → total g (l ++ m) ≡ total g l + total g m
    total-append [] m = omega arith
    total-append (x ∷ xs) m = omega (arith, total-append xs m)

    pub total-set : (l : List A) (j : ℕ) (v w : A) → get_elem? l j ≡ some v → total g (set l j w) + g v ≡ total g l + g w
    total-set [] j v w e = absurd (some-ne-none v (sym e))
    total-set (x ∷ xs) zero v w e = omega (arith, ap g (some-injective x v e))
    total-set (x ∷ xs) (suc j) v w e = omega (arith, total-set xs j v w e)

    pub term_le : (l : List A) (j : ℕ) (v : A) → get_elem? l j ≡ some v → g v ≤ total g l
    term_le [] j v e = absurd (some-ne-none v (sym e))
    term_le (x ∷ xs) zero v e = omega (arith, ap g (some-injective x v e))
    term_le (x ∷ xs) (suc j) v e = omega (arith, term_le xs j v e)

  pub length-set : (l : List A) (j : ℕ) (w : A) → length (set l j w) ≡ length l
  length-set [] j w = refl
  length-set (x ∷ xs) zero w = refl
  length-set (x ∷ xs) (suc j) w = ap suc (length-set xs j w)

  -- what is at most, each, is at most in all
  pub total-le : (f g : A → ℕ) (l : List A) → ((j : ℕ) (v : A) → get_elem? l j ≡ some v → f v ≤ g v) → total f l ≤ total g l
  total-le f g [] h = omega arith
  total-le f g (x ∷ xs) h = omega (arith, h 0 x refl, total-le f g xs (λ j v e. h (suc j) v e))

  -- where g is all with one, what is nothing where g is nothing is all with that one
  pub total-alone : (f g : A → ℕ) (l : List A) (j : ℕ) (v : A) → get_elem? l j ≡ some v → total g l ≡ g v
      → ((k : ℕ) (u : A) → get_elem? l k ≡ some u → g u ≡ 0 → f u ≡ 0) → total f l ≡ f v
  total-alone f g [] j v e all none = absurd (some-ne-none v (sym e))
  total-alone f g (x ∷ xs) zero v e all none =
      let here : x ≡ v = some-injective x v e in
      let rest : total g xs ≡ 0 = omega (arith, ap g here) in
      omega (arith, ap f here, total-none f g xs rest (λ k u at zero_g. none (suc k) u at zero_g))
    where
      total-none : (f g : A → ℕ) (l : List A) → total g l ≡ 0 → ((k : ℕ) (u : A) → get_elem? l k ≡ some u → g u ≡ 0 → f u ≡ 0) → total f l ≡ 0
      total-none f g [] e h = refl
      total-none f g (x ∷ xs) e h = omega (arith, h 0 x refl (omega arith), total-none f g xs (omega arith) (λ k u at z. h (suc k) u at z))
  total-alone f g (x ∷ xs) (suc j) v e all none =
      let part = term_le g xs j v e in
      omega (arith, none 0 x refl (omega arith), total-alone f g xs j v e (omega arith) (λ k u at z. none (suc k) u at z))

pub once_next : (x n : ℕ) → once_below x (n + 1) ≡ once_below x n + cond (n == x) 1 0
once_next x n = grind (arith, common_steps)

pub below_once : (x n : ℕ) → 0 < once_below x n → x < n
below_once x n more = grind (arith, common_steps)
