-- The first element of what is left of a list.
use Rattle.std.proofs.Common.{◌≡◌, ℕ, ◌+◌, ◌<◌, ◌≤◌, true, false, true≢false, List, [], ◌∷◌, length, get_or, drop, refl, sym, ap, ◌∙◌, suc, arith}
use Rattle.std.specs.Prelude.{◌==◌}
use Rattle.std.proofs.lemmas.Bool.Decides.{nat_tests}
use Rattle.std.proofs.lemmas.List.{drop_more}

pub front_at : {A : Type 0} (xs : List A) (i : ℕ) (x : A) → i < length xs → x ≡ get_or xs i x → drop i xs ≡ x ∷ drop (i + 1) xs
front_at xs i x within at = drop_more xs i x within ∙ ap (λ y. y ∷ drop (i + 1) xs) (sym at)

pub front : {A : Type 0} (xs : List A) (x : A) → 1 ≤ length xs → x ≡ get_or xs 0 x → xs ≡ x ∷ drop 1 xs
front [] x within at = absurd (omega arith)
front (y ∷ xs) x within at = ap (λ z. z ∷ xs) (sym at)

-- from the test of a list's length
suc_not_zero : (n : ℕ) → (suc n == 0) ≡ false
suc_not_zero n = grind (arith, nat_tests)

pub empty_so : {A : Type 0} (xs : List A) → true ≡ (length xs == 0) → xs ≡ []
empty_so [] is = refl
empty_so (x ∷ xs) is = absurd (true≢false (is ∙ suc_not_zero (length xs)))

pub some_so : {A : Type 0} (xs : List A) → false ≡ (length xs == 0) → 0 < length xs
some_so [] is = absurd (true≢false (sym is))
some_so (x ∷ xs) is = omega arith
