-- The next list of numbers, from the end.
use Rattle.std.proofs.Common.{◌≡◌, ℕ, suc, ◌<◌, ◌≤◌, ◌+◌, Bool, true, false, List, [], ◌∷◌, ◌++◌, map, refl, ap, ◌∙◌, Option, Some, None, arith, nat_lt}
use Rattle.std.proofs.lemmas.Bool.{le-ltb, lt-ltb}
use Rattle.symbolic_expand.specs.parts.Enumeration.{raised_number, next_numbers}

-- the numbers alone
abbrev pub numbers_of : List (ℕ × ℕ) → List ℕ
numbers_of = map (λ (n : ℕ × ℕ). n.0)

last_raised : List (ℕ × ℕ) → ℕ × ℕ → Bool → Option (List ℕ)
last_raised ns n true = Some (numbers_of ns ++ suc n.0 ∷ [])
last_raised ns n false = next_numbers ns

raised_number-last : (m n : ℕ × ℕ) (ns : List (ℕ × ℕ)) (b : Bool) → raised_number m.0 m.1 (last_raised ns n b) ≡ last_raised (m ∷ ns) n b
unfolding last_raised next_numbers
raised_number-last m n ns true = refl
raised_number-last m n ns false = refl

next-last : (ns : List (ℕ × ℕ)) (n : ℕ × ℕ) → next_numbers (ns ++ n ∷ []) ≡ last_raised ns n (nat_lt (suc n.0) n.1)
unfolding next_numbers last_raised
next-last [] n = go (nat_lt (suc n.0) n.1)
  where
    go : (b : Bool) → (elim b [ true ↦ Some (suc n.0 ∷ []) | false ↦ None ]) ≡ last_raised [] n b
    go true = refl
    go false = refl
next-last (m ∷ ns) n = ap (raised_number m.0 m.1) (next-last ns n) ∙ raised_number-last m n ns (nat_lt (suc n.0) n.1)

-- the last number rises
pub next_is : (whole : List (ℕ × ℕ)) (before ns : List (ℕ × ℕ)) (n : ℕ × ℕ) → next_numbers whole ≡ next_numbers before → before ≡ ns ++ n ∷ [] → n.0 + 1 < n.1 →
    next_numbers whole ≡ Some (numbers_of ns ++ (n.0 + 1) ∷ [])
unfolding last_raised
next_is whole before ns n keeps is rises =
    let h : suc n.0 < n.1 = omega arith in
    let e : suc n.0 ≡ n.0 + 1 = omega arith in
    keeps ∙ ap next_numbers is ∙ next-last ns n ∙ ap (last_raised ns n) (lt-ltb (suc n.0) n.1 h) ∙ ap (λ k. Some (numbers_of ns ++ k ∷ [])) e

-- the last number can't rise
pub next_keeps : (whole : List (ℕ × ℕ)) (before ns : List (ℕ × ℕ)) (n : ℕ × ℕ) → next_numbers whole ≡ next_numbers before → before ≡ ns ++ n ∷ [] → n.1 ≤ n.0 + 1 →
    next_numbers whole ≡ next_numbers ns
unfolding last_raised
next_keeps whole before ns n keeps is stays =
    let h : n.1 ≤ suc n.0 = omega arith in
    keeps ∙ ap next_numbers is ∙ next-last ns n ∙ ap (last_raised ns n) (le-ltb (suc n.0) n.1 h)
