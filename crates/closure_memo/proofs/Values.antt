-- The values that are kept under numbers, once a place was added or a value put.
use Rattle.std.proofs.Common.{arith, ◌≡◌, ℕ, zero, suc, ◌+◌, ◌<◌, ◌≤◌, Bool, true, false, ◌==◌, cond, nat_lt, List, [], ◌∷◌, ◌++◌, length, slice_set, Option, Some, None, is_some, refl, ap, ◌∙◌, inl, inr, ◌⊎◌}
use Rattle.std.proofs.lemmas.Grind.{common_steps}
use Rattle.std.proofs.lemmas.List.{length-append}
use Rattle.std.proofs.lemmas.List.Sums.{sum_by-cons, sum_by-append}
use Rattle.std.specs.List.{count_by}
use Rattle.closure_memo.specs.Memo.{value_at, with_place}

-- an empty place at the end has no value
value_snoc : {V : Type 0} (values : List (Option V)) (n : ℕ) → value_at n (values ++ None ∷ []) ≡ value_at n values
value_snoc [] zero = refl
value_snoc [] (suc n) = refl
value_snoc (v ∷ values) zero = refl
value_snoc (v ∷ values) (suc n) = value_snoc values n

pub value_placed : {V : Type 0} (number : ℕ) (values : List (Option V)) (n : ℕ) → value_at n (with_place number values) ≡ value_at n values
value_placed number values n = go (nat_lt number (length values)) refl
  where
    go : (b : Bool) → nat_lt number (length values) ≡ b → value_at n (with_place number values) ≡ value_at n values
    go true e = ap (λ b. value_at n (cond b values (values ++ None ∷ []))) e
    go false e = ap (λ b. value_at n (cond b values (values ++ None ∷ []))) e ∙ value_snoc values n

-- the values grow by a place exactly where the number is the next
pub places_grow : {V : Type 0} (number : ℕ) (values : List (Option V)) → number ≤ length values
    → ((number < length values) × (length (with_place number values) ≡ length values)) ⊎ ((number ≡ length values) × (length (with_place number values) ≡ length values + 1))
places_grow number values within = go (nat_lt number (length values)) refl
  where
    go : (b : Bool) → nat_lt number (length values) ≡ b
        → ((number < length values) × (length (with_place number values) ≡ length values)) ⊎ ((number ≡ length values) × (length (with_place number values) ≡ length values + 1))
    go true e = inl (grind (arith, common_steps, e), ap (λ b. length (cond b values (values ++ None ∷ []))) e)
    go false e = inr (grind (arith, common_steps, e, within), ap (λ b. length (cond b values (values ++ None ∷ []))) e ∙ length-append values (None ∷ []))

pub value_set_here : {V : Type 0} (values : List (Option V)) (number : ℕ) (v : V) → number < length values → value_at number (slice_set values number (Some v)) ≡ Some v
value_set_here [] number v less = absurd (omega (arith, less))
value_set_here (w ∷ values) zero v less = refl
value_set_here (w ∷ values) (suc number) v less = value_set_here values number v (omega (arith, less))

pub value_set_else : {V : Type 0} (values : List (Option V)) (number n : ℕ) (v : V) → (number == n) ≡ false → value_at n (slice_set values number (Some v)) ≡ value_at n values
value_set_else [] number n v other = refl
value_set_else (w ∷ values) zero zero v other = absurd (grind (arith, common_steps, other))
value_set_else (w ∷ values) zero (suc n) v other = refl
value_set_else (w ∷ values) (suc number) zero v other = refl
value_set_else (w ∷ values) (suc number) (suc n) v other = value_set_else values number n v (grind (arith, common_steps, other))

values_cons : {V : Type 0} (v : Option V) (values : List (Option V)) → count_by is_some (v ∷ values) ≡ cond (is_some v) 1 0 + count_by is_some values
values_cons v values = sum_by-cons (λ w. cond (is_some w) 1 0) v values

-- a place holds no value before one is put
pub values_placed : {V : Type 0} (number : ℕ) (values : List (Option V)) → count_by is_some (with_place number values) ≡ count_by is_some values
values_placed {V = V} number values = go (nat_lt number (length values)) refl
  where
    go : (b : Bool) → nat_lt number (length values) ≡ b → count_by is_some (with_place number values) ≡ count_by is_some values
    go true e = ap (λ b. count_by is_some (cond b values (values ++ None ∷ []))) e
    go false e =
        let more : count_by is_some (values ++ None ∷ []) ≡ count_by is_some values + 0 = sum_by-append (λ (v : Option V). cond (is_some v) 1 0) values (None ∷ []) in
        ap (λ b. count_by is_some (cond b values (values ++ None ∷ []))) e ∙ more ∙ omega arith

-- a value that is put where there was none is one more
pub values_more : {V : Type 0} (values : List (Option V)) (number : ℕ) (v : V) → number < length values → is_some (value_at number values) ≡ false
    → count_by is_some (slice_set values number (Some v)) ≡ count_by is_some values + 1
values_more [] number v less none = absurd (omega (arith, less))
values_more (Some w ∷ values) zero v less none = absurd (grind (arith, common_steps, none))
values_more (None ∷ values) zero v less none = omega (arith, values_cons (Some v) values, values_cons None values)
values_more (w ∷ values) (suc number) v less none =
    omega (arith, values_cons w (slice_set values number (Some v)), values_cons w values, values_more values number v (omega (arith, less)) none)
