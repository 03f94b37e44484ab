-- Facts of all members of a list that is longer, and lists in a list, read from a place on.
use Rattle.std.proofs.Common.{◌≡◌, ◌≤◌, ◌+◌, ℕ, List, [], ◌∷◌, ◌++◌, length, drop, Option, None, Some, refl, sym, ◌∙◌, ap, append_assoc, inl, inr, arith}
use Rattle.std.specs.Prelude.{unwrap_or, option_and_then}
use Rattle.std.specs.List.{slice_get, AllByRecursion}
use Rattle.std.proofs.lemmas.List.{at_drop_more, drop_all}
use Rattle.std.proofs.lemmas.Option.{slice_get_within, slice_get_cases, get_or_from_slice_get}

pub all_append : {A : Type 0} (P : A → Type 0) (xs ys : List A) → AllByRecursion P xs → AllByRecursion P ys → AllByRecursion P (xs ++ ys)
all_append P [] ys all more = more
all_append P (x ∷ xs) ys all more = (all.0, all_append P xs ys all.1 more)

pub all_push : {A : Type 0} (P : A → Type 0) (xs : List A) (x : A) → AllByRecursion P xs → P x → AllByRecursion P (xs ++ x ∷ [])
all_push P xs x all one = all_append P xs (x ∷ []) all (one, tt)

-- the list at a number of a list of lists, or the empty one
abbrev pub row_at : {A : Type 0} → List (List A) → ℕ → List A
row_at rows row = unwrap_or (slice_get rows row) []

-- the element at a place of a row
element_at : {A : Type 0} (rows : List (List A)) (row place : ℕ) (o : Option A) → o ≡ option_and_then (λ xs. slice_get xs place) (slice_get rows row) → slice_get (row_at rows row) place ≡ o
element_at {A = A} rows row place o is = sym (is ∙ within (slice_get rows row))
  where
    within : (found : Option (List A)) → option_and_then (λ xs. slice_get xs place) found ≡ slice_get (unwrap_or found []) place
    within None = refl
    within (Some xs) = refl

-- the row from a place on, where an element is there
element_there : {A : Type 0} (rows : List (List A)) (row place : ℕ) (x : A) → Some x ≡ option_and_then (λ xs. slice_get xs place) (slice_get rows row) → drop place (row_at rows row) ≡ x ∷ drop (place + 1) (row_at rows row)
element_there {A = A} rows row place x is =
    let at : slice_get (row_at rows row) place ≡ Some x = element_at rows row place (Some x) is in
    at_drop_more (λ (xs : List A). xs) (row_at rows row) place x (slice_get_within (row_at rows row) place x at)
    ∙ ap (λ (y : A). y ∷ drop (place + 1) (row_at rows row)) (get_or_from_slice_get (row_at rows row) place x x at)

-- no element is at a place past the row's end
past_end : {A : Type 0} (rows : List (List A)) (row place : ℕ) → None ≡ option_and_then (λ xs. slice_get xs place) (slice_get rows row) → length (row_at rows row) ≤ place
past_end rows row place is =
    let at : slice_get (row_at rows row) place ≡ None = element_at rows row place None is in
    elim (slice_get_cases (row_at rows row) place).1 [ inl (x, below, there, same) ↦ absurd (cc) | inr (above, none) ↦ above ]

-- one more element is copied
pub copied_more : {A : Type 0} (rows : List (List A)) (row place : ℕ) (x : A) (before whole : List A) → Some x ≡ option_and_then (λ xs. slice_get xs place) (slice_get rows row) → before ++ drop place (row_at rows row) ≡ whole → (before ++ x ∷ []) ++ drop (place + 1) (row_at rows row) ≡ whole
copied_more rows row place x before whole is so_far =
    rw append_assoc (rw (← element_there rows row place x is) so_far)

-- where none is left
pub copied_all : {A : Type 0} (rows : List (List A)) (row place : ℕ) (before whole : List A) → None ≡ option_and_then (λ xs. slice_get xs place) (slice_get rows row) → before ++ drop place (row_at rows row) ≡ whole → before ++ drop (place + 1) (row_at rows row) ≡ whole
copied_all rows row place before whole is so_far =
    let end : length (row_at rows row) ≤ place = past_end rows row place is in
    let none : drop place (row_at rows row) ≡ [] = drop_all place (row_at rows row) end in
    rw (drop_all (place + 1) (row_at rows row) (omega arith), ← none) so_far
