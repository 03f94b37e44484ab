-- Whether one of the tokens of a line passes a test.
use Rattle.std.proofs.Common.{◌≡◌, ◌+◌, ℕ, Bool, ◌||◌, List, [], drop, None, Some, refl, sym, ◌∙◌, ap}
use Rattle.std.specs.Prelude.{option_and_then}
use Rattle.std.specs.List.{list_any, slice_get}
use Rattle.base_types.proofs.Lists.{row_at, copied_more, copied_all}

-- the token at a place tells, or those behind it do
pub any_here : {A : Type 0} (test : A → Bool) (rows : List (List A)) (row place : ℕ) (x : A) (b : Bool) → Some x ≡ option_and_then (λ xs. slice_get xs place) (slice_get rows row) → b ≡ test x
    → list_any test (drop place (row_at rows row)) ≡ (b || list_any test (drop (place + 1) (row_at rows row)))
any_here test rows row place x b is told =
    ap (list_any test) (sym (copied_more rows row place x [] (drop place (row_at rows row)) is refl)) ∙ ap (λ (c : Bool). c || list_any test (drop (place + 1) (row_at rows row))) (sym told)

-- no token is there
pub any_past : {A : Type 0} (test : A → Bool) (rows : List (List A)) (row place : ℕ) → None ≡ option_and_then (λ xs. slice_get xs place) (slice_get rows row)
    → list_any test (drop place (row_at rows row)) ≡ list_any test (drop (place + 1) (row_at rows row))
any_past test rows row place is = ap (list_any test) (sym (copied_all rows row place [] (drop place (row_at rows row)) is refl))
