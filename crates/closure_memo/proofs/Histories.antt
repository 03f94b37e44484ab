-- Histories that are one call longer.
use Rattle.std.proofs.Common.{arith, ◌≡◌, ℕ, zero, suc, ◌+◌, ◌<◌, ◌≤◌, max, Bool, true, false, ◌||◌, cond, List, [], ◌∷◌, ◌++◌, take, length, slice_get, Some, is_some, refl, sym, ap, ◌∙◌, subst, inl, inr, ◌⊎◌, ⊎_elim}
use Rattle.std.proofs.lemmas.List.Sums.{sum_by-append, fold-append}
use Rattle.std.proofs.lemmas.Grind.{common_steps}
use Rattle.std.proofs.lemmas.List.{take-append-le}
use Rattle.std.proofs.Math.Seq.{take-append_seam}
use Rattle.std.specs.List.{count_by}
use Rattle.closure_memo.specs.declared.step.MemoCall.{MemoCall}
use Rattle.closure_memo.specs.History.{is_new, keeps_key, has_new, new_weight, kept_weight, seen_keys, CallMayFollow, IsLegal}

-- an element of a list that is one longer
pub get_snoc : {A : Type 0} (xs : List A) (x : A) (i : ℕ) (y : A) → slice_get (xs ++ x ∷ []) i ≡ Some y → ((i < length xs) × (slice_get xs i ≡ Some y)) ⊎ ((i ≡ length xs) × (x ≡ y))
get_snoc [] x zero y e = inr (refl, grind (arith, e))
get_snoc [] x (suc i) y e = absurd (grind (arith, e))
get_snoc (z ∷ xs) x zero y e = inl (omega arith, e)
get_snoc (z ∷ xs) x (suc i) y e = ⊎_elim (λ h. inl (omega (arith, h.0), h.1)) (λ h. inr (ap suc h.0, h.1)) (get_snoc xs x i y e)

-- what holds of each element with what stands before it holds so once an element more has it
pub each_snoc : {A : Type 0} (P : List A → A → Type 0) (xs : List A) (x : A)
    → ((place : ℕ) (y : A) → slice_get xs place ≡ Some y → P (take place xs) y) → P xs x
    → (place : ℕ) (y : A) → slice_get (xs ++ x ∷ []) place ≡ Some y → P (take place (xs ++ x ∷ [])) y
each_snoc P xs x each last place y at = ⊎_elim
    (λ h. subst (λ before. P before y) (sym (take-append-le place xs (x ∷ []) (omega (arith, h.0)))) (each place y h.1))
    (λ h. subst (λ before. P before y) (sym (ap (λ n. take n (xs ++ x ∷ [])) h.0 ∙ take-append_seam xs (x ∷ []))) (subst (λ u. P xs u) h.1 last))
    (get_snoc xs x place y at)

pub weight_snoc : (steps : List MemoCall) (s : MemoCall) → kept_weight (steps ++ s ∷ []) ≡ kept_weight steps + cond (is_new s.what) s.weight 0
weight_snoc steps s = sum_by-append (λ (s : MemoCall). cond (is_new s.what) s.weight 0) steps (s ∷ []) ∙ omega arith

pub news_snoc : (steps : List MemoCall) (s : MemoCall) → count_by (λ call. is_new call.what) (steps ++ s ∷ []) ≡ count_by (λ call. is_new call.what) steps + cond (is_new s.what) 1 0
news_snoc steps s = sum_by-append (λ (s : MemoCall). cond (is_new s.what) 1 0) steps (s ∷ []) ∙ omega arith

pub seen_snoc : (steps : List MemoCall) (s : MemoCall) → seen_keys (steps ++ s ∷ []) ≡ max (seen_keys steps) (s.key + 1)
seen_snoc steps s = fold-append (λ seen (call : MemoCall). max seen (call.key + 1)) 0 steps (s ∷ [])

pub legal_more : (limit : ℕ) (steps : List MemoCall) (s : MemoCall) → IsLegal limit steps → CallMayFollow limit steps s → kept_weight (steps ++ s ∷ []) ≤ limit → IsLegal limit (steps ++ s ∷ [])
legal_more limit steps s legal may within = record {
  follows = each_snoc (CallMayFollow limit) steps s legal.follows may;
  within = within;
}

-- a key has a New exactly where one gives it a weight
pub weight_is_new : (number : ℕ) (steps : List MemoCall) → is_some (new_weight number steps) ≡ has_new number steps
weight_is_new number [] = refl
weight_is_new number (s ∷ steps) = go (weight_is_new number steps) (keeps_key number s) refl
  where
    go : is_some (new_weight number steps) ≡ has_new number steps → (b : Bool) → keeps_key number s ≡ b → is_some (new_weight number (s ∷ steps)) ≡ has_new number (s ∷ steps)
    go ih true e = rw e refl
    go ih false e = rw e ih

-- a call that keeps no value under the number leaves its weight
pub weight_stays : (number : ℕ) (steps : List MemoCall) (s : MemoCall) → keeps_key number s ≡ false → new_weight number (steps ++ s ∷ []) ≡ new_weight number steps
weight_stays number [] s other = rw other refl
weight_stays number (t ∷ steps) s other = ap (λ w. cond (keeps_key number t) (Some t.weight) w) (weight_stays number steps s other)

-- a New is the first of its key where the key had none
pub weight_first : (number : ℕ) (steps : List MemoCall) (s : MemoCall) → keeps_key number s ≡ true → has_new number steps ≡ false → new_weight number (steps ++ s ∷ []) ≡ Some s.weight
weight_first number [] s here none = rw here refl
weight_first number (t ∷ steps) s here none = go (keeps_key number t) refl none (weight_first number steps s here)
  where
    go : (b : Bool) → keeps_key number t ≡ b → (keeps_key number t || has_new number steps) ≡ false → (has_new number steps ≡ false → new_weight number (steps ++ s ∷ []) ≡ Some s.weight)
        → cond (keeps_key number t) (Some t.weight) (new_weight number (steps ++ s ∷ [])) ≡ Some s.weight
    go true e none ih = absurd (grind (arith, common_steps, e, none))
    go false e none ih = rw e (ih (ap (λ b. b || has_new number steps) (sym e) ∙ none))
