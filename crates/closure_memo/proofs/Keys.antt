-- Keys that are numbered by first sight, once one more was seen.
use Rattle.std.proofs.Common.{arith, ◌≡◌, ℕ, zero, suc, ◌+◌, ◌<◌, ◌≤◌, Bool, true, false, not, cond, nat_lt, List, [], ◌∷◌, ◌++◌, length, slice_get, Some, None, refl, sym, ap, ◌∙◌, subst, inl, inr, ◌⊎◌, ⊎_elim, if◌then◌else◌}
use Rattle.std.proofs.lemmas.Grind.{common_steps}
use Rattle.std.proofs.lemmas.List.{length-append}
use Rattle.std.proofs.lemmas.Option.{slice_get_within}
use Rattle.std.specs.List.{list_any, position, position_or_len}
use Rattle.closure_memo.specs.Memo.{number_of, with_key}
use Rattle.closure_memo.proofs.Histories.{get_snoc}

-- the numbers of the first element that passes, of a list with one more in front
pub first_here : {A : Type 0} (test : A → Bool) (x : A) (xs : List A) → test x ≡ true → position_or_len test (x ∷ xs) ≡ 0
first_here test x xs e = ap (λ b. cond (not b) (1 + position_or_len test xs) 0) e

pub first_behind : {A : Type 0} (test : A → Bool) (x : A) (xs : List A) → test x ≡ false → position_or_len test (x ∷ xs) ≡ suc (position_or_len test xs)
first_behind test x xs e = ap (λ b. cond (not b) (1 + position_or_len test xs) 0) e ∙ omega arith

some_more : (n : ℕ) → true ≡ nat_lt 0 (suc n)
some_more n = grind (arith, common_steps)

one_more : (m n : ℕ) → nat_lt m n ≡ nat_lt (1 + m) (suc n)
one_more m n = grind (arith, common_steps)

-- an element passes exactly where the first that passes is within the list
any_within : {A : Type 0} (test : A → Bool) (xs : List A) → list_any test xs ≡ nat_lt (position_or_len test xs) (length xs)
any_within test [] = refl
any_within test (x ∷ xs) = go (any_within test xs) (test x) refl
  where
    go : list_any test xs ≡ nat_lt (position_or_len test xs) (length xs) → (b : Bool) → test x ≡ b → list_any test (x ∷ xs) ≡ nat_lt (position_or_len test (x ∷ xs)) (length (x ∷ xs))
    go ih true e = rw e (some_more (length xs))
    go ih false e = rw e (ih ∙ one_more (position_or_len test xs) (length xs))

module _ {K : Type 0} (eq : K → K → Bool) where
  -- the keys as a set adds one
  pub inserted_is : (key : K) (keys : List K) → (if list_any (eq key) keys then keys else keys ++ key ∷ []) ≡ with_key eq key keys
  inserted_is key keys = ap (λ b. if b then keys else keys ++ key ∷ []) (any_within (eq key) keys)

  pub number_within : (key : K) (keys : List K) → number_of eq key keys ≤ length keys
  number_within key [] = omega arith
  number_within key (k ∷ keys) = go (number_within key keys) (eq key k) refl
    where
      go : number_of eq key keys ≤ length keys → (b : Bool) → eq key k ≡ b → number_of eq key (k ∷ keys) ≤ length (k ∷ keys)
      go ih true e = omega (arith, first_here (eq key) k keys e)
      go ih false e = omega (arith, first_behind (eq key) k keys e, ih)

  -- what `position` finds is the number, and where it finds nothing the key is new
  pub number_found : (key : K) (keys : List K) (n : ℕ) → Some n ≡ position (eq key) keys → n ≡ number_of eq key keys
  number_found key keys n is = go (nat_lt (number_of eq key keys) (length keys)) refl
    where
      go : (b : Bool) → nat_lt (number_of eq key keys) (length keys) ≡ b → n ≡ number_of eq key keys
      go true e = grind (arith, is ∙ ap (λ b. cond b (Some (number_of eq key keys)) None) e)
      go false e = absurd (grind (arith, is ∙ ap (λ b. cond b (Some (number_of eq key keys)) None) e))

  pub number_new : (key : K) (keys : List K) → None ≡ position (eq key) keys → length keys ≡ number_of eq key keys
  number_new key keys is = go (nat_lt (number_of eq key keys) (length keys)) refl
    where
      go : (b : Bool) → nat_lt (number_of eq key keys) (length keys) ≡ b → length keys ≡ number_of eq key keys
      go true e = absurd (grind (arith, is ∙ ap (λ b. cond b (Some (number_of eq key keys)) None) e))
      go false e = grind (arith, common_steps, e, number_within key keys)

  -- the keys grow by one exactly where the key is new
  pub keys_grow : (key : K) (keys : List K)
      → ((number_of eq key keys < length keys) × (length (with_key eq key keys) ≡ length keys)) ⊎ ((number_of eq key keys ≡ length keys) × (length (with_key eq key keys) ≡ length keys + 1))
  keys_grow key keys = go (nat_lt (number_of eq key keys) (length keys)) refl
    where
      go : (b : Bool) → nat_lt (number_of eq key keys) (length keys) ≡ b
          → ((number_of eq key keys < length keys) × (length (with_key eq key keys) ≡ length keys)) ⊎ ((number_of eq key keys ≡ length keys) × (length (with_key eq key keys) ≡ length keys + 1))
      go true e = inl (grind (arith, common_steps, e), ap (λ b. length (cond b keys (keys ++ key ∷ []))) e)
      go false e = inr (grind (arith, common_steps, e, number_within key keys), ap (λ b. length (cond b keys (keys ++ key ∷ []))) e ∙ length-append keys (key ∷ []))

  -- the key at its own number is the key
  pub key_is_there : ((a b : K) → eq a b ≡ true → a ≡ b) → (key : K) (keys : List K) (k : K) → slice_get keys (number_of eq key keys) ≡ Some k → k ≡ key
  key_is_there exact key [] k at = absurd (grind (arith, at))
  key_is_there exact key (j ∷ keys) k at = go (key_is_there exact key keys k) (eq key j) refl
    where
      go : (slice_get keys (number_of eq key keys) ≡ Some k → k ≡ key) → (b : Bool) → eq key j ≡ b → k ≡ key
      go ih true e = let at' : slice_get (j ∷ keys) 0 ≡ Some k = subst (λ n. slice_get (j ∷ keys) n ≡ Some k) (first_here (eq key) j keys e) at in sym (grind (arith, at')) ∙ sym (exact key j e)
      go ih false e = ih (subst (λ n. slice_get (j ∷ keys) n ≡ Some k) (first_behind (eq key) j keys e) at)

  -- a key that is there has a number below the number of keys
  pub key_was_seen : (key : K) → eq key key ≡ true → (keys : List K) (n : ℕ) → slice_get keys n ≡ Some key → number_of eq key keys < length keys
  key_was_seen key same [] n at = absurd (grind (arith, at))
  key_was_seen key same (j ∷ keys) zero at =
      let is : j ≡ key = grind (arith, at) in
      omega (arith, first_here (eq key) j keys (ap (eq key) is ∙ same))
  key_was_seen key same (j ∷ keys) (suc n) at = go (key_was_seen key same keys n at) (eq key j) refl
    where
      go : number_of eq key keys < length keys → (b : Bool) → eq key j ≡ b → number_of eq key (j ∷ keys) < length (j ∷ keys)
      go ih true e = omega (arith, first_here (eq key) j keys e)
      go ih false e = omega (arith, first_behind (eq key) j keys e, ih)

  -- a key among those once this one was seen was there, or is this one at the end
  pub keys_then : (key : K) (keys : List K) (n : ℕ) (k : K) → slice_get (with_key eq key keys) n ≡ Some k
      → ((n < length keys) × (slice_get keys n ≡ Some k)) ⊎ ((n ≡ length keys) × (number_of eq key keys ≡ length keys) × (key ≡ k))
  keys_then key keys n k at = go (nat_lt (number_of eq key keys) (length keys)) refl
    where
      go : (b : Bool) → nat_lt (number_of eq key keys) (length keys) ≡ b → ((n < length keys) × (slice_get keys n ≡ Some k)) ⊎ ((n ≡ length keys) × (number_of eq key keys ≡ length keys) × (key ≡ k))
      go true e =
          let was : slice_get keys n ≡ Some k = subst (λ l. slice_get l n ≡ Some k) (ap (λ b. cond b keys (keys ++ key ∷ [])) e) at in
          inl (slice_get_within keys n k was, was)
      go false e = ⊎_elim (λ h. inl (h.0, h.1)) (λ h. inr (h.0, grind (arith, common_steps, e, number_within key keys), h.1)) (get_snoc keys key n k (subst (λ l. slice_get l n ≡ Some k) (ap (λ b. cond b keys (keys ++ key ∷ [])) e) at))

  -- the key at its own number, once it was seen, is the key
  pub key_then : ((a b : K) → eq a b ≡ true → a ≡ b) → (key : K) (keys : List K) (k : K) → slice_get (with_key eq key keys) (number_of eq key keys) ≡ Some k → k ≡ key
  key_then exact key keys k at = ⊎_elim (λ h. key_is_there exact key keys k h.1) (λ h. sym h.2) (keys_then key keys (number_of eq key keys) k at)

  -- no two numbers have one key, once this one was seen
  pub distinct_then : (key : K) → eq key key ≡ true → (keys : List K)
      → ((i j : ℕ) (k : K) → slice_get keys i ≡ Some k → slice_get keys j ≡ Some k → i ≡ j)
      → (i j : ℕ) (k : K) → slice_get (with_key eq key keys) i ≡ Some k → slice_get (with_key eq key keys) j ≡ Some k → i ≡ j
  distinct_then key same keys distinct i j k at_i at_j = go (keys_then key keys i k at_i) (keys_then key keys j k at_j)
    where
      Old : ℕ → Type 0
      Old n = (n < length keys) × (slice_get keys n ≡ Some k)

      Last : ℕ → Type 0
      Last n = (n ≡ length keys) × (number_of eq key keys ≡ length keys) × (key ≡ k)

      clash : (n : ℕ) → slice_get keys n ≡ Some k → number_of eq key keys ≡ length keys → key ≡ k → i ≡ j
      clash n at new is = absurd (omega (arith, new, key_was_seen key same keys n (at ∙ ap Some (sym is))))

      go : Old i ⊎ Last i → Old j ⊎ Last j → i ≡ j
      go (inl a) (inl b) = distinct i j k a.1 b.1
      go (inl a) (inr b) = clash i a.1 b.1 b.2
      go (inr a) (inl b) = clash j b.1 a.1 a.2
      go (inr a) (inr b) = a.0 ∙ sym b.0
