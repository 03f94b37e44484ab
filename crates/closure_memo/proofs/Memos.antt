-- A look and a publication keep what every memo keeps.
use Rattle.std.proofs.Common.{arith, ◌≡◌, ℕ, zero, suc, ◌+◌, ◌<◌, ◌≤◌, Bool, true, false, ◌&&◌, ◌==◌, cond, nat_lt, List, [], ◌∷◌, ◌++◌, length, slice_get, slice_set, Option, Some, None, is_some, refl, sym, ap, ◌∙◌, subst, ⊎_elim}
use Rattle.std.proofs.lemmas.Grind.{common_steps}
use Rattle.std.proofs.lemmas.List.{length-set}
use Rattle.std.specs.List.{count_by}
use Rattle.std.specs.Option.{option_map}
use Rattle.closure_memo.specs.declared.step.MemoCall.{MemoCall}
use Rattle.closure_memo.specs.declared.step.What.TheVariants as what
use Rattle.closure_memo.specs.declared.step.Kept.{Kept}
use Rattle.closure_memo.specs.declared.step.Kept.TheVariants as kept
use Rattle.closure_memo.specs.History.{is_new, has_new, new_weight, kept_weight, seen_keys, CallMayFollow, AreNumbered}
use Rattle.closure_memo.specs.Memo.{Memo, memo_call, value_at, with_place, values_after, publication, what_of, look_of, number_of, with_key, found, after_look, publish_of, after_publish, IsMemo}
use Rattle.closure_memo.proofs.Histories.{get_snoc, each_snoc, weight_snoc, news_snoc, seen_snoc, legal_more, weight_is_new, weight_stays, weight_first}
use Rattle.closure_memo.proofs.Keys.{number_within, keys_grow, keys_then, key_is_there, key_then, distinct_then}
use Rattle.closure_memo.proofs.Values.{value_placed, values_placed, values_more, places_grow, value_set_here, value_set_else}

mapped_some : {A B : Type 0} (f : A → B) (o : Option A) → is_some (option_map f o) ≡ is_some o
mapped_some f (Some x) = refl
mapped_some f None = refl

-- where a list has a value at a number, the list is longer than the number
value_below : {V : Type 0} (values : List (Option V)) (number : ℕ) (v : V) → value_at number values ≡ Some v → number < length values
value_below [] number v is = absurd (grind (arith, is))
value_below (w ∷ values) zero v is = omega arith
value_below (w ∷ values) (suc number) v is = omega (arith, value_below values number v is)

pub get_within : {A : Type 0} (xs : List A) (i : ℕ) → i < length xs → (x : A) × (slice_get xs i ≡ Some x)
get_within [] i less = absurd (omega arith)
get_within (x ∷ xs) zero less = (x, refl)
get_within (x ∷ xs) (suc i) less = get_within xs i (omega (arith, less))

module _ {K : Type 0} (eq : K → K → Bool) where
  -- the keys are numbered by first sight after a call with this key
  numbered_then : (key : K) → eq key key ≡ true → (keys : List K) (steps : List MemoCall) (s : MemoCall) → s.key ≡ number_of eq key keys
      → AreNumbered keys steps → AreNumbered (with_key eq key keys) (steps ++ s ∷ [])
  numbered_then key same keys steps s its numbered = record {
    distinct = distinct_then eq key same keys numbered.distinct;
    by_sight = each_snoc (λ before (call : MemoCall). call.key ≤ seen_keys before) steps s numbered.by_sight (omega (arith, its, numbered.all_seen, number_within eq key keys));
    all_seen = seen_snoc steps s ∙ ⊎_elim
        (λ h. omega (arith, h.0, h.1, its, numbered.all_seen))
        (λ h. omega (arith, h.0, h.1, its, numbered.all_seen)) (keys_grow eq key keys);
    listed = λ place t at. ⊎_elim
        (λ h. ⊎_elim (λ g. omega (arith, g.1, numbered.listed place t h.1)) (λ g. omega (arith, g.1, numbered.listed place t h.1)) (keys_grow eq key keys))
        (λ h. subst (λ (u : MemoCall). u.key < length (with_key eq key keys)) h.1 (⊎_elim (λ g. omega (arith, g.0, g.1, its)) (λ g. omega (arith, g.0, g.1, its)) (keys_grow eq key keys)))
        (get_snoc steps s place t at);
  }

module _ {K V : Type 0} (eq : K → K → Bool) (Right : K → V → Type 0) (weigh : V → ℕ) where
  -- a value is kept under a number exactly where the history has a New of it
  pub found_is_new : (memo : Memo K V) → IsMemo Right weigh memo → (number : ℕ) → is_some (value_at number memo.values) ≡ has_new number memo.steps
  found_is_new memo holds number = sym (mapped_some weigh (value_at number memo.values)) ∙ ap is_some (holds.values number) ∙ weight_is_new number memo.steps

  -- the number of a key is a place among the values, or the next
  pub number_fits : (memo : Memo K V) → IsMemo Right weigh memo → (key : K) → number_of eq key memo.keys ≤ length memo.values
  number_fits memo holds key = omega (arith, holds.places, number_within eq key memo.keys)

  placed_fits : (memo : Memo K V) → IsMemo Right weigh memo → (key : K) → length (with_place (number_of eq key memo.keys) memo.values) ≡ length (with_key eq key memo.keys)
  placed_fits memo holds key = ⊎_elim
      (λ h. ⊎_elim (λ g. omega (arith, h.0, h.1, g.0, g.1, holds.places)) (λ g. absurd (omega (arith, h.0, g.0, holds.places))) (places_grow (number_of eq key memo.keys) memo.values (number_fits memo holds key)))
      (λ h. ⊎_elim (λ g. absurd (omega (arith, h.0, g.0, holds.places))) (λ g. omega (arith, h.0, h.1, g.0, g.1, holds.places)) (places_grow (number_of eq key memo.keys) memo.values (number_fits memo holds key)))
      (keys_grow eq key memo.keys)

  -- the place of the key, once it was seen
  pub number_placed : (memo : Memo K V) → IsMemo Right weigh memo → (key : K) → number_of eq key memo.keys < length (with_place (number_of eq key memo.keys) memo.values)
  number_placed memo holds key = ⊎_elim (λ g. omega (arith, g.0, g.1)) (λ g. omega (arith, g.0, g.1)) (places_grow (number_of eq key memo.keys) memo.values (number_fits memo holds key))

  -- a value that was kept is right for the key at its number, also among the keys once this one was seen
  right_then : (memo : Memo K V) → IsMemo Right weigh memo → (key : K) → (number : ℕ) (k : K) (v : V) → slice_get (with_key eq key memo.keys) number ≡ Some k → value_at number memo.values ≡ Some v → Right k v
  right_then memo holds key number k v at is = ⊎_elim
      (λ h. holds.right number k v h.1 is)
      (λ h. absurd (omega (arith, h.0, holds.places, value_below memo.values number v is)))
      (keys_then eq key memo.keys number k at)

  -- a call that keeps no value keeps the rest
  plain_keeps : (memo : Memo K V) → IsMemo Right weigh memo → (key : K) → eq key key ≡ true → (s : MemoCall) → s.key ≡ number_of eq key memo.keys → is_new s.what ≡ false → CallMayFollow memo.limit memo.steps s
      → (kept_weight (memo.steps ++ s ∷ []) ≡ kept_weight memo.steps)
      × IsMemo Right weigh (record { limit = memo.limit; keys = with_key eq key memo.keys; values = with_place (number_of eq key memo.keys) memo.values; steps = memo.steps ++ s ∷ [] })
  plain_keeps memo holds key same s its other may =
      let weight : kept_weight (memo.steps ++ s ∷ []) ≡ kept_weight memo.steps = weight_snoc memo.steps s ∙ ap (λ b. kept_weight memo.steps + cond {A = ℕ} b s.weight 0) other ∙ omega arith in (
        weight,
        record {
          legal = legal_more memo.limit memo.steps s holds.legal may (omega (arith, weight, holds.legal.within));
          numbered = numbered_then eq key same memo.keys memo.steps s its holds.numbered;
          places = placed_fits memo holds key;
          values = λ n. ap (option_map weigh) (value_placed (number_of eq key memo.keys) memo.values n) ∙ holds.values n ∙ sym (weight_stays n memo.steps s (ap (λ b. b && (s.key == n)) other));
          news = news_snoc memo.steps s ∙ ap (λ b. count_by (λ (call : MemoCall). is_new call.what) memo.steps + cond b 1 0) other ∙ omega (arith, holds.news, values_placed (number_of eq key memo.keys) memo.values);
          right = λ n k v at is. right_then memo holds key n k v at (sym (value_placed (number_of eq key memo.keys) memo.values n) ∙ is);
        },
      )

  look_follows : (limit : ℕ) (before : List MemoCall) (client number : ℕ) (got : Option V) → is_some got ≡ has_new number before → CallMayFollow limit before (memo_call client number (look_of got) 0)
  look_follows limit before client number (Some v) is = (sym is, refl)
  look_follows limit before client number None is = (sym is, refl)

  look_is_no_new : (got : Option V) → is_new (look_of got) ≡ false
  look_is_no_new (Some v) = refl
  look_is_no_new None = refl

  pub look_keeps : (memo : Memo K V) → IsMemo Right weigh memo → (client : ℕ) (key : K) → eq key key ≡ true
      → (kept_weight (after_look eq client key memo).steps ≡ kept_weight memo.steps) × IsMemo Right weigh (after_look eq client key memo)
  look_keeps memo holds client key same =
      plain_keeps memo holds key same (memo_call client (number_of eq key memo.keys) (look_of (found eq key memo)) 0) refl (look_is_no_new (found eq key memo))
      (look_follows memo.limit memo.steps client (number_of eq key memo.keys) (found eq key memo) (found_is_new memo holds (number_of eq key memo.keys)))

  -- a New keeps the rest, where the key has none and its value is right and within the limit
  new_keeps : ((a b : K) → eq a b ≡ true → a ≡ b) → (memo : Memo K V) → IsMemo Right weigh memo → (key : K) → eq key key ≡ true → (client : ℕ) (v : V) → Right key v
      → has_new (number_of eq key memo.keys) memo.steps ≡ false → kept_weight memo.steps + weigh v ≤ memo.limit
      → (kept_weight (memo.steps ++ memo_call client (number_of eq key memo.keys) what.New (weigh v) ∷ []) ≡ kept_weight memo.steps + weigh v)
      × IsMemo Right weigh (record {
        limit = memo.limit;
        keys = with_key eq key memo.keys;
        values = slice_set (with_place (number_of eq key memo.keys) memo.values) (number_of eq key memo.keys) (Some v);
        steps = memo.steps ++ memo_call client (number_of eq key memo.keys) what.New (weigh v) ∷ [];
      })
  new_keeps exact memo holds key same client v fits none room = (
    weight,
    record {
      legal = legal_more memo.limit memo.steps s holds.legal none (omega (arith, weight, room));
      numbered = numbered_then eq key same memo.keys memo.steps s refl holds.numbered;
      places = length-set placed number (Some v) ∙ placed_fits memo holds key;
      values = λ n. value n (number == n) refl;
      news = news_snoc memo.steps s ∙ omega (arith, holds.news, values_placed number memo.values, values_more placed number v (number_placed memo holds key) unset);
      right = λ n k u at is. right_at n k u at is (number == n) refl;
    },
  )
    where
      number : ℕ
      number = number_of eq key memo.keys

      s : MemoCall
      s = memo_call client number what.New (weigh v)

      placed : List (Option V)
      placed = with_place number memo.values

      unset : is_some (value_at number placed) ≡ false
      unset = ap is_some (value_placed number memo.values number) ∙ found_is_new memo holds number ∙ none

      weight : kept_weight (memo.steps ++ s ∷ []) ≡ kept_weight memo.steps + weigh v
      weight = weight_snoc memo.steps s

      value : (n : ℕ) (b : Bool) → (number == n) ≡ b → option_map weigh (value_at n (slice_set placed number (Some v))) ≡ new_weight n (memo.steps ++ s ∷ [])
      value n true e =
          let here : number ≡ n = grind (arith, common_steps, e) in
          subst (λ m. option_map weigh (value_at m (slice_set placed number (Some v))) ≡ new_weight m (memo.steps ++ s ∷ [])) here
          (ap (option_map weigh) (value_set_here placed number v (number_placed memo holds key)) ∙ sym (weight_first number memo.steps s (subst (λ m. (number == m) ≡ true) (sym here) e) none))
      value n false e =
          ap (option_map weigh) (value_set_else placed number n v e ∙ value_placed number memo.values n) ∙ holds.values n ∙ sym (weight_stays n memo.steps s e)

      right_at : (n : ℕ) (k : K) (u : V) → slice_get (with_key eq key memo.keys) n ≡ Some k → value_at n (slice_set placed number (Some v)) ≡ Some u → (b : Bool) → (number == n) ≡ b → Right k u
      right_at n k u at is true e =
          let here : number ≡ n = grind (arith, common_steps, e) in
          let its_key : k ≡ key = key_then eq exact key memo.keys k (subst (λ m. slice_get (with_key eq key memo.keys) m ≡ Some k) (sym here) at) in
          let its_value : Some v ≡ Some u = sym (value_set_here placed number v (number_placed memo holds key)) ∙ subst (λ m. value_at m (slice_set placed number (Some v)) ≡ Some u) (sym here) is in
          subst (λ (j : K). Right j u) (sym its_key) (subst (λ w. Right key w) (grind (arith, its_value)) fits)
      right_at n k u at is false e =
          right_then memo holds key n k u at (sym (value_set_else placed number n v e ∙ value_placed number memo.values n) ∙ is)

  pub publish_keeps : ((a b : K) → eq a b ≡ true → a ≡ b) → (memo : Memo K V) → IsMemo Right weigh memo → (client : ℕ) (key : K) → eq key key ≡ true → (v : V) → Right key v
      → (kept_weight (after_publish eq client key v (weigh v) memo).steps ≡ kept_weight memo.steps + cond (is_new (what_of (publish_of eq key (weigh v) memo))) (weigh v) 0)
      × IsMemo Right weigh (after_publish eq client key v (weigh v) memo)
  publish_keeps exact memo holds client key same v fits = go (is_some (found eq key memo)) refl
    where
      number : ℕ
      number = number_of eq key memo.keys

      is_new_of : is_some (found eq key memo) ≡ has_new number memo.steps
      is_new_of = found_is_new memo holds number

      then_memo : Kept → Memo K V
      then_memo k = record {
        limit = memo.limit;
        keys = with_key eq key memo.keys;
        values = values_after k number v (with_place number memo.values);
        steps = memo.steps ++ memo_call client number (what_of k) (weigh v) ∷ [];
      }

      Goal : Kept → Type 0
      Goal k = (kept_weight (then_memo k).steps ≡ kept_weight memo.steps + cond (is_new (what_of k)) (weigh v) 0) × IsMemo Right weigh (then_memo k)

      chosen : has_new number memo.steps ≡ false → (b : Bool) → nat_lt memo.limit (kept_weight memo.steps + weigh v) ≡ b → Goal (cond b kept.Full kept.New)
      chosen none true e =
          let keeps = plain_keeps memo holds key same (memo_call client number what.Full (weigh v)) refl refl (none, grind (arith, common_steps, e)) in
          (keeps.0 ∙ omega arith, keeps.1)
      chosen none false e = new_keeps exact memo holds key same client v fits none (grind (arith, common_steps, e))

      go : (b : Bool) → is_some (found eq key memo) ≡ b → Goal (publication memo.limit (kept_weight memo.steps) (weigh v) (is_some (found eq key memo)))
      go true e = subst (λ (b : Bool). Goal (publication memo.limit (kept_weight memo.steps) (weigh v) b)) (sym e)
          (let keeps = plain_keeps memo holds key same (memo_call client number what.Already (weigh v)) refl refl (sym is_new_of ∙ e) in (keeps.0 ∙ omega arith, keeps.1))
      go false e = subst (λ (b : Bool). Goal (publication memo.limit (kept_weight memo.steps) (weigh v) b)) (sym e)
          (chosen (sym is_new_of ∙ e) (nat_lt memo.limit (kept_weight memo.steps + weigh v)) refl)

  -- a value that a look finds is right
  pub found_right : ((a b : K) → eq a b ≡ true → a ≡ b) → (memo : Memo K V) → IsMemo Right weigh memo → (key : K) (v : V) → found eq key memo ≡ Some v → Right key v
  found_right exact memo holds key v is =
      let below : number_of eq key memo.keys < length memo.keys = omega (arith, holds.places, value_below memo.values (number_of eq key memo.keys) v is) in
      let k = get_within memo.keys (number_of eq key memo.keys) below in
      subst (λ (j : K). Right j v) (key_is_there eq exact key memo.keys k.0 k.1) (holds.right (number_of eq key memo.keys) k.0 v k.1 is)
