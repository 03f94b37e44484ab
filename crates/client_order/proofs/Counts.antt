-- What is counted client by client, and in all.
use Rattle.std.proofs.Common.{arith, ◌≡◌, ℕ, zero, suc, ◌+◌, ◌<◌, ◌≤◌, ◌==◌, Bool, true, false, cond, List, [], ◌∷◌, length, Option, None, Some, refl, sym, ap, ◌∙◌, inl, inr, filter, filter_map, ne_eqb, eq-eqb, slice_get, zero-add}
use Rattle.std.specs.List.{flat_map, count_by, sum_by, cons_option, AllByRecursion}
use Rattle.std.proofs.lemmas.Bool.Decides.{eqb_tells, leb_tells}
use Rattle.std.proofs.lemmas.List.Sums.{sum_by-cons, sum_by-append}
use Rattle.closure_memo.specs.declared.step.MemoCall.{MemoCall}
use Rattle.closure_memo.specs.declared.step.What.{What}
use Rattle.closure_memo.specs.History.{AreNumbered}
use Rattle.sheet_build.specs.declared.keys.SheetKey.{SheetKey}
use Rattle.job_ends.specs.Looks.{SheetCall, sheet_call}
use Rattle.job_ends.specs.Works.{Work, works_of}
use Rattle.client_order.proofs.InOrder.{all-filter}
use Rattle.client_order.specs.Ran.{MemoSeen, keyed, call_at, calls_of, count_calls, count_works, count_steps}

-- ---- sums by classes ----

abbrev sum_below : ℕ → (ℕ → ℕ) → ℕ
sum_below zero f = 0
sum_below (suc n) f = sum_below n f + f n

sum-below-same : (n : ℕ) (f g : ℕ → ℕ) → ((k : ℕ) → f k ≡ g k) → sum_below n f ≡ sum_below n g
sum-below-same zero f g same = refl
sum-below-same (suc n) f g same = let rest = sum-below-same n f g same in let last = same n in omega (arith, rest, last)

sum-below-zero : (n : ℕ) → sum_below n (λ k. 0) ≡ 0
sum-below-zero zero = refl
sum-below-zero (suc n) = let rest = sum-below-zero n in omega (arith, rest)

sum-below-plus : (n : ℕ) (f g : ℕ → ℕ) → sum_below n (λ k. f k + g k) ≡ sum_below n f + sum_below n g
sum-below-plus zero f g = refl
sum-below-plus (suc n) f g = let rest = sum-below-plus n f g in omega (arith, rest)

-- one class has the amount, and the others nothing
one-class-none : (n v a : ℕ) → n ≤ v → sum_below n (λ k. cond (v == k) a 0) ≡ 0
one-class-none zero v a le = refl
one-class-none (suc n) v a le =
    let other : (v == n) ≡ false = ne_eqb v n (λ e. absurd (omega (arith, le, e))) in
    let rest = one-class-none n v a (omega (arith, le)) in
    rw (rest, other) refl

one-class : (n v a : ℕ) → v < n → sum_below n (λ k. cond (v == k) a 0) ≡ a
one-class zero v a lt = absurd (omega (arith, lt))
one-class (suc n) v a lt = elim (eqb_tells v n) [
  | inl same ↦ last-class n v a same.0 same.1
  | inr other ↦ (let not_last = other.1 in let rest = one-class n v a (before n v lt not_last) in rw (rest, other.0) (add-none a))
]
  where
    before : (n v : ℕ) → v < suc n → (v ≡ n → ⊥) → v < n
    before n v lt ne = elim (leb_tells n v) [
      | inl above ↦ (let h = above.1 in absurd (ne (omega (arith, lt, h))))
      | inr below ↦ (let h = below.1 in omega (arith, h))
    ]

    add-none : (a : ℕ) → a + 0 ≡ a
    add-none a = omega arith

    last-class : (n v a : ℕ) → (v == n) ≡ true → v ≡ n → sum_below n (λ k. cond (v == k) a 0) + cond (v == n) a 0 ≡ a
    last-class n v a test e = let none = one-class-none n v a (omega (arith, e)) in rw (none, test) (zero-add a)

module _ {X : Type 0} (class : X → ℕ) (amount : X → ℕ) where
  amount-cond : (b : Bool) (x : X) (xs : List X) → sum_by amount (cond b (x ∷ xs) xs) ≡ cond b (amount x) 0 + sum_by amount xs
  amount-cond true x xs = sum_by-cons amount x xs
  amount-cond false x xs = sym (zero-add (sum_by amount xs))

  -- what is summed class by class is the sum of all
  pub by-classes : (n : ℕ) (xs : List X) → AllByRecursion (λ x. class x < n) xs → sum_below n (λ k. sum_by amount (filter (λ x. class x == k) xs)) ≡ sum_by amount xs
  by-classes n [] all = sum-below-zero n
  by-classes n (x ∷ xs) all =
      sum-below-same n (λ k. sum_by amount (filter (λ y. class y == k) (x ∷ xs))) (λ k. cond (class x == k) (amount x) 0 + sum_by amount (filter (λ y. class y == k) xs)) (λ k. amount-cond (class x == k) x (filter (λ y. class y == k) xs))
      ∙ (sum-below-plus n (λ k. cond (class x == k) (amount x) 0) (λ k. sum_by amount (filter (λ y. class y == k) xs))
      ∙ (ap (λ m. m + sum_below n (λ k. sum_by amount (filter (λ y. class y == k) xs))) (one-class n (class x) (amount x) all.0)
      ∙ (ap (λ m. amount x + m) (by-classes n xs all.1)
      ∙ sym (sum_by-cons amount x xs))))

-- ---- the calls of a history ----

abbrev pub IsListed : List SheetKey → MemoCall → Type 0
IsListed keys s = s.key < length keys

get-listed : (keys : List SheetKey) (i : ℕ) → i < length keys → (key : SheetKey) × (slice_get keys i ≡ Some key)
get-listed [] i lt = absurd (omega (arith, lt))
get-listed (key ∷ keys) zero lt = (key, refl)
get-listed (key ∷ keys) (suc i) lt = get-listed keys i (omega (arith, lt))

-- what stands at each place has P, so each has
all-from-places : {X : Type 0} (P : X → Type 0) (xs : List X) → ((i : ℕ) (x : X) → slice_get xs i ≡ Some x → P x) → AllByRecursion P xs
all-from-places P [] at = tt
all-from-places P (x ∷ xs) at = (at 0 x refl, all-from-places P xs (λ i. at (suc i)))

pub each-listed : (keys : List SheetKey) (steps : List MemoCall) → AreNumbered keys steps → AllByRecursion (IsListed keys) steps
each-listed keys steps are = all-from-places (IsListed keys) steps are.listed

count-cons : (kind : What → Bool) (what : What) (key : SheetKey) (calls : List SheetCall) (found : Option SheetKey) → found ≡ Some key → count_calls kind (cons_option (keyed what found) calls) ≡ cond (kind what) 1 0 + count_calls kind calls
count-cons kind what key calls None e = absurd (cc)
count-cons kind what key calls (Some other) e = sum_by-cons (λ (c : SheetCall). cond (kind c.what) 1 0) (sheet_call other what) calls

-- each step of a listed key is a call
count-listed : (kind : What → Bool) (keys : List SheetKey) (steps : List MemoCall) → AllByRecursion (IsListed keys) steps → count_calls kind (filter_map (call_at keys) steps) ≡ count_by (λ (s : MemoCall). kind s.what) steps
count-listed kind keys [] all = refl
count-listed kind keys (s ∷ steps) all =
    let key = get-listed keys s.key all.0 in
    count-cons kind s.what key.0 (filter_map (call_at keys) steps) (slice_get keys s.key) key.1
    ∙ (ap (λ n. cond (kind s.what) 1 0 + n) (count-listed kind keys steps all.1)
    ∙ sym (sum_by-cons (λ (t : MemoCall). cond (kind t.what) 1 0) s steps))

-- ---- whose steps they are ----

some-call : (what : What) (key : SheetKey) (found : Option SheetKey) (calls : List SheetCall) → found ≡ Some key → cons_option (keyed what found) calls ≡ [] → ⊥
some-call what key None calls e none = absurd (cc)
some-call what key (Some other) calls e none = cc

no-more-calls : (o : Option SheetCall) (calls : List SheetCall) → cons_option o calls ≡ [] → calls ≡ []
no-more-calls None calls none = none
no-more-calls (Some c) calls none = absurd (cc)

no-more-steps : (keys : List SheetKey) (b : Bool) (s : MemoCall) (steps : List MemoCall) → filter_map (call_at keys) (cond b (s ∷ steps) steps) ≡ [] → filter_map (call_at keys) steps ≡ []
no-more-steps keys true s steps none = no-more-calls (call_at keys s) (filter_map (call_at keys) steps) none
no-more-steps keys false s steps none = none

head-of-run : (clients : ℕ) (keys : List SheetKey) (s : MemoCall) (steps : List MemoCall) → IsListed keys s
    → ((other : ℕ) → clients ≤ other → filter_map (call_at keys) (filter (λ (t : MemoCall). t.client == other) (s ∷ steps)) ≡ []) → s.client < clients
head-of-run clients keys s steps listed none = elim (leb_tells clients s.client) [
  | inl above ↦ (let key = get-listed keys s.key listed in let same : (s.client == s.client) ≡ true = eq-eqb s.client s.client refl in
      absurd (some-call s.what key.0 (slice_get keys s.key) (filter_map (call_at keys) (filter (λ (t : MemoCall). t.client == s.client) steps)) key.1 (rw same at (none s.client above.1))))
  | inr below ↦ below.1
]

-- where no other number made a call, each step is of one of the clients
pub steps-of-run : (clients : ℕ) (keys : List SheetKey) (steps : List MemoCall) → AllByRecursion (IsListed keys) steps
    → ((other : ℕ) → clients ≤ other → filter_map (call_at keys) (filter (λ (t : MemoCall). t.client == other) steps) ≡ []) → AllByRecursion (λ (s : MemoCall). s.client < clients) steps
steps-of-run clients keys [] listed none = tt
steps-of-run clients keys (s ∷ steps) listed none = (
  head-of-run clients keys s steps listed.0 none,
  steps-of-run clients keys steps listed.1 (λ other above. no-more-steps keys (s.client == other) s (filter (λ (t : MemoCall). t.client == other) steps) (none other above)),
)

-- ---- the works' calls against the history ----

calls-of-works : (kind : What → Bool) (works : List Work) → count_calls kind (flat_map (λ (w : Work). w.calls) works) ≡ count_works kind works
calls-of-works kind [] = refl
calls-of-works kind (w ∷ works) =
    sum_by-append (λ (c : SheetCall). cond (kind c.what) 1 0) w.calls (flat_map (λ (v : Work). v.calls) works)
    ∙ (ap (λ n. count_calls kind w.calls + n) (calls-of-works kind works)
    ∙ sym (sum_by-cons (λ (v : Work). count_calls kind v.calls) w works))

one-client : (kind : What → Bool) (client : ℕ) (works : List Work) (memo : MemoSeen) → AllByRecursion (IsListed memo.keys) memo.steps → flat_map (λ (w : Work). w.calls) (works_of client works) ≡ calls_of client memo
    → count_works kind (works_of client works) ≡ count_by (λ (s : MemoCall). kind s.what) (filter (λ (s : MemoCall). s.client == client) memo.steps)
one-client kind client works memo listed own =
    sym (calls-of-works kind (works_of client works))
    ∙ (ap (count_calls kind) own
    ∙ count-listed kind memo.keys (filter (λ (s : MemoCall). s.client == client) memo.steps) (all-filter (IsListed memo.keys) (λ (s : MemoCall). s.client == client) memo.steps listed))

-- where each client's works made the calls of its steps, there are as many of each kind
pub counts-agree : (kind : What → Bool) (clients : ℕ) (works : List Work) (memo : MemoSeen) → AllByRecursion (λ (w : Work). w.done.client < clients) works → AllByRecursion (IsListed memo.keys) memo.steps
    → AllByRecursion (λ (s : MemoCall). s.client < clients) memo.steps → ((client : ℕ) → flat_map (λ (w : Work). w.calls) (works_of client works) ≡ calls_of client memo)
    → count_works kind works ≡ count_steps kind (memo ∷ [])
counts-agree kind clients works memo by_clients listed of_run own =
    let works_sum = by-classes (λ (w : Work). w.done.client) (λ (w : Work). count_calls kind w.calls) clients works by_clients in
    let steps_sum = by-classes (λ (s : MemoCall). s.client) (λ (s : MemoCall). cond (kind s.what) 1 0) clients memo.steps of_run in
    sym works_sum
    ∙ (sum-below-same clients (λ k. count_works kind (works_of k works)) (λ k. count_by (λ (s : MemoCall). kind s.what) (filter (λ (s : MemoCall). s.client == k) memo.steps)) (λ k. one-client kind k works memo listed (own k))
    ∙ (steps_sum ∙ sym (zero-add (count_by (λ (s : MemoCall). kind s.what) memo.steps))))
