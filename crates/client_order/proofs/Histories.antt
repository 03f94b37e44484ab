-- A memo's history with one call more, as each client sees it.
use Rattle.std.proofs.Common.{arith, ◌≡◌, ℕ, zero, suc, ◌+◌, ◌<◌, ◌≤◌, Bool, true, false, cond, nat_lt, ◌==◌, List, [], ◌∷◌, ◌++◌, length, slice_get, Some, refl, sym, ap, ◌∙◌, subst, inl, inr, ◌⊎◌}
use Rattle.std.proofs.lemmas.Bool.Decides.{eqb_tells, nat_tests}
use Rattle.std.proofs.lemmas.Grind.{common_steps}
use Rattle.std.proofs.lemmas.List.{append-nil}
use Rattle.std.proofs.lemmas.List.Elements.{filter_map-append, filter-append}
use Rattle.std.specs.List.{filter, filter_map}
use Rattle.closure_memo.specs.declared.step.MemoCall.{MemoCall}
use Rattle.closure_memo.specs.declared.step.What.{What}
use Rattle.closure_memo.specs.Memo.{memo_call, number_of, with_key}
use Rattle.closure_memo.proofs.Keys.{first_here, first_behind}
use Rattle.closure_memo.proofs.Memos.{get_within}
use Rattle.sheet_build.specs.Keys.{is_same_key, exact_keys}
use Rattle.sheet_build.specs.declared.keys.SheetKey.{SheetKey}
use Rattle.job_ends.specs.Looks.{SheetCall, sheet_call}
use Rattle.client_order.specs.Ran.{MemoSeen, keyed, call_at, calls_of}

-- ---- the key of a call ----

-- an element stays where it stands in a list that is longer
get-append : {A : Type 0} (xs ys : List A) (i : ℕ) → i < length xs → slice_get (xs ++ ys) i ≡ slice_get xs i
get-append [] ys i less = absurd (omega arith)
get-append (x ∷ xs) ys zero less = refl
get-append (x ∷ xs) ys (suc i) less = get-append xs ys i (omega arith)

get-last : {A : Type 0} (xs : List A) (x : A) → slice_get (xs ++ x ∷ []) (length xs) ≡ Some x
get-last [] x = refl
get-last (z ∷ xs) x = get-last xs x

number-within : (key : SheetKey) (keys : List SheetKey) → number_of is_same_key key keys ≤ length keys
number-within key [] = omega arith
number-within key (k ∷ keys) = go (number-within key keys) (is_same_key key k) refl
  where
    go : number_of is_same_key key keys ≤ length keys → (b : Bool) → is_same_key key k ≡ b → number_of is_same_key key (k ∷ keys) ≤ length (k ∷ keys)
    go ih true e = omega (arith, first_here (is_same_key key) k keys e)
    go ih false e = omega (arith, first_behind (is_same_key key) k keys e, ih)

-- the key that stands at a key's own number is that key
key-there : (key : SheetKey) (keys : List SheetKey) (k : SheetKey) → slice_get keys (number_of is_same_key key keys) ≡ Some k → k ≡ key
key-there key [] k at = absurd (grind (arith, at))
key-there key (j ∷ keys) k at = go (key-there key keys k) (is_same_key key j) refl
  where
    go : (slice_get keys (number_of is_same_key key keys) ≡ Some k → k ≡ key) → (b : Bool) → is_same_key key j ≡ b → k ≡ key
    go ih true e = let here : slice_get (j ∷ keys) 0 ≡ Some k = subst (λ n. slice_get (j ∷ keys) n ≡ Some k) (first_here (is_same_key key) j keys e) at in sym (grind (arith, here)) ∙ sym (exact_keys key j e)
    go ih false e = ih (subst (λ n. slice_get (j ∷ keys) n ≡ Some k) (first_behind (is_same_key key) j keys e) at)

-- the keys once this one was seen: a key stands at its own number, and those before stand where they stood
pub record Seen (key : SheetKey) (keys now : List SheetKey) : Type 0 where
  pub at_number : slice_get now (number_of is_same_key key keys) ≡ Some key
  pub behind : List SheetKey
  pub longer : now ≡ keys ++ behind

pub seen-key : (key : SheetKey) (keys : List SheetKey) → Seen key keys (with_key is_same_key key keys)
seen-key key keys = go (nat_lt (number_of is_same_key key keys) (length keys)) refl
  where
    go : (b : Bool) → nat_lt (number_of is_same_key key keys) (length keys) ≡ b → Seen key keys (with_key is_same_key key keys)
    go true e =
        let old : with_key is_same_key key keys ≡ keys = ap (λ b. cond b keys (keys ++ key ∷ [])) e in
        let less : number_of is_same_key key keys < length keys = grind (arith, common_steps, e) in
        let at = get_within keys (number_of is_same_key key keys) less in
        record {
          at_number = ap (λ l. slice_get l (number_of is_same_key key keys)) old ∙ at.1 ∙ ap Some (key-there key keys at.0 at.1);
          behind = [];
          longer = old ∙ sym (append-nil keys);
        }
    go false e =
        let new : with_key is_same_key key keys ≡ keys ++ key ∷ [] = ap (λ b. cond b keys (keys ++ key ∷ [])) e in
        let past : number_of is_same_key key keys ≡ length keys = grind (arith, common_steps, e, number-within key keys) in
        record {
          at_number = ap (λ l. slice_get l (number_of is_same_key key keys)) new ∙ ap (slice_get (keys ++ key ∷ [])) past ∙ get-last keys key;
          behind = key ∷ [];
          longer = new;
        }

-- ---- the calls of a client ----

-- each call's key is listed
abbrev pub AreListed : List SheetKey → List MemoCall → Type 0
AreListed keys steps = (place : ℕ) (call : MemoCall) → slice_get steps place ≡ Some call → call.key < length keys

abbrev is_by : ℕ → MemoCall → Bool
is_by client s = s.client == client

-- a call is of the same key among more keys
call-stays : (keys more : List SheetKey) (s : MemoCall) → s.key < length keys → call_at (keys ++ more) s ≡ call_at keys s
call-stays keys more s less = ap (keyed s.what) (get-append keys more s.key less)

calls-stay : (client : ℕ) (keys more : List SheetKey) (steps : List MemoCall) → AreListed keys steps
    → filter_map (call_at (keys ++ more)) (filter (is_by client) steps) ≡ filter_map (call_at keys) (filter (is_by client) steps)
calls-stay client keys more [] listed = refl
calls-stay client keys more (s ∷ steps) listed = go (calls-stay client keys more steps (λ place call at. listed (suc place) call at)) (is_by client s) refl
  where
    go : filter_map (call_at (keys ++ more)) (filter (is_by client) steps) ≡ filter_map (call_at keys) (filter (is_by client) steps)
        → (b : Bool) → is_by client s ≡ b
        → filter_map (call_at (keys ++ more)) (filter (is_by client) (s ∷ steps)) ≡ filter_map (call_at keys) (filter (is_by client) (s ∷ steps))
    go ih true e = rw e (rw (call-stays keys more s (listed 0 s refl), ih) refl)
    go ih false e = rw e ih

-- the history with one call of this key more
abbrev pub with_call : ℕ → SheetKey → What → ℕ → MemoSeen → MemoSeen
with_call client key what weight memo = record {
  limit = memo.limit;
  keys = with_key is_same_key key memo.keys;
  steps = memo.steps ++ memo_call client (number_of is_same_key key memo.keys) what weight ∷ [];
}

-- what a client sees of the call
abbrev seen_of : ℕ → ℕ → SheetKey → What → List SheetCall
seen_of other client key what = cond (client == other) (sheet_call key what ∷ []) []

last-call : (other client : ℕ) (key : SheetKey) (what : What) (weight : ℕ) (keys now : List SheetKey) → Seen key keys now
    → filter_map (call_at now) (filter (is_by other) (memo_call client (number_of is_same_key key keys) what weight ∷ [])) ≡ seen_of other client key what
last-call other client key what weight keys now seen = go (client == other) refl
  where
    go : (b : Bool) → (client == other) ≡ b → filter_map (call_at now) (filter (is_by other) (memo_call client (number_of is_same_key key keys) what weight ∷ [])) ≡ seen_of other client key what
    go true e = rw e (rw seen.at_number refl)
    go false e = rw e refl

calls-then : (other client : ℕ) (key : SheetKey) (what : What) (weight : ℕ) (memo : MemoSeen) → AreListed memo.keys memo.steps
    → calls_of other (with_call client key what weight memo) ≡ calls_of other memo ++ seen_of other client key what
calls-then other client key what weight memo listed =
    let seen = seen-key key memo.keys in
    let now : List SheetKey = with_key is_same_key key memo.keys in
    let s : MemoCall = memo_call client (number_of is_same_key key memo.keys) what weight in
    ap (filter_map (call_at now)) (filter-append (is_by other) memo.steps (s ∷ []))
    ∙ filter_map-append (call_at now) (filter (is_by other) memo.steps) (filter (is_by other) (s ∷ []))
    ∙ ap (λ (l : List SheetCall). l ++ filter_map (call_at now) (filter (is_by other) (s ∷ []))) (ap (λ (k : List SheetKey). filter_map (call_at k) (filter (is_by other) memo.steps)) seen.longer ∙ calls-stay other memo.keys seen.behind memo.steps listed)
    ∙ ap (λ (l : List SheetCall). calls_of other memo ++ l) (last-call other client key what weight memo.keys now seen)

-- the client that made the call sees it last, and the others see what they saw
pub own-call : (client : ℕ) (key : SheetKey) (what : What) (weight : ℕ) (memo : MemoSeen) → AreListed memo.keys memo.steps
    → calls_of client (with_call client key what weight memo) ≡ calls_of client memo ++ sheet_call key what ∷ []
own-call client key what weight memo listed =
    let same : (client == client) ≡ true = grind (arith, nat_tests) in
    calls-then client client key what weight memo listed ∙ ap (λ b. calls_of client memo ++ cond b (sheet_call key what ∷ []) []) same

pub other-calls : (other client : ℕ) (key : SheetKey) (what : What) (weight : ℕ) (memo : MemoSeen) → AreListed memo.keys memo.steps → (other ≡ client → ⊥)
    → calls_of other (with_call client key what weight memo) ≡ calls_of other memo
other-calls other client key what weight memo listed else =
    calls-then other client key what weight memo listed ∙ go (eqb_tells client other)
  where
    go : ((client == other) ≡ true) × (client ≡ other) ⊎ ((client == other) ≡ false) × ((client ≡ other) → ⊥) → calls_of other memo ++ seen_of other client key what ≡ calls_of other memo
    go (inl same) = absurd (else (sym same.1))
    go (inr apart) = ap (λ b. calls_of other memo ++ cond b (sheet_call key what ∷ []) []) apart.0 ∙ append-nil (calls_of other memo)
