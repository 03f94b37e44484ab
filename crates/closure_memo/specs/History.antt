-- The history of a memo: who looked for which key and who published a value under it, and when that is legal.
use Rattle.std.specs.Prelude.{◌≡◌, ℕ, ◌+◌, ◌<◌, ◌≤◌, max, Bool, true, false, ◌&&◌, ◌==◌, cond, List, [], ◌∷◌, take, length, sum_by, fold, slice_get, Option, Some, None}
use Rattle.std.specs.List.{list_any}
use Rattle.closure_memo.specs.declared.step.MemoCall.{MemoCall}
use Rattle.closure_memo.specs.declared.step.What.{What}
use Rattle.closure_memo.specs.declared.step.What.TheVariants as what

-- a look that found a value
abbrev pub is_hit : What → Bool
is_hit what.Hit = true
is_hit what.Miss = false
is_hit what.New = false
is_hit what.Already = false
is_hit what.Full = false

-- a look that found none
abbrev pub is_miss : What → Bool
is_miss what.Hit = false
is_miss what.Miss = true
is_miss what.New = false
is_miss what.Already = false
is_miss what.Full = false

-- a publication whose value was kept
abbrev pub is_new : What → Bool
is_new what.Hit = false
is_new what.Miss = false
is_new what.New = true
is_new what.Already = false
is_new what.Full = false

-- a publication of a key that had a value
abbrev pub is_already : What → Bool
is_already what.Hit = false
is_already what.Miss = false
is_already what.New = false
is_already what.Already = true
is_already what.Full = false

-- a publication whose value would have passed the limit
abbrev pub is_full : What → Bool
is_full what.Hit = false
is_full what.Miss = false
is_full what.New = false
is_full what.Already = false
is_full what.Full = true

-- a look
abbrev pub is_look : What → Bool
is_look what.Hit = true
is_look what.Miss = true
is_look what.New = false
is_look what.Already = false
is_look what.Full = false

-- a publication
abbrev pub is_publication : What → Bool
is_publication what.Hit = false
is_publication what.Miss = false
is_publication what.New = true
is_publication what.Already = true
is_publication what.Full = true

-- the call kept a value under the key with this number
abbrev pub keeps_key : ℕ → MemoCall → Bool
keeps_key number call = is_new call.what && (call.key == number)

-- the history has a New of the key with this number
abbrev pub has_new : ℕ → List MemoCall → Bool
has_new number steps = list_any (keeps_key number) steps

-- the weight of the key's first New
abbrev pub new_weight : ℕ → List MemoCall → Option ℕ
new_weight number [] = None
new_weight number (call ∷ steps) = cond (keeps_key number call) (Some call.weight) (new_weight number steps)

-- the weights of all News together
abbrev pub kept_weight : List MemoCall → ℕ
kept_weight steps = sum_by (λ call. cond (is_new call.what) call.weight 0) steps

-- how many keys a history has seen, where keys are numbered as they are seen: one more than the greatest number
abbrev pub seen_keys : List MemoCall → ℕ
seen_keys steps = fold (λ seen call. max seen (call.key + 1)) 0 steps

-- a call with this key, weight and end may come behind these: a Hit and an Already where the key has a New, each other where
-- it has none, and a Full where the value would pass the limit; a look weighs nothing
abbrev pub FitsHistory : ℕ → List MemoCall → ℕ → ℕ → What → Type 0
FitsHistory limit before key weight what.Hit = (has_new key before ≡ true) × (weight ≡ 0)
FitsHistory limit before key weight what.Miss = (has_new key before ≡ false) × (weight ≡ 0)
FitsHistory limit before key weight what.New = has_new key before ≡ false
FitsHistory limit before key weight what.Already = has_new key before ≡ true
FitsHistory limit before key weight what.Full = (has_new key before ≡ false) × (limit < kept_weight before + weight)

abbrev pub CallMayFollow : ℕ → List MemoCall → MemoCall → Type 0
CallMayFollow limit before call = FitsHistory limit before call.key call.weight call.what

-- each call may come behind those before it, and the News together are within the limit
pub record IsLegal (limit : ℕ) (steps : List MemoCall) : Type 0 where
  pub follows : (place : ℕ) (call : MemoCall) → slice_get steps place ≡ Some call → CallMayFollow limit (take place steps) call
  pub within : kept_weight steps ≤ limit

-- the keys of a history are numbered by first sight: no two numbers have one key, each call's number was seen before or is
-- the next, and each key was seen
pub record AreNumbered {K : Type 0} (keys : List K) (steps : List MemoCall) : Type 0 where
  pub distinct : (i j : ℕ) (key : K) → slice_get keys i ≡ Some key → slice_get keys j ≡ Some key → i ≡ j
  pub by_sight : (place : ℕ) (call : MemoCall) → slice_get steps place ≡ Some call → call.key ≤ seen_keys (take place steps)
  pub all_seen : seen_keys steps ≡ length keys
  pub listed : (place : ℕ) (call : MemoCall) → slice_get steps place ≡ Some call → call.key < length keys

-- a client's number, and how many looks, looks that found a value, publications, publications whose value was kept, and
-- publications that the limit refused it made
pub record Tally : Type 0 where
  pub client : ℕ
  pub looks : ℕ
  pub hits : ℕ
  pub publications : ℕ
  pub news : ℕ
  pub fulls : ℕ
