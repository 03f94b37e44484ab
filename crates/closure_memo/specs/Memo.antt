-- The memo as a machine: its history, its keys, and the value that was kept under each. A look and a publication are each one step.
use Rattle.std.specs.Prelude.{◌≡◌, ℕ, ◌+◌, Bool, cond, nat_lt, List, [], ◌∷◌, ◌++◌, length, slice_get, slice_set, Option, Some, None, is_some}
use Rattle.std.specs.List.{position_or_len, count_by}
use Rattle.std.specs.Option.{option_map, option_flatten}
use Rattle.closure_memo.specs.declared.step.MemoCall.{MemoCall}
use Rattle.closure_memo.specs.declared.step.What.{What}
use Rattle.closure_memo.specs.declared.step.What.TheVariants as what
use Rattle.closure_memo.specs.declared.step.Kept.{Kept}
use Rattle.closure_memo.specs.declared.step.Kept.TheVariants as kept
use Rattle.tree_model.specs.Trees.{FileTree}
use Rattle.closure_memo.specs.History.{IsLegal, AreNumbered, is_new, kept_weight, new_weight}

-- the limit of weight, the keys by first sight, of each key the value that was kept, if any, and the history
pub record Memo (K V : Type 0) : Type 0 where
  pub limit : ℕ
  pub keys : List K
  pub values : List (Option V)
  pub steps : List MemoCall

abbrev pub memo_call : ℕ → ℕ → What → ℕ → MemoCall
memo_call client key what weight = record { client = client; key = key; what = what; weight = weight }

-- the value that was kept under the key with this number
abbrev pub value_at : {V : Type 0} → ℕ → List (Option V) → Option V
value_at number values = option_flatten (slice_get values number)

-- the values with a place for this number, which is at most the next
abbrev pub with_place : {V : Type 0} → ℕ → List (Option V) → List (Option V)
with_place number values = cond (nat_lt number (length values)) values (values ++ None ∷ [])

-- what a publication comes to, by the limit, the weight kept so far, the value's weight, and whether the key has a value
abbrev pub publication : ℕ → ℕ → ℕ → Bool → Kept
publication limit kept_so_far weight has = cond has kept.Already (cond (nat_lt limit (kept_so_far + weight)) kept.Full kept.New)

abbrev pub what_of : Kept → What
what_of kept.New = what.New
what_of kept.Already = what.Already
what_of kept.Full = what.Full

abbrev pub look_of : {V : Type 0} → Option V → What
look_of (Some v) = what.Hit
look_of None = what.Miss

-- the values after a publication
abbrev pub values_after : {V : Type 0} → Kept → ℕ → V → List (Option V) → List (Option V)
values_after kept.New number v values = slice_set values number (Some v)
values_after kept.Already number v values = values
values_after kept.Full number v values = values

module _ {K : Type 0} (eq : K → K → Bool) where
  -- the number of a key by first sight; that of a new key is the number of keys
  abbrev pub number_of : K → List K → ℕ
  number_of key keys = position_or_len (eq key) keys

  -- the keys once this one was seen
  abbrev pub with_key : K → List K → List K
  with_key key keys = cond (nat_lt (number_of key keys) (length keys)) keys (keys ++ key ∷ [])

module _ {K V : Type 0} (eq : K → K → Bool) where
  -- the value that a look for the key finds
  abbrev pub found : K → Memo K V → Option V
  found key memo = value_at (number_of eq key memo.keys) memo.values

  -- the memo after a look
  abbrev pub after_look : ℕ → K → Memo K V → Memo K V
  after_look client key memo = record {
    limit = memo.limit;
    keys = with_key eq key memo.keys;
    values = with_place (number_of eq key memo.keys) memo.values;
    steps = memo.steps ++ memo_call client (number_of eq key memo.keys) (look_of (found key memo)) 0 ∷ [];
  }

  -- what a publication of a value of this weight comes to
  abbrev pub publish_of : K → ℕ → Memo K V → Kept
  publish_of key weight memo = publication memo.limit (kept_weight memo.steps) weight (is_some (found key memo))

  -- the memo after a publication
  abbrev pub after_publish : ℕ → K → V → ℕ → Memo K V → Memo K V
  after_publish client key v weight memo = record {
    limit = memo.limit;
    keys = with_key eq key memo.keys;
    values = values_after (publish_of key weight memo) (number_of eq key memo.keys) v (with_place (number_of eq key memo.keys) memo.values);
    steps = memo.steps ++ memo_call client (number_of eq key memo.keys) (what_of (publish_of key weight memo)) weight ∷ [];
  }

-- where a tree is named, the value is right for the key over it
abbrev pub RightIn : {K V : Type 0} → Option FileTree → (FileTree → K → V → Type 0) → K → V → Type 0
RightIn named right key v = (tree : FileTree) → named ≡ Some tree → right tree key v

-- what every memo keeps: a legal history, whose keys are numbered by first sight, and of each New the value, which has the
-- weight that the history says and is right for its key; it has as many News as values were kept
pub record IsMemo {K V : Type 0} (Right : K → V → Type 0) (weigh : V → ℕ) (memo : Memo K V) : Type 0 where
  pub legal : IsLegal memo.limit memo.steps
  pub numbered : AreNumbered memo.keys memo.steps
  pub places : length memo.values ≡ length memo.keys
  pub values : (number : ℕ) → option_map weigh (value_at number memo.values) ≡ new_weight number memo.steps
  pub news : count_by (λ call. is_new call.what) memo.steps ≡ count_by is_some memo.values
  pub right : (number : ℕ) (key : K) (v : V) → slice_get memo.keys number ≡ Some key → value_at number memo.values ≡ Some v → Right key v
