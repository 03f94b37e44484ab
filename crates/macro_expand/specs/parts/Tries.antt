-- Hide sets (6.10.3.4) as tries over the bits of their names' hashes, with the names added last in front.
use Rattle.std.specs.Prelude.{◌≡◌, ℕ, ◌-◌, ◌*◌, ◌/◌, ◌%◌, ◌^◌, Bool, true, false, ◌&&◌, ◌||◌, ◌==◌, if◌then◌else◌, List, [], ◌∷◌, ◌++◌, fold, bit_xor, bytes_eq}
use Rattle.macro_expand.specs.declared.hide_set.Trie.{Trie, Empty, Recent', Fork'}

-- one round of the FNV-1a hash of 64 bits
abbrev pub fnv_step : ℕ → ℕ → ℕ
fnv_step hash b = (bit_xor hash b * 0x100000001b3) % 2 ^ 64

-- the hash of a name
unfoldable pub name_hash : List ℕ → ℕ
name_hash name = fold fnv_step 0xcbf29ce484222325 name

-- A trie, whoever shares its nodes. A name in front has its hash and the older names. Elsewhere a name has its hash, the trie of the names
-- whose next bit is 0, and that of those whose next bit is 1.
pub data Tree : Type 0 where
  Tip : Tree
  Linked : List ℕ → ℕ → Tree → Tree
  Branch : List ℕ → ℕ → Tree → Tree → Tree

-- the trie that code keeps
abbrev pub trie_of : Trie → Tree
trie_of Empty = Tip
trie_of (Recent' p name hash older) = Linked name hash (trie_of older)
trie_of (Fork' p name hash zero_side one_side) = Branch name hash (trie_of zero_side) (trie_of one_side)

-- the names in a trie
abbrev pub trie_names : Tree → List (List ℕ)
trie_names Tip = []
trie_names (Linked name hash t) = name ∷ trie_names t
trie_names (Branch name hash z o) = name ∷ trie_names z ++ trie_names o

-- whether every name has this as the last bit of its key
abbrev pub have_bit : (List ℕ → ℕ) → ℕ → List (List ℕ) → Bool
have_bit key bit [] = true
have_bit key bit (name ∷ names) = (key name % 2 == bit) && have_bit key bit names

-- the keys without their last bit
abbrev pub next_key : (List ℕ → ℕ) → List ℕ → ℕ
next_key key name = key name / 2

-- whether every name but those in front stands on the side that the bits of its key say
abbrev pub stand_by_keys : (List ℕ → ℕ) → Tree → Bool
stand_by_keys key Tip = true
stand_by_keys key (Linked name hash t) = stand_by_keys key t
stand_by_keys key (Branch name hash z o) =
    (have_bit key 0 (trie_names z) && stand_by_keys (next_key key) z) && (have_bit key 1 (trie_names o) && stand_by_keys (next_key key) o)

-- whether every name stands with its hash
abbrev pub hashed : Tree → Bool
hashed Tip = true
hashed (Linked name hash t) = (hash == name_hash name) && hashed t
hashed (Branch name hash z o) = (hash == name_hash name) && (hashed z && hashed o)

-- a trie where every name is met on the way that its hash says
pub record IsOrdered (t : Tree) : Type 0 where
  pub at_bits : stand_by_keys name_hash t ≡ true
  pub with_hash : hashed t ≡ true

-- whether two names with their hashes are the same
abbrev pub is_same_name : List ℕ → ℕ → List ℕ → ℕ → Bool
is_same_name name hash n h = (hash == h) && bytes_eq name n

-- whether a name is met on the way that its key says
abbrev pub found : List ℕ → ℕ → ℕ → Tree → Bool
found name hash key Tip = false
found name hash key (Linked n h t) = is_same_name name hash n h || found name hash key t
found name hash key (Branch n h z o) =
    is_same_name name hash n h || (if key % 2 == 0 then found name hash (key / 2) z else found name hash (key / 2) o)

-- the trie with one more name, behind those in front
abbrev pub with_leaf : List ℕ → ℕ → ℕ → Tree → Tree
with_leaf name hash key Tip = Branch name hash Tip Tip
with_leaf name hash key (Linked n h t) = Linked n h (with_leaf name hash key t)
with_leaf name hash key (Branch n h z o) =
    if is_same_name name hash n h then Branch n h z o
    else (if key % 2 == 0 then Branch n h (with_leaf name hash (key / 2) z) o else Branch n h z (with_leaf name hash (key / 2) o))

-- the trie with no name in front: they are put into it, the oldest first
abbrev pub gathered : Tree → Tree
gathered Tip = Tip
gathered (Linked n h t) = with_leaf n h h (gathered t)
gathered (Branch n h z o) = Branch n h z o

-- whether more names than these stand in front
abbrev pub has_more_in_front : ℕ → Tree → Bool
has_more_in_front room Tip = false
has_more_in_front room (Linked n h t) = if room == 0 then true else has_more_in_front (room - 1) t
has_more_in_front room (Branch n h z o) = false

-- the trie in front of which one more name is put
abbrev pub with_room : Tree → Tree
with_room t = if has_more_in_front 15 t then gathered t else t

-- the trie with one more name in front
abbrev pub with_front : List ℕ → ℕ → Tree → Tree
with_front name hash t = Linked name hash (with_room t)

-- the trie with a name that it may have
abbrev pub with_new : List ℕ → ℕ → Tree → Tree
with_new name hash t = if found name hash hash t then t else with_front name hash t

-- the trie with all names of the first, the oldest of those in front before the newer ones
abbrev pub with_all : Tree → Tree → Tree
with_all Tip t = t
with_all (Linked n h s) t = with_new n h (with_all s t)
with_all (Branch n h z o) t = with_all o (with_all z (with_new n h t))

-- the trie with a name, where the second trie has it
abbrev pub with_common : List ℕ → ℕ → Tree → Tree → Tree
with_common name hash other t = if found name hash hash other then with_front name hash t else t

-- the trie with all names that both the first and the second have
abbrev pub with_all_common : Tree → Tree → Tree → Tree
with_all_common Tip other t = t
with_all_common (Linked n h s) other t = with_common n h other (with_all_common s other t)
with_all_common (Branch n h z o) other t = with_all_common o other (with_all_common z other (with_common n h other t))

-- whether the second trie has all names of the first
abbrev pub has_all : Tree → Tree → Bool
has_all Tip other = true
has_all (Linked n h s) other = found n h h other && has_all s other
has_all (Branch n h z o) other = (found n h h other && has_all z other) && has_all o other

-- whether two tries have the same names at the same places
abbrev pub is_same : Tree → Tree → Bool
is_same Tip Tip = true
is_same Tip (Linked m k t) = false
is_same Tip (Branch m k y p) = false
is_same (Linked n h s) Tip = false
is_same (Linked n h s) (Linked m k t) = is_same_name n h m k && is_same s t
is_same (Linked n h s) (Branch m k y p) = false
is_same (Branch n h z o) Tip = false
is_same (Branch n h z o) (Linked m k t) = false
is_same (Branch n h z o) (Branch m k y p) = (is_same_name n h m k && is_same z y) && is_same o p

-- whether the second trie has all names of the first at the same places, where none stands in front
abbrev pub stands_at : Tree → Tree → Bool
stands_at Tip other = true
stands_at (Linked n h s) other = false
stands_at (Branch n h z o) Tip = false
stands_at (Branch n h z o) (Linked m k t) = false
stands_at (Branch n h z o) (Branch m k y p) = (is_same_name n h m k && stands_at z y) && stands_at o p

-- whether the second trie has the names in front of the first, and those behind them at the same places
abbrev pub stands_behind : Tree → Tree → Bool
stands_behind Tip other = true
stands_behind (Linked n h s) other = found n h h other && stands_behind s other
stands_behind (Branch n h z o) other = stands_at (Branch n h z o) other

-- whether the second trie has all names of the first so, where those in front may stand in front of it in the same order
abbrev pub stands_in : Tree → Tree → Bool
stands_in s Tip = stands_behind s Tip
stands_in Tip (Linked m k t) = true
stands_in (Linked n h s) (Linked m k t) = if is_same_name n h m k then stands_in s t else stands_in (Linked n h s) t
stands_in (Branch n h z o) (Linked m k t) = stands_in (Branch n h z o) t
stands_in s (Branch m k y p) = stands_behind s (Branch m k y p)
