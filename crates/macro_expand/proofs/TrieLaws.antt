-- Hide sets as tries.
use Rattle.std.proofs.Common.{inl, inr, ◌≡◌, ℕ, ◌/◌, ◌%◌, Bool, true, false, ◌&&◌, ◌||◌, ◌==◌, if◌then◌else◌, List, [], ◌∷◌, ◌++◌, bytes_eq, Result, Ok, Err, IfOk, refl, ap, subst, sym, ◌∙◌, arith}
use Rattle.std.proofs.lemmas.Bool.{and_parts, and_from, or_cases, both_ways, false_from_ne_true, eqb-true, eqb-false, eq-eqb}
use Rattle.std.proofs.lemmas.List.Folds.{list_any-append}
use Rattle.std.proofs.lemmas.Slice.Eq.{bytes_eq-Decides}
use Rattle.macro_expand.specs.Sets.{names_in}
use Rattle.macro_expand.specs.parts.Tries.{name_hash, Tree, Tip, Linked, Branch, trie_names, have_bit, next_key, stand_by_keys, hashed, IsOrdered, is_same_name, found, with_leaf, gathered, has_more_in_front, with_room, with_front, with_new, with_all, with_common, with_all_common, has_all, is_same, stands_at, stands_behind, stands_in}

names_in-append : (a b : List (List ℕ)) (n : List ℕ) → names_in (a ++ b) n ≡ (names_in a n || names_in b n)
names_in-append a b n = list_any-append (bytes_eq n) a b

same_name : (n x : List ℕ) → bytes_eq n x ≡ true → n ≡ x
same_name n x e = (bytes_eq-Decides n x).0 e

-- Finding a name.

has_bit : (key : List ℕ → ℕ) (bit : ℕ) (names : List (List ℕ)) (n : List ℕ) → have_bit key bit names ≡ true → names_in names n ≡ true → key n % 2 ≡ bit
has_bit key bit [] n all is = absurd (both_ways false refl is)
has_bit key bit (x ∷ names) n all is =
    elim (or_cases (bytes_eq n x) (names_in names n) is) [
      | inl same ↦ ap (λ m. key m % 2) (same_name n x same) ∙ eqb-true (key x % 2) bit (and_parts (key x % 2 == bit) (have_bit key bit names) all).0
      | inr rest ↦ has_bit key bit names n (and_parts (key x % 2 == bit) (have_bit key bit names) all).1 rest
    ]

one_side : (b x y : Bool) → (b ≡ true → y ≡ false) → (b ≡ false → x ≡ false) → (if b then x else y) ≡ (x || y)
one_side true true y l r = refl
one_side true false y l r = sym (l refl)
one_side false true y l r = absurd (both_ways true (r refl) refl)
one_side false false y l r = refl

not_zero_and_one : (n : ℕ) → n ≡ 0 → n ≡ 1 → ⊥
not_zero_and_one n zero one = omega arith

-- a name stands with its hash
head_is : (name n : List ℕ) (h : ℕ) → (h == name_hash n) ≡ true → is_same_name name (name_hash name) n h ≡ bytes_eq name n
head_is name n h is = go (bytes_eq name n) refl
  where
    go : (same : Bool) → bytes_eq name n ≡ same → ((name_hash name == h) && same) ≡ same
    go true there = and_from (name_hash name == h) true (eq-eqb (name_hash name) h (ap name_hash (same_name name n there) ∙ sym (eqb-true h (name_hash n) is))) refl
    go false there = nothing (name_hash name == h)
      where
        nothing : (b : Bool) → (b && false) ≡ false
        nothing true = refl
        nothing false = refl

found-at : (t : Tree) (key : List ℕ → ℕ) (name : List ℕ) → hashed t ≡ true → stand_by_keys key t ≡ true →
    found name (name_hash name) (key name) t ≡ names_in (trie_names t) name
found-at Tip key name whole ok = refl
found-at (Linked n h t) key name whole ok =
    ap (λ b. b || found name (name_hash name) (key name) t) (head_is name n h (and_parts (h == name_hash n) (hashed t) whole).0)
    ∙ ap (λ b. bytes_eq name n || b) (found-at t key name (and_parts (h == name_hash n) (hashed t) whole).1 ok)
found-at (Branch n h z o) key name whole ok =
    ap (λ b. b || (if key name % 2 == 0 then found name (name_hash name) (key name / 2) z else found name (name_hash name) (key name / 2) o)) (head_is name n h own.0)
    ∙ ap (λ b. bytes_eq name n || b)
    (ap (λ b. if key name % 2 == 0 then b else found name (name_hash name) (key name / 2) o) (found-at z (next_key key) name below.0 left.1)
    ∙ ap (λ b. if key name % 2 == 0 then names_in (trie_names z) name else b) (found-at o (next_key key) name below.1 right.1)
    ∙ one_side (key name % 2 == 0) (names_in (trie_names z) name) (names_in (trie_names o) name)
    (λ is. false_from_ne_true (names_in (trie_names o) name) (λ there. not_zero_and_one (key name % 2) (eqb-true (key name % 2) 0 is) (has_bit key 1 (trie_names o) name right.0 there)))
    (λ is. false_from_ne_true (names_in (trie_names z) name) (λ there. eqb-false (key name % 2) 0 is (has_bit key 0 (trie_names z) name left.0 there)))
    ∙ sym (names_in-append (trie_names z) (trie_names o) name))
  where
    own : ((h == name_hash n) ≡ true) × ((hashed z && hashed o) ≡ true)
    own = and_parts (h == name_hash n) (hashed z && hashed o) whole

    below : (hashed z ≡ true) × (hashed o ≡ true)
    below = and_parts (hashed z) (hashed o) own.1

    parts : ((have_bit key 0 (trie_names z) && stand_by_keys (next_key key) z) ≡ true) × ((have_bit key 1 (trie_names o) && stand_by_keys (next_key key) o) ≡ true)
    parts = and_parts (have_bit key 0 (trie_names z) && stand_by_keys (next_key key) z) (have_bit key 1 (trie_names o) && stand_by_keys (next_key key) o) ok

    left : (have_bit key 0 (trie_names z) ≡ true) × (stand_by_keys (next_key key) z ≡ true)
    left = and_parts (have_bit key 0 (trie_names z)) (stand_by_keys (next_key key) z) parts.0

    right : (have_bit key 1 (trie_names o) ≡ true) × (stand_by_keys (next_key key) o ≡ true)
    right = and_parts (have_bit key 1 (trie_names o)) (stand_by_keys (next_key key) o) parts.1

pub found-is : (t : Tree) (name : List ℕ) → IsOrdered t → found name (name_hash name) (name_hash name) t ≡ names_in (trie_names t) name
found-is t name ok = found-at t name_hash name ok.with_hash ok.at_bits

-- One name more.

again : (x r : Bool) → (x || r) ≡ (x || (x || r))
again true r = refl
again false r = refl

in_zero : (m n z o : Bool) → (m || ((n || z) || o)) ≡ (n || (m || (z || o)))
in_zero true true z o = refl
in_zero true false z o = refl
in_zero false true z o = refl
in_zero false false z o = refl

in_one : (m n z o : Bool) → (m || (z || (n || o))) ≡ (n || (m || (z || o)))
in_one true true z o = refl
in_one true false z o = refl
in_one false true true o = refl
in_one false true false o = refl
in_one false false z o = refl

behind_one : (m x r : Bool) → (m || (x || r)) ≡ (x || (m || r))
behind_one true true r = refl
behind_one true false r = refl
behind_one false x r = refl

pub with_leaf-names : (t : Tree) (name : List ℕ) (hash key : ℕ) (n : List ℕ) →
    names_in (trie_names (with_leaf name hash key t)) n ≡ (bytes_eq n name || names_in (trie_names t) n)
with_leaf-names Tip name hash key n = refl
with_leaf-names (Linked m h t) name hash key n =
    ap (λ b. bytes_eq n m || b) (with_leaf-names t name hash key n) ∙ behind_one (bytes_eq n m) (bytes_eq n name) (names_in (trie_names t) n)
with_leaf-names (Branch m h z o) name hash key n = go (is_same_name name hash m h) refl (key % 2 == 0)
    (with_leaf-names z name hash (key / 2) n) (with_leaf-names o name hash (key / 2) n)
  where
    go : (same : Bool) → is_same_name name hash m h ≡ same → (zero : Bool) →
        names_in (trie_names (with_leaf name hash (key / 2) z)) n ≡ (bytes_eq n name || names_in (trie_names z) n) →
        names_in (trie_names (with_leaf name hash (key / 2) o)) n ≡ (bytes_eq n name || names_in (trie_names o) n) →
        names_in (trie_names (if same then Branch m h z o
        else (if zero then Branch m h (with_leaf name hash (key / 2) z) o else Branch m h z (with_leaf name hash (key / 2) o)))) n
        ≡ (bytes_eq n name || (bytes_eq n m || names_in (trie_names z ++ trie_names o) n))
    go true is zero hz ho =
        again (bytes_eq n m) (names_in (trie_names z ++ trie_names o) n)
        ∙ ap (λ x. bytes_eq n x || (bytes_eq n m || names_in (trie_names z ++ trie_names o) n)) (sym (same_name name m (and_parts (hash == h) (bytes_eq name m) is).1))
    go false is true hz ho =
        ap (λ b. bytes_eq n m || b) (names_in-append (trie_names (with_leaf name hash (key / 2) z)) (trie_names o) n ∙ ap (λ b. b || names_in (trie_names o) n) hz)
        ∙ in_zero (bytes_eq n m) (bytes_eq n name) (names_in (trie_names z) n) (names_in (trie_names o) n)
        ∙ ap (λ b. bytes_eq n name || (bytes_eq n m || b)) (sym (names_in-append (trie_names z) (trie_names o) n))
    go false is false hz ho =
        ap (λ b. bytes_eq n m || b) (names_in-append (trie_names z) (trie_names (with_leaf name hash (key / 2) o)) n ∙ ap (λ b. names_in (trie_names z) n || b) ho)
        ∙ in_one (bytes_eq n m) (bytes_eq n name) (names_in (trie_names z) n) (names_in (trie_names o) n)
        ∙ ap (λ b. bytes_eq n name || (bytes_eq n m || b)) (sym (names_in-append (trie_names z) (trie_names o) n))

have_bit-append : (key : List ℕ → ℕ) (bit : ℕ) (a b : List (List ℕ)) → have_bit key bit (a ++ b) ≡ (have_bit key bit a && have_bit key bit b)
have_bit-append key bit [] b = refl
have_bit-append key bit (x ∷ a) b =
    ap (λ r. (key x % 2 == bit) && r) (have_bit-append key bit a b) ∙ shift (key x % 2 == bit) (have_bit key bit a) (have_bit key bit b)
  where
    shift : (p q r : Bool) → (p && (q && r)) ≡ ((p && q) && r)
    shift true q r = refl
    shift false q r = refl

-- the names of a trie with one more name pass where the name does
with_leaf-have_bit : (t : Tree) (key : List ℕ → ℕ) (bit : ℕ) (name : List ℕ) (hash k : ℕ) → (key name % 2 == bit) ≡ true → have_bit key bit (trie_names t) ≡ true →
    have_bit key bit (trie_names (with_leaf name hash k t)) ≡ true
with_leaf-have_bit Tip key bit name hash k is all = and_from (key name % 2 == bit) true is refl
with_leaf-have_bit (Linked m h t) key bit name hash k is all =
    and_from (key m % 2 == bit) (have_bit key bit (trie_names (with_leaf name hash k t))) (and_parts (key m % 2 == bit) (have_bit key bit (trie_names t)) all).0
    (with_leaf-have_bit t key bit name hash k is (and_parts (key m % 2 == bit) (have_bit key bit (trie_names t)) all).1)
with_leaf-have_bit (Branch m h z o) key bit name hash k is all = go (is_same_name name hash m h) (k % 2 == 0)
    (with_leaf-have_bit z key bit name hash (k / 2) is sides.0) (with_leaf-have_bit o key bit name hash (k / 2) is sides.1)
  where
    parts : ((key m % 2 == bit) ≡ true) × (have_bit key bit (trie_names z ++ trie_names o) ≡ true)
    parts = and_parts (key m % 2 == bit) (have_bit key bit (trie_names z ++ trie_names o)) all

    sides : (have_bit key bit (trie_names z) ≡ true) × (have_bit key bit (trie_names o) ≡ true)
    sides = and_parts (have_bit key bit (trie_names z)) (have_bit key bit (trie_names o)) (sym (have_bit-append key bit (trie_names z) (trie_names o)) ∙ parts.1)

    both : (a b : List (List ℕ)) → have_bit key bit a ≡ true → have_bit key bit b ≡ true → have_bit key bit (m ∷ a ++ b) ≡ true
    both a b left right = and_from (key m % 2 == bit) (have_bit key bit (a ++ b)) parts.0
        (have_bit-append key bit a b ∙ and_from (have_bit key bit a) (have_bit key bit b) left right)

    go : (same zero : Bool) → have_bit key bit (trie_names (with_leaf name hash (k / 2) z)) ≡ true → have_bit key bit (trie_names (with_leaf name hash (k / 2) o)) ≡ true →
        have_bit key bit (trie_names (if same then Branch m h z o
        else (if zero then Branch m h (with_leaf name hash (k / 2) z) o else Branch m h z (with_leaf name hash (k / 2) o)))) ≡ true
    go true zero hz ho = all
    go false true hz ho = both (trie_names (with_leaf name hash (k / 2) z)) (trie_names o) hz sides.1
    go false false hz ho = both (trie_names z) (trie_names (with_leaf name hash (k / 2) o)) sides.0 ho

the_other_bit : (n : ℕ) → (n % 2 == 0) ≡ false → (n % 2 == 1) ≡ true
the_other_bit n is = let no : n % 2 ≡ 0 → ⊥ = eqb-false (n % 2) 0 is in eq-eqb (n % 2) 1 (omega arith)

pub with_leaf-placed : (t : Tree) (key : List ℕ → ℕ) (name : List ℕ) (hash : ℕ) → stand_by_keys key t ≡ true → stand_by_keys key (with_leaf name hash (key name) t) ≡ true
with_leaf-placed Tip key name hash ok = refl
with_leaf-placed (Linked m h t) key name hash ok = with_leaf-placed t key name hash ok
with_leaf-placed (Branch m h z o) key name hash ok = go (is_same_name name hash m h) (key name % 2 == 0) refl
    (with_leaf-placed z (next_key key) name hash left.1) (with_leaf-placed o (next_key key) name hash right.1)
  where
    parts : ((have_bit key 0 (trie_names z) && stand_by_keys (next_key key) z) ≡ true) × ((have_bit key 1 (trie_names o) && stand_by_keys (next_key key) o) ≡ true)
    parts = and_parts (have_bit key 0 (trie_names z) && stand_by_keys (next_key key) z) (have_bit key 1 (trie_names o) && stand_by_keys (next_key key) o) ok

    left : (have_bit key 0 (trie_names z) ≡ true) × (stand_by_keys (next_key key) z ≡ true)
    left = and_parts (have_bit key 0 (trie_names z)) (stand_by_keys (next_key key) z) parts.0

    right : (have_bit key 1 (trie_names o) ≡ true) × (stand_by_keys (next_key key) o ≡ true)
    right = and_parts (have_bit key 1 (trie_names o)) (stand_by_keys (next_key key) o) parts.1

    both : (a b : Tree) → have_bit key 0 (trie_names a) ≡ true → stand_by_keys (next_key key) a ≡ true → have_bit key 1 (trie_names b) ≡ true → stand_by_keys (next_key key) b ≡ true →
        stand_by_keys key (Branch m h a b) ≡ true
    both a b p q r s = and_from (have_bit key 0 (trie_names a) && stand_by_keys (next_key key) a) (have_bit key 1 (trie_names b) && stand_by_keys (next_key key) b)
        (and_from (have_bit key 0 (trie_names a)) (stand_by_keys (next_key key) a) p q) (and_from (have_bit key 1 (trie_names b)) (stand_by_keys (next_key key) b) r s)

    go : (same zero : Bool) → (key name % 2 == 0) ≡ zero → stand_by_keys (next_key key) (with_leaf name hash (key name / 2) z) ≡ true → stand_by_keys (next_key key) (with_leaf name hash (key name / 2) o) ≡ true →
        stand_by_keys key (if same then Branch m h z o
        else (if zero then Branch m h (with_leaf name hash (key name / 2) z) o else Branch m h z (with_leaf name hash (key name / 2) o))) ≡ true
    go true zero is hz ho = ok
    go false true is hz ho = both (with_leaf name hash (key name / 2) z) o (with_leaf-have_bit z key 0 name hash (key name / 2) is left.0) hz right.0 right.1
    go false false is hz ho = both z (with_leaf name hash (key name / 2) o) left.0 left.1 (with_leaf-have_bit o key 1 name hash (key name / 2) (the_other_bit (key name) is) right.0) ho

pub with_leaf-hashed : (t : Tree) (name : List ℕ) (hash k : ℕ) → hash ≡ name_hash name → hashed t ≡ true → hashed (with_leaf name hash k t) ≡ true
with_leaf-hashed Tip name hash k is whole = and_from (hash == name_hash name) true (eq-eqb hash (name_hash name) is) refl
with_leaf-hashed (Linked m h t) name hash k is whole =
    and_from (h == name_hash m) (hashed (with_leaf name hash k t)) (and_parts (h == name_hash m) (hashed t) whole).0
    (with_leaf-hashed t name hash k is (and_parts (h == name_hash m) (hashed t) whole).1)
with_leaf-hashed (Branch m h z o) name hash k is whole = go (is_same_name name hash m h) (k % 2 == 0)
    (with_leaf-hashed z name hash (k / 2) is below.0) (with_leaf-hashed o name hash (k / 2) is below.1)
  where
    own : ((h == name_hash m) ≡ true) × ((hashed z && hashed o) ≡ true)
    own = and_parts (h == name_hash m) (hashed z && hashed o) whole

    below : (hashed z ≡ true) × (hashed o ≡ true)
    below = and_parts (hashed z) (hashed o) own.1

    both : (a b : Tree) → hashed a ≡ true → hashed b ≡ true → hashed (Branch m h a b) ≡ true
    both a b p q = and_from (h == name_hash m) (hashed a && hashed b) own.0 (and_from (hashed a) (hashed b) p q)

    go : (same zero : Bool) → hashed (with_leaf name hash (k / 2) z) ≡ true → hashed (with_leaf name hash (k / 2) o) ≡ true →
        hashed (if same then Branch m h z o
        else (if zero then Branch m h (with_leaf name hash (k / 2) z) o else Branch m h z (with_leaf name hash (k / 2) o))) ≡ true
    go true zero hz ho = whole
    go false true hz ho = both (with_leaf name hash (k / 2) z) o hz below.1
    go false false hz ho = both z (with_leaf name hash (k / 2) o) below.0 ho

pub with_leaf-ordered : (t : Tree) (name : List ℕ) (hash : ℕ) → hash ≡ name_hash name → IsOrdered t → IsOrdered (with_leaf name hash hash t)
with_leaf-ordered t name hash is ok = record {
  at_bits = ap (λ k. stand_by_keys name_hash (with_leaf name hash k t)) is ∙ with_leaf-placed t name_hash name hash ok.at_bits;
  with_hash = with_leaf-hashed t name hash hash is ok.with_hash;
}

-- The hash of the first name, and what the others have.

hash_first : (m : List ℕ) (h : ℕ) (z o : Tree) → hashed (Branch m h z o) ≡ true → h ≡ name_hash m
hash_first m h z o whole = eqb-true h (name_hash m) (and_parts (h == name_hash m) (hashed z && hashed o) whole).0

hash_rest : (m : List ℕ) (h : ℕ) (z o : Tree) → hashed (Branch m h z o) ≡ true → (hashed z ≡ true) × (hashed o ≡ true)
hash_rest m h z o whole = and_parts (hashed z) (hashed o) (and_parts (h == name_hash m) (hashed z && hashed o) whole).1

hash_front : (m : List ℕ) (h : ℕ) (t : Tree) → hashed (Linked m h t) ≡ true → h ≡ name_hash m
hash_front m h t whole = eqb-true h (name_hash m) (and_parts (h == name_hash m) (hashed t) whole).0

hash_older : (m : List ℕ) (h : ℕ) (t : Tree) → hashed (Linked m h t) ≡ true → hashed t ≡ true
hash_older m h t whole = (and_parts (h == name_hash m) (hashed t) whole).1

older_ordered : (m : List ℕ) (h : ℕ) (t : Tree) → IsOrdered (Linked m h t) → IsOrdered t
older_ordered m h t ok = record { at_bits = ok.at_bits; with_hash = hash_older m h t ok.with_hash }

-- One more name in front.

gathered-names : (t : Tree) (n : List ℕ) → names_in (trie_names (gathered t)) n ≡ names_in (trie_names t) n
gathered-names Tip n = refl
gathered-names (Linked m h t) n = with_leaf-names (gathered t) m h h n ∙ ap (λ b. bytes_eq n m || b) (gathered-names t n)
gathered-names (Branch m h z o) n = refl

gathered-ordered : (t : Tree) → IsOrdered t → IsOrdered (gathered t)
gathered-ordered Tip ok = ok
gathered-ordered (Linked m h t) ok =
    with_leaf-ordered (gathered t) m h (hash_front m h t ok.with_hash)
    (gathered-ordered t (older_ordered m h t ok))
gathered-ordered (Branch m h z o) ok = ok

with_room-names : (t : Tree) (n : List ℕ) → names_in (trie_names (with_room t)) n ≡ names_in (trie_names t) n
with_room-names t n = go (has_more_in_front 15 t)
  where
    go : (full : Bool) → names_in (trie_names (if full then gathered t else t)) n ≡ names_in (trie_names t) n
    go true = gathered-names t n
    go false = refl

with_room-ordered : (t : Tree) → IsOrdered t → IsOrdered (with_room t)
with_room-ordered t ok = go (has_more_in_front 15 t)
  where
    go : (full : Bool) → IsOrdered (if full then gathered t else t)
    go true = gathered-ordered t ok
    go false = ok

with_front-names : (t : Tree) (name : List ℕ) (hash : ℕ) (n : List ℕ) →
    names_in (trie_names (with_front name hash t)) n ≡ (bytes_eq n name || names_in (trie_names t) n)
with_front-names t name hash n = ap (λ b. bytes_eq n name || b) (with_room-names t n)

with_front-ordered : (t : Tree) (name : List ℕ) (hash : ℕ) → hash ≡ name_hash name → IsOrdered t → IsOrdered (with_front name hash t)
with_front-ordered t name hash is ok = record {
  at_bits = (with_room-ordered t ok).at_bits;
  with_hash = and_from (hash == name_hash name) (hashed (with_room t)) (eq-eqb hash (name_hash name) is) (with_room-ordered t ok).with_hash;
}

-- A name that may be there.

pub found-with : (t : Tree) (name : List ℕ) (hash : ℕ) → hash ≡ name_hash name → IsOrdered t → found name hash hash t ≡ names_in (trie_names t) name
found-with t name hash is ok = ap (λ h. found name h h t) is ∙ found-is t name ok

there : (t : Tree) (name n : List ℕ) → names_in (trie_names t) name ≡ true → names_in (trie_names t) n ≡ (bytes_eq n name || names_in (trie_names t) n)
there t name n is = go (bytes_eq n name) (names_in (trie_names t) n) (λ same. ap (names_in (trie_names t)) (same_name n name same) ∙ is)
  where
    go : (same r : Bool) → (same ≡ true → r ≡ true) → r ≡ (same || r)
    go true r h = h refl
    go false r h = refl

with_new-names : (t : Tree) (name : List ℕ) (hash : ℕ) (n : List ℕ) → hash ≡ name_hash name → IsOrdered t →
    names_in (trie_names (with_new name hash t)) n ≡ (bytes_eq n name || names_in (trie_names t) n)
with_new-names t name hash n own ok = go (found name hash hash t) refl
  where
    go : (is : Bool) → found name hash hash t ≡ is →
        names_in (trie_names (if is then t else with_front name hash t)) n ≡ (bytes_eq n name || names_in (trie_names t) n)
    go true is = there t name n (sym (found-with t name hash own ok) ∙ is)
    go false is = with_front-names t name hash n

with_new-ordered : (t : Tree) (name : List ℕ) (hash : ℕ) → hash ≡ name_hash name → IsOrdered t → IsOrdered (with_new name hash t)
with_new-ordered t name hash own ok = go (found name hash hash t)
  where
    go : (is : Bool) → IsOrdered (if is then t else with_front name hash t)
    go true = ok
    go false = with_front-ordered t name hash own ok

pub with_all-ordered : (s t : Tree) → hashed s ≡ true → IsOrdered t → IsOrdered (with_all s t)
with_all-ordered Tip t whole ok = ok
with_all-ordered (Linked m h s) t whole ok = with_new-ordered (with_all s t) m h (hash_front m h s whole) (with_all-ordered s t (hash_older m h s whole) ok)
with_all-ordered (Branch m h z o) t whole ok =
    with_all-ordered o (with_all z (with_new m h t)) (hash_rest m h z o whole).1
    (with_all-ordered z (with_new m h t) (hash_rest m h z o whole).0 (with_new-ordered t m h (hash_first m h z o whole) ok))

pub with_all-names : (s t : Tree) → hashed s ≡ true → IsOrdered t → (n : List ℕ) →
    names_in (trie_names (with_all s t)) n ≡ (names_in (trie_names s) n || names_in (trie_names t) n)
with_all-names Tip t whole ok n = refl
with_all-names (Linked m h s) t whole ok n =
    with_new-names (with_all s t) m h n (hash_front m h s whole) (with_all-ordered s t (hash_older m h s whole) ok)
    ∙ ap (λ b. bytes_eq n m || b) (with_all-names s t (hash_older m h s whole) ok n)
    ∙ join (bytes_eq n m) (names_in (trie_names s) n) (names_in (trie_names t) n)
  where
    join : (m s t : Bool) → (m || (s || t)) ≡ ((m || s) || t)
    join true s t = refl
    join false s t = refl
with_all-names (Branch m h z o) t whole ok n =
    with_all-names o (with_all z (with_new m h t)) rest.1 (with_all-ordered z (with_new m h t) rest.0 next) n
    ∙ ap (λ b. names_in (trie_names o) n || b)
    (with_all-names z (with_new m h t) rest.0 next n ∙ ap (λ b. names_in (trie_names z) n || b) (with_new-names t m h n own ok))
    ∙ order (bytes_eq n m) (names_in (trie_names z) n) (names_in (trie_names o) n) (names_in (trie_names t) n)
    ∙ ap (λ b. (bytes_eq n m || b) || names_in (trie_names t) n) (sym (names_in-append (trie_names z) (trie_names o) n))
  where
    own : h ≡ name_hash m
    own = hash_first m h z o whole

    rest : (hashed z ≡ true) × (hashed o ≡ true)
    rest = hash_rest m h z o whole

    next : IsOrdered (with_new m h t)
    next = with_new-ordered t m h own ok

    order : (m z o t : Bool) → (o || (z || (m || t))) ≡ ((m || (z || o)) || t)
    order true true true t = refl
    order true true false t = refl
    order true false true t = refl
    order true false false t = refl
    order false true true t = refl
    order false true false t = refl
    order false false true t = refl
    order false false false t = refl

-- The names that two tries have.

with_common-names : (other t : Tree) (name : List ℕ) (hash : ℕ) (n : List ℕ) → hash ≡ name_hash name → IsOrdered other →
    names_in (trie_names (with_common name hash other t)) n ≡ ((bytes_eq n name && names_in (trie_names other) n) || names_in (trie_names t) n)
with_common-names other t name hash n own ok = go (found name hash hash other) (found-with other name hash own ok)
  where
    yes_there : (same here r : Bool) → (same ≡ true → here ≡ true) → (same || r) ≡ ((same && here) || r)
    yes_there true here r h = sym (ap (λ b. b || r) (h refl))
    yes_there false here r h = refl

    not_there : (same here r : Bool) → (same ≡ true → here ≡ false) → r ≡ ((same && here) || r)
    not_there true here r h = sym (ap (λ b. b || r) (h refl))
    not_there false here r h = refl

    go : (is : Bool) → is ≡ names_in (trie_names other) name →
        names_in (trie_names (if is then with_front name hash t else t)) n ≡ ((bytes_eq n name && names_in (trie_names other) n) || names_in (trie_names t) n)
    go true is = with_front-names t name hash n
        ∙ yes_there (bytes_eq n name) (names_in (trie_names other) n) (names_in (trie_names t) n)
        (λ same. ap (names_in (trie_names other)) (same_name n name same) ∙ sym is)
    go false is = not_there (bytes_eq n name) (names_in (trie_names other) n) (names_in (trie_names t) n)
        (λ same. ap (names_in (trie_names other)) (same_name n name same) ∙ sym is)

with_common-ordered : (other t : Tree) (name : List ℕ) (hash : ℕ) → hash ≡ name_hash name → IsOrdered t → IsOrdered (with_common name hash other t)
with_common-ordered other t name hash own ok = go (found name hash hash other)
  where
    go : (is : Bool) → IsOrdered (if is then with_front name hash t else t)
    go true = with_front-ordered t name hash own ok
    go false = ok

pub with_all_common-ordered : (s other t : Tree) → hashed s ≡ true → IsOrdered t → IsOrdered (with_all_common s other t)
with_all_common-ordered Tip other t whole ok = ok
with_all_common-ordered (Linked m h s) other t whole ok =
    with_common-ordered other (with_all_common s other t) m h (hash_front m h s whole) (with_all_common-ordered s other t (hash_older m h s whole) ok)
with_all_common-ordered (Branch m h z o) other t whole ok =
    with_all_common-ordered o other (with_all_common z other (with_common m h other t)) (hash_rest m h z o whole).1
    (with_all_common-ordered z other (with_common m h other t) (hash_rest m h z o whole).0 (with_common-ordered other t m h (hash_first m h z o whole) ok))

pub with_all_common-names : (s other t : Tree) → hashed s ≡ true → IsOrdered other → (n : List ℕ) →
    names_in (trie_names (with_all_common s other t)) n ≡ ((names_in (trie_names s) n && names_in (trie_names other) n) || names_in (trie_names t) n)
with_all_common-names Tip other t whole ok n = refl
with_all_common-names (Linked m h s) other t whole ok n =
    with_common-names other (with_all_common s other t) m h n (hash_front m h s whole) ok
    ∙ ap (λ b. (bytes_eq n m && names_in (trie_names other) n) || b) (with_all_common-names s other t (hash_older m h s whole) ok n)
    ∙ join (bytes_eq n m) (names_in (trie_names s) n) (names_in (trie_names other) n) (names_in (trie_names t) n)
  where
    join : (m s h t : Bool) → ((m && h) || ((s && h) || t)) ≡ (((m || s) && h) || t)
    join true true true t = refl
    join true true false t = refl
    join true false true t = refl
    join true false false t = refl
    join false s h t = refl
with_all_common-names (Branch m h z o) other t whole ok n =
    with_all_common-names o other (with_all_common z other (with_common m h other t)) (hash_rest m h z o whole).1 ok n
    ∙ ap (λ b. (names_in (trie_names o) n && names_in (trie_names other) n) || b)
    (with_all_common-names z other (with_common m h other t) (hash_rest m h z o whole).0 ok n
    ∙ ap (λ b. (names_in (trie_names z) n && names_in (trie_names other) n) || b) (with_common-names other t m h n (hash_first m h z o whole) ok))
    ∙ order (bytes_eq n m) (names_in (trie_names z) n) (names_in (trie_names o) n) (names_in (trie_names other) n) (names_in (trie_names t) n)
    ∙ ap (λ b. ((bytes_eq n m || b) && names_in (trie_names other) n) || names_in (trie_names t) n) (sym (names_in-append (trie_names z) (trie_names o) n))
  where
    order : (m z o h t : Bool) → ((o && h) || ((z && h) || ((m && h) || t))) ≡ (((m || (z || o)) && h) || t)
    order true true true true t = refl
    order true true true false t = refl
    order true true false true t = refl
    order true true false false t = refl
    order true false true true t = refl
    order true false true false t = refl
    order true false false true t = refl
    order true false false false t = refl
    order false true true true t = refl
    order false true true false t = refl
    order false true false true t = refl
    order false true false false t = refl
    order false false true true t = refl
    order false false true false t = refl
    order false false false true t = refl
    order false false false false t = refl

pub has_all-names : (s other : Tree) → hashed s ≡ true → IsOrdered other → has_all s other ≡ true → (n : List ℕ) →
    names_in (trie_names s) n ≡ (names_in (trie_names s) n && names_in (trie_names other) n)
has_all-names s other whole ok all n = go (names_in (trie_names s) n) (names_in (trie_names other) n) (inside s whole all)
  where
    go : (a b : Bool) → (a ≡ true → b ≡ true) → a ≡ (a && b)
    go true b h = sym (h refl)
    go false b h = refl

    inside : (s : Tree) → hashed s ≡ true → has_all s other ≡ true → names_in (trie_names s) n ≡ true → names_in (trie_names other) n ≡ true
    inside Tip whole all is = absurd (both_ways false refl is)
    inside (Linked m h s) whole all is =
        elim (or_cases (bytes_eq n m) (names_in (trie_names s) n) is) [
          | inl same ↦ ap (names_in (trie_names other)) (same_name n m same) ∙ sym (found-with other m h (hash_front m h s whole) ok)
              ∙ (and_parts (found m h h other) (has_all s other) all).0
          | inr rest ↦ inside s (hash_older m h s whole) (and_parts (found m h h other) (has_all s other) all).1 rest
        ]
    inside (Branch m h z o) whole all is =
        elim (or_cases (bytes_eq n m) (names_in (trie_names z ++ trie_names o) n) is) [
          | inl same ↦ ap (names_in (trie_names other)) (same_name n m same) ∙ sym (found-with other m h (hash_first m h z o whole) ok)
              ∙ (and_parts (found m h h other) (has_all z other) (and_parts (found m h h other && has_all z other) (has_all o other) all).0).0
          | inr rest ↦ elim (or_cases (names_in (trie_names z) n) (names_in (trie_names o) n) (sym (names_in-append (trie_names z) (trie_names o) n) ∙ rest)) [
            | inl left ↦ inside z (hash_rest m h z o whole).0 (and_parts (found m h h other) (has_all z other) (and_parts (found m h h other && has_all z other) (has_all o other) all).0).1 left
            | inr right ↦ inside o (hash_rest m h z o whole).1 (and_parts (found m h h other && has_all z other) (has_all o other) all).1 right
          ]
        ]

pub is_same-names : (s t : Tree) → is_same s t ≡ true → trie_names s ≡ trie_names t
is_same-names Tip Tip is = refl
is_same-names Tip (Linked n h t) is = absurd (both_ways false refl is)
is_same-names Tip (Branch n h z o) is = absurd (both_ways false refl is)
is_same-names (Linked n h s) Tip is = absurd (both_ways false refl is)
is_same-names (Linked n h s) (Linked m k t) is =
    ap (λ (x : List ℕ). x ∷ trie_names s) (same_name n m (and_parts (h == k) (bytes_eq n m) (and_parts (is_same_name n h m k) (is_same s t) is).0).1)
    ∙ ap (λ (l : List (List ℕ)). m ∷ l) (is_same-names s t (and_parts (is_same_name n h m k) (is_same s t) is).1)
is_same-names (Linked n h s) (Branch m k y p) is = absurd (both_ways false refl is)
is_same-names (Branch n h z o) Tip is = absurd (both_ways false refl is)
is_same-names (Branch n h z o) (Linked m k t) is = absurd (both_ways false refl is)
is_same-names (Branch n h z o) (Branch m k y p) is =
    ap (λ (x : List ℕ). x ∷ trie_names z ++ trie_names o) (same_name n m (and_parts (h == k) (bytes_eq n m) (and_parts (is_same_name n h m k) (is_same z y) first.0).0).1)
    ∙ ap (λ (l : List (List ℕ)). m ∷ l ++ trie_names o) (is_same-names z y (and_parts (is_same_name n h m k) (is_same z y) first.0).1)
    ∙ ap (λ (l : List (List ℕ)). m ∷ trie_names y ++ l) (is_same-names o p first.1)
  where
    first : ((is_same_name n h m k && is_same z y) ≡ true) × (is_same o p ≡ true)
    first = and_parts (is_same_name n h m k && is_same z y) (is_same o p) is

or_right : (a b : Bool) → b ≡ true → (a || b) ≡ true
or_right true b is = refl
or_right false b is = is

stands_at-names : (s t : Tree) (n : List ℕ) → stands_at s t ≡ true → names_in (trie_names s) n ≡ true → names_in (trie_names t) n ≡ true
stands_at-names Tip t n all is = absurd (both_ways false refl is)
stands_at-names (Linked m h s) t n all is = absurd (both_ways false refl all)
stands_at-names (Branch m h z o) Tip n all is = absurd (both_ways false refl all)
stands_at-names (Branch m h z o) (Linked k j t) n all is = absurd (both_ways false refl all)
stands_at-names (Branch m h z o) (Branch k j y p) n all is =
    ap (λ b. b || names_in (trie_names y ++ trie_names p) n) (sym (ap (bytes_eq n) same))
    ∙ ap (λ b. bytes_eq n m || b) (names_in-append (trie_names y) (trie_names p) n)
    ∙ go (bytes_eq n m) (names_in (trie_names z) n) (names_in (trie_names o) n) (names_in (trie_names y) n) (names_in (trie_names p) n)
    (stands_at-names z y n (and_parts (is_same_name m h k j) (stands_at z y) first.0).1) (stands_at-names o p n first.1)
    (ap (λ b. bytes_eq n m || b) (sym (names_in-append (trie_names z) (trie_names o) n)) ∙ is)
  where
    first : ((is_same_name m h k j && stands_at z y) ≡ true) × (stands_at o p ≡ true)
    first = and_parts (is_same_name m h k j && stands_at z y) (stands_at o p) all

    same : m ≡ k
    same = same_name m k (and_parts (h == j) (bytes_eq m k) (and_parts (is_same_name m h k j) (stands_at z y) first.0).0).1

    go : (b z o y p : Bool) → (z ≡ true → y ≡ true) → (o ≡ true → p ≡ true) → (b || (z || o)) ≡ true → (b || (y || p)) ≡ true
    go true z o y p l r is = refl
    go false true o y p l r is = ap (λ b. b || p) (l refl)
    go false false true true p l r is = refl
    go false false true false p l r is = r refl
    go false false false y p l r is = absurd (both_ways false refl is)

stands_behind-names : (s t : Tree) (n : List ℕ) → hashed s ≡ true → IsOrdered t → stands_behind s t ≡ true →
    names_in (trie_names s) n ≡ true → names_in (trie_names t) n ≡ true
stands_behind-names Tip t n whole ok all is = absurd (both_ways false refl is)
stands_behind-names (Linked m h s) t n whole ok all is =
    elim (or_cases (bytes_eq n m) (names_in (trie_names s) n) is) [
      | inl same ↦ ap (names_in (trie_names t)) (same_name n m same) ∙ sym (found-with t m h (hash_front m h s whole) ok)
          ∙ (and_parts (found m h h t) (stands_behind s t) all).0
      | inr rest ↦ stands_behind-names s t n (hash_older m h s whole) ok (and_parts (found m h h t) (stands_behind s t) all).1 rest
    ]
stands_behind-names (Branch m h z o) t n whole ok all is = stands_at-names (Branch m h z o) t n all is

stands_in-names : (s t : Tree) (n : List ℕ) → hashed s ≡ true → IsOrdered t → stands_in s t ≡ true →
    names_in (trie_names s) n ≡ true → names_in (trie_names t) n ≡ true
stands_in-names s Tip n whole ok all is = stands_behind-names s Tip n whole ok all is
stands_in-names Tip (Linked k j t) n whole ok all is = absurd (both_ways false refl is)
stands_in-names (Linked m h s) (Linked k j t) n whole ok all is =
    go (is_same_name m h k j) refl all (λ a b. stands_in-names s t n (hash_older m h s whole) (older_ordered k j t ok) a b)
    (λ a. stands_in-names (Linked m h s) t n whole (older_ordered k j t ok) a is)
  where
    go : (same : Bool) → is_same_name m h k j ≡ same → (if same then stands_in s t else stands_in (Linked m h s) t) ≡ true →
        (stands_in s t ≡ true → names_in (trie_names s) n ≡ true → names_in (trie_names t) n ≡ true) →
        (stands_in (Linked m h s) t ≡ true → names_in (trie_names t) n ≡ true) → (bytes_eq n k || names_in (trie_names t) n) ≡ true
    go true one inside older newer =
        elim (or_cases (bytes_eq n m) (names_in (trie_names s) n) is) [
          | inl first ↦ ap (λ b. b || names_in (trie_names t) n) (ap (bytes_eq n) (sym (same_name m k (and_parts (h == j) (bytes_eq m k) one).1)) ∙ first)
          | inr rest ↦ or_right (bytes_eq n k) (names_in (trie_names t) n) (older inside rest)
        ]
    go false one inside older newer = or_right (bytes_eq n k) (names_in (trie_names t) n) (newer inside)
stands_in-names (Branch m h z o) (Linked k j t) n whole ok all is =
    or_right (bytes_eq n k) (names_in (trie_names t) n) (stands_in-names (Branch m h z o) t n whole (older_ordered k j t ok) all is)
stands_in-names s (Branch k j y p) n whole ok all is = stands_behind-names s (Branch k j y p) n whole ok all is

-- What the operations of hide sets make.

module _ (t made : Tree) (names : List (List ℕ)) (kept name : List ℕ) (h : ℕ)
    (same : kept ≡ name) (own : h ≡ name_hash name) (is : made ≡ with_front kept h t) where
  made_is : made ≡ with_front name h t
  made_is = is ∙ ap (λ n. with_front n h t) same

  pub with-ordered : IsOrdered t → IsOrdered made
  with-ordered ok = subst IsOrdered (sym made_is) (with_front-ordered t name h own ok)

  pub with-names : trie_names t ≡ names → (n : List ℕ) → names_in (trie_names made) n ≡ (bytes_eq n name || names_in names n)
  with-names seen n =
      ap (λ (m : Tree). names_in (trie_names m) n) made_is ∙ with_front-names t name h n
      ∙ ap (λ (l : List (List ℕ)). bytes_eq n name || names_in l n) seen

module _ (t copy s made : Tree) (same : copy ≡ t) (is : made ≡ with_all s copy) (ok : IsOrdered t) (more_ok : IsOrdered s) where
  all_is : made ≡ with_all s t
  all_is = is ∙ ap (with_all s) same

  pub all-ordered : IsOrdered made
  all-ordered = subst IsOrdered (sym all_is) (with_all-ordered s t more_ok.with_hash ok)

  pub all-names : (xs ys : List (List ℕ)) → trie_names t ≡ xs → trie_names s ≡ ys → (n : List ℕ) → names_in (trie_names made) n ≡ (names_in xs n || names_in ys n)
  all-names xs ys seen more n =
      ap (λ (m : Tree). names_in (trie_names m) n) all_is ∙ with_all-names s t more_ok.with_hash ok n
      ∙ swap (names_in (trie_names s) n) (names_in (trie_names t) n)
      ∙ ap (λ (l : List (List ℕ)). names_in l n || names_in (trie_names s) n) seen
      ∙ ap (λ (l : List (List ℕ)). names_in xs n || names_in l n) more
    where
      swap : (a b : Bool) → (a || b) ≡ (b || a)
      swap true true = refl
      swap true false = refl
      swap false true = refl
      swap false false = refl

module _ (s other made : Tree) (ok : IsOrdered s) (is : made ≡ with_all_common s other Tip) where
  pub common-ordered : IsOrdered made
  common-ordered = subst IsOrdered (sym is) (with_all_common-ordered s other Tip ok.with_hash (record { at_bits = refl; with_hash = refl }))

  pub common-names : IsOrdered other → (xs ys : List (List ℕ)) → trie_names s ≡ xs → trie_names other ≡ ys → (n : List ℕ) →
      names_in (trie_names made) n ≡ (names_in xs n && names_in ys n)
  common-names other_ok xs ys seen more n =
      ap (λ (m : Tree). names_in (trie_names m) n) is ∙ with_all_common-names s other Tip ok.with_hash other_ok n
      ∙ nothing (names_in (trie_names s) n && names_in (trie_names other) n)
      ∙ ap (λ (l : List (List ℕ)). names_in l n && names_in (trie_names other) n) seen
      ∙ ap (λ (l : List (List ℕ)). names_in xs n && names_in l n) more
    where
      nothing : (b : Bool) → (b || false) ≡ b
      nothing true = refl
      nothing false = refl

-- where every name of the first is in the second, as where both are the same
module _ (s other : Tree) (own : IsOrdered s) (ok : IsOrdered other) (xs ys : List (List ℕ)) (seen : trie_names s ≡ xs) (more : trie_names other ≡ ys)
    (kept : List (List ℕ)) (same : kept ≡ xs) (n : List ℕ) where
  whole : names_in (trie_names s) n ≡ (names_in (trie_names s) n && names_in (trie_names other) n) → names_in kept n ≡ (names_in xs n && names_in ys n)
  whole is =
      ap (λ (l : List (List ℕ)). names_in l n) (same ∙ sym seen) ∙ is
      ∙ ap (λ (l : List (List ℕ)). names_in l n && names_in (trie_names other) n) seen
      ∙ ap (λ (l : List (List ℕ)). names_in xs n && names_in l n) more

  pub whole-names : has_all s other ≡ true → names_in kept n ≡ (names_in xs n && names_in ys n)
  whole-names all = whole (has_all-names s other own.with_hash ok all n)

-- where every name of the first stands at its place in the second
module _ (s other : Tree) (own : IsOrdered s) (ok : IsOrdered other) (xs ys : List (List ℕ)) (seen : trie_names s ≡ xs) (more : trie_names other ≡ ys) (all : stands_in s other ≡ true) (n : List ℕ) where
  there_too : names_in xs n ≡ true → names_in ys n ≡ true
  there_too is =
      ap (λ (l : List (List ℕ)). names_in l n) (sym more)
      ∙ stands_in-names s other n own.with_hash ok all (ap (λ (l : List (List ℕ)). names_in l n) seen ∙ is)

  pub standing-common : (kept : List (List ℕ)) → kept ≡ xs → names_in kept n ≡ (names_in xs n && names_in ys n)
  standing-common kept same = ap (λ (l : List (List ℕ)). names_in l n) same ∙ go (names_in xs n) (names_in ys n) there_too
    where
      go : (a b : Bool) → (a ≡ true → b ≡ true) → a ≡ (a && b)
      go true b h = sym (h refl)
      go false b h = refl

  pub standing-all : (kept : List (List ℕ)) → kept ≡ ys → names_in kept n ≡ (names_in ys n || names_in xs n)
  standing-all kept same = ap (λ (l : List (List ℕ)). names_in l n) same ∙ go (names_in ys n) (names_in xs n) there_too
    where
      go : (b a : Bool) → (a ≡ true → b ≡ true) → b ≡ (b || a)
      go true a h = refl
      go false true h = h refl
      go false false h = refl

pub if_ok-map : {A E : Type 0} {P Q : A → Type 0} (r : Result A E) → ((x : A) → P x → Q x) → IfOk r P → IfOk r Q
if_ok-map (Ok x) f p = f x p
if_ok-map (Err e) f p = tt
