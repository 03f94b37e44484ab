-- Names of parameters, one after the other, and sets of them.
use Rattle.std.proofs.Common.{◌≡◌, ℕ, ◌+◌, ◌-◌, ◌<◌, ◌≤◌, Bool, true, false, List, [], ◌∷◌, ◌++◌, length, get_or, take, drop, refl, sym, ap, ◌∙◌, true≢false, if◌then◌else◌}
use Rattle.std.specs.Prelude.{not, ◌&&◌, ◌||◌, bytes_eq}
use Rattle.std.specs.Borrow.{Bor}
use Rattle.std.specs.List.{list_any}
use Rattle.std.proofs.Math.Bool.{or-false, and-false}
use Rattle.std.proofs.Math.ListN.{take-append-drop}
use Rattle.std.proofs.lemmas.Cmp.{nat_list_eq_equiv}
use Rattle.std.proofs.lemmas.Slice.Eq.{bytes_eq-Decides}
use Rattle.std.proofs.lemmas.List.{take_rest, drop_all}
use Rattle.std.proofs.lemmas.List.Folds.{list_any-append}
use Rattle.indexmap.specs.IndexSet.{insert_key}
use Rattle.pp_tokens.specs.declared.Token.{Token}
use Rattle.pp_tokens.specs.Marks.{is_hash, is_identifier}
use Rattle.macro_defs.specs.Defining.{are_distinct, hashes_parameters, begins_with_parameter}
use Rattle.macro_defs.specs.parts.Stored.{spellings_of}
use Rattle.macro_defs.proofs.Fronts.{front_at}

from_not : (p : Bool) → false ≡ not p → p ≡ true
from_not true is = refl
from_not false is = absurd (true≢false (sym is))

from_yes : (p : Bool) → true ≡ not p → p ≡ false
from_yes true is = absurd (true≢false is)
from_yes false is = refl

-- Sets.

abbrev pub same_name : Bor (List ℕ) → Bor (List ℕ) → Bool
same_name a b = bytes_eq a.now b.now

pub spelled_any : (test : List ℕ → Bool) (keys : List (Bor (List ℕ))) → list_any test (spellings_of keys) ≡ list_any (λ k. test k.now) keys
spelled_any test [] = refl
spelled_any test (k ∷ keys) = ap (λ (b : Bool). test k.now || b) (spelled_any test keys)

any_last : (test : Bor (List ℕ) → Bool) (keys : List (Bor (List ℕ))) (k : Bor (List ℕ)) → list_any test (keys ++ k ∷ []) ≡ (list_any test keys || test k)
any_last test keys k = list_any-append test keys (k ∷ []) ∙ ap (λ (b : Bool). list_any test keys || b) (or-false (test k))

told_already : (p q : Bool) → (q ≡ true → p ≡ true) → p ≡ (p || q)
told_already true q so = refl
told_already false true so = so refl
told_already false false so = refl

-- a name more in a set
pub inserted : (keys : List (Bor (List ℕ))) (k : Bor (List ℕ)) (other : List ℕ)
    → list_any (bytes_eq other) (spellings_of (insert_key same_name keys k)) ≡ (list_any (bytes_eq other) (spellings_of keys) || bytes_eq other k.now)
inserted keys k other = by (list_any (same_name k) keys) refl
  where
    by : (b : Bool) → list_any (same_name k) keys ≡ b → list_any (bytes_eq other) (spellings_of (if b then keys else keys ++ k ∷ [])) ≡ (list_any (bytes_eq other) (spellings_of keys) || bytes_eq other k.now)
    by true is =
        told_already (list_any (bytes_eq other) (spellings_of keys)) (bytes_eq other k.now)
        (λ same. ap (λ n. list_any (bytes_eq n) (spellings_of keys)) ((bytes_eq-Decides other k.now).0 same) ∙ spelled_any (bytes_eq k.now) keys ∙ is)
    by false is =
        spelled_any (bytes_eq other) (keys ++ k ∷ []) ∙ any_last (λ n. bytes_eq other n.now) keys k ∙ ap (λ (b : Bool). b || bytes_eq other k.now) (sym (spelled_any (bytes_eq other) keys))

-- Distinct names.

in_middle : (test : List ℕ → Bool) (before rest : List (List ℕ)) (name : List ℕ) → test name ≡ true → list_any test (before ++ name ∷ rest) ≡ true
in_middle test [] rest name is = ap (λ (b : Bool). b || list_any test rest) is
in_middle test (n ∷ before) rest name is = ap (λ (b : Bool). test n || b) (in_middle test before rest name is) ∙ by (test n)
  where
    by : (b : Bool) → (b || true) ≡ true
    by true = refl
    by false = refl

again_apart : (before rest : List (List ℕ)) (name : List ℕ) → list_any (bytes_eq name) before ≡ true → are_distinct (before ++ name ∷ rest) ≡ false
unfolding are_distinct
again_apart [] rest name is = absurd (true≢false (sym is))
again_apart (n ∷ before) rest name is = by (bytes_eq name n) refl is (λ left. again_apart before rest name left)
  where
    by : (b : Bool) → bytes_eq name n ≡ b → (b || list_any (bytes_eq name) before) ≡ true → (list_any (bytes_eq name) before ≡ true → are_distinct (before ++ name ∷ rest) ≡ false)
        → (not (list_any (bytes_eq n) (before ++ name ∷ rest)) && are_distinct (before ++ name ∷ rest)) ≡ false
    by true same there more =
        ap (λ (b : Bool). not b && are_distinct (before ++ name ∷ rest)) (in_middle (bytes_eq n) before rest name (nat_list_eq_equiv.symm n name ∙ same))
    by false apart there more =
        ap (λ (b : Bool). not (list_any (bytes_eq n) (before ++ name ∷ rest)) && b) (more there) ∙ and-false (not (list_any (bytes_eq n) (before ++ name ∷ rest)))

one_more : (before : List (List ℕ)) (name : List ℕ) → are_distinct before ≡ true → list_any (bytes_eq name) before ≡ false → are_distinct (before ++ name ∷ []) ≡ true
unfolding are_distinct
one_more [] name distinct new = refl
one_more (n ∷ before) name distinct new = by (list_any (bytes_eq n) before) (bytes_eq name n) refl refl distinct new (λ d w. one_more before name d w)
  where
    by : (p q : Bool) → list_any (bytes_eq n) before ≡ p → bytes_eq name n ≡ q → (not p && are_distinct before) ≡ true → (q || list_any (bytes_eq name) before) ≡ false
        → (are_distinct before ≡ true → list_any (bytes_eq name) before ≡ false → are_distinct (before ++ name ∷ []) ≡ true)
        → (not (list_any (bytes_eq n) (before ++ name ∷ [])) && are_distinct (before ++ name ∷ [])) ≡ true
    by true q p-is q-is d w more = absurd (true≢false (sym d))
    by false true p-is q-is d w more = absurd (true≢false w)
    by false false p-is q-is d w more =
        ap (λ (b : Bool). not b && are_distinct (before ++ name ∷ [])) (list_any-append (bytes_eq n) before (name ∷ [])
        ∙ ap (λ (b : Bool). b || (bytes_eq n name || false)) p-is ∙ or-false (bytes_eq n name) ∙ nat_list_eq_equiv.symm n name ∙ q-is) ∙ more d w

-- the names up to one, and those behind it
split_at : (names : List (List ℕ)) (i : ℕ) (name : List ℕ) → i < length names → name ≡ get_or names i name → names ≡ take i names ++ name ∷ drop (i + 1) names
split_at names i name within at = sym (take-append-drop i names) ∙ ap (λ rest. take i names ++ rest) (front_at names i name within at)

-- a name that stands in the set
pub repeated : (names known : List (List ℕ)) (i : ℕ) (name : List ℕ) → i < length names → name ≡ get_or names i name
    → ((other : List ℕ) → list_any (bytes_eq other) known ≡ list_any (bytes_eq other) (take i names)) → false ≡ not (list_any (bytes_eq name) known) → are_distinct names ≡ false
repeated names known i name within at tells there =
    ap are_distinct (split_at names i name within at) ∙ again_apart (take i names) (drop (i + 1) names) name (sym (tells name) ∙ from_not (list_any (bytes_eq name) known) there)

-- a name that doesn't
pub still_distinct : (names known : List (List ℕ)) (i : ℕ) (name : List ℕ) → take (i + 1) names ≡ take i names ++ name ∷ [] → are_distinct (take i names) ≡ true
    → ((other : List ℕ) → list_any (bytes_eq other) known ≡ list_any (bytes_eq other) (take i names)) → true ≡ not (list_any (bytes_eq name) known) → are_distinct (take (i + 1) names) ≡ true
still_distinct names known i name step distinct tells new =
    ap are_distinct step ∙ one_more (take i names) name distinct (sym (tells name) ∙ from_yes (list_any (bytes_eq name) known) new)

-- the set then tells one name more
pub still_tells : (names known now : List (List ℕ)) (i : ℕ) (name : List ℕ) → take (i + 1) names ≡ take i names ++ name ∷ []
    → ((other : List ℕ) → list_any (bytes_eq other) known ≡ list_any (bytes_eq other) (take i names)) → ((other : List ℕ) → list_any (bytes_eq other) now ≡ (list_any (bytes_eq other) known || bytes_eq other name))
    → (other : List ℕ) → list_any (bytes_eq other) now ≡ list_any (bytes_eq other) (take (i + 1) names)
still_tells names known now i name step tells more other =
    more other ∙ ap (λ (b : Bool). b || bytes_eq other name) (tells other)
    ∙ sym (ap (list_any (bytes_eq other)) step ∙ list_any-append (bytes_eq other) (take i names) (name ∷ []) ∙ ap (λ (b : Bool). list_any (bytes_eq other) (take i names) || b) (or-false (bytes_eq other name)))

-- Each name is compared with those behind it.

-- one name more
pub distinct_turn : (names : List (List ℕ)) (i : ℕ) (name : List ℕ) (again : Bool) → i < length names → name ≡ get_or names i name
    → again ≡ list_any (bytes_eq name) (take (length names - (i + 1)) (drop (i + 1) names)) → are_distinct (drop i names) ≡ (not again && are_distinct (drop (i + 1) names))
unfolding are_distinct
distinct_turn names i name again within at is =
    ap are_distinct (front_at names i name within at)
    ∙ ap (λ (rest : List (List ℕ)). not (list_any (bytes_eq name) rest) && are_distinct (drop (i + 1) names)) (sym (take_rest names (i + 1)))
    ∙ ap (λ (b : Bool). not b && are_distinct (drop (i + 1) names)) (sym is)

-- no name more
pub distinct_end : (names : List (List ℕ)) (i : ℕ) → length names ≤ i → are_distinct (drop i names) ≡ true
unfolding are_distinct
distinct_end names i past = ap are_distinct (drop_all i names past)

-- `#` goes by what a set tells of names.
parameter_alike : (known names : List (List ℕ)) (body : List Token) → ((other : List ℕ) → list_any (bytes_eq other) known ≡ list_any (bytes_eq other) names) → begins_with_parameter known body ≡ begins_with_parameter names body
parameter_alike known names [] tells = refl
parameter_alike known names (t ∷ body) tells = ap (λ (b : Bool). is_identifier t && b) (tells t.text)

pub hashes_alike : (known names : List (List ℕ)) (body : List Token) → ((other : List ℕ) → list_any (bytes_eq other) known ≡ list_any (bytes_eq other) names) → hashes_parameters known body ≡ hashes_parameters names body
unfolding hashes_parameters
hashes_alike known names [] tells = refl
hashes_alike known names (t ∷ body) tells =
    ap (λ (b : Bool). (not (is_hash t) || b) && hashes_parameters known body) (parameter_alike known names body tells)
    ∙ ap (λ (b : Bool). (not (is_hash t) || begins_with_parameter names body) && b) (hashes_alike known names body tells)
