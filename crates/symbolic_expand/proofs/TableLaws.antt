-- The definitions of a table, name by name.
use Rattle.std.proofs.Common.{◌≡◌, ℕ, ◌+◌, ◌≤◌, Bool, true, false, ◌||◌, List, [], ◌∷◌, ◌++◌, take, length, Option, Some, None, refl, sym, ap, subst, ◌∙◌, true≢false, if◌then◌else◌, arith, take_all}
use Rattle.std.specs.Prelude.{bytes_eq, slice_get}
use Rattle.std.specs.List.{list_any, Contains}
use Rattle.std.specs.Option.{option_map, option_to_list}
use Rattle.std.specs.Cmp.Lexicographic.{bytes_decides}
use Rattle.std.proofs.lemmas.List.{length-map}
use Rattle.std.proofs.lemmas.List.Folds.{list_any_more}
use Rattle.std.proofs.lemmas.Option.{slice_get_within, get_or_from_slice_get, slice_get-map}
use Rattle.std.proofs.Math.Bool.{or-false, or-true}
use Rattle.macro_defs.specs.MacroDefinition.{MacroDefinition}
use Rattle.macro_defs.specs.Table.{TableEntries, names_ever_defined, lookup}
use Rattle.macro_expand.proofs.ChoiceLaws.{contains_first}
use Rattle.symbolic_expand.specs.Defined.{Defined, sets_of, AddsDefinition}
use Rattle.symbolic_expand.specs.parts.Stored.{HasBefore, one_where}
use Rattle.symbolic_expand.proofs.Elements.{contains_none}

abbrev before : TableEntries → ℕ → List ℕ → Bool
before table place n = list_any (bytes_eq n) (take place (names_ever_defined table))

-- one name more
before_more : (table : TableEntries) (place : ℕ) (e : List ℕ × Option MacroDefinition) (n : List ℕ) → Some e ≡ slice_get table place →
    before table (place + 1) n ≡ (before table place n || bytes_eq n e.0)
before_more table place e n is =
    let there : slice_get (names_ever_defined table) place ≡ Some e.0 = slice_get-map (λ (x : List ℕ × Option MacroDefinition). x.0) table place ∙ ap (option_map (λ (x : List ℕ × Option MacroDefinition). x.0)) (sym is) in
    list_any_more (bytes_eq n) (names_ever_defined table) place e.0 (slice_get_within (names_ever_defined table) place e.0 there)
    ∙ ap (λ x. before table place n || bytes_eq n x) (get_or_from_slice_get (names_ever_defined table) place e.0 e.0 there)

-- of another name
other_name : (table : TableEntries) (place : ℕ) (e : List ℕ × Option MacroDefinition) (n : List ℕ) → Some e ≡ slice_get table place → bytes_eq n e.0 ≡ false →
    before table (place + 1) n ≡ before table place n
other_name table place e n is apart = before_more table place e n is ∙ ap (λ b. before table place n || b) apart ∙ or-false (before table place n)

this_name : (table : TableEntries) (place : ℕ) (e : List ℕ × Option MacroDefinition) (n : List ℕ) → Some e ≡ slice_get table place → bytes_eq n e.0 ≡ true →
    before table (place + 1) n ≡ true
this_name table place e n is same = before_more table place e n is ∙ ap (λ b. before table place n || b) same ∙ or-true (before table place n)

-- a name that isn't defined any more
pub has_none : (table : TableEntries) (place : ℕ) (e : List ℕ × Option MacroDefinition) (sets : Defined) → Some e ≡ slice_get table place → lookup table e.0 ≡ None →
    HasBefore table place sets → HasBefore table (place + 1) sets
has_none table place e sets is none h n = h n ∙ go (bytes_eq n e.0) refl
  where
    empty : (b c : Bool) → one_where b None ≡ one_where c None
    empty true true = refl
    empty true false = refl
    empty false true = refl
    empty false false = refl

    go : (b : Bool) → bytes_eq n e.0 ≡ b → one_where (before table place n) (lookup table n) ≡ one_where (before table (place + 1) n) (lookup table n)
    go false apart = ap (λ b. one_where b (lookup table n)) (sym (other_name table place e n is apart))
    go true same =
        let nothing : lookup table n ≡ None = ap (lookup table) ((bytes_decides n e.0).0 same) ∙ none in
        ap (one_where (before table place n)) nothing ∙ empty (before table place n) (before table (place + 1) n)
        ∙ ap (one_where (before table (place + 1) n)) (sym nothing)

-- a name that is defined, whose definition was added
pub has_one : (table : TableEntries) (place : ℕ) (e : List ℕ × Option MacroDefinition) (d : MacroDefinition) (old new : Defined) (added : Bool) →
    Some e ≡ slice_get table place → lookup table e.0 ≡ Some d → AddsDefinition old e.0 d added new → HasBefore table place old → HasBefore table (place + 1) new
has_one table place e d old new false is some (there, same) h n = ap (λ s. sets_of s n) same ∙ h n ∙ go (bytes_eq n e.0) refl
  where
    known : (b : Bool) → before table place e.0 ≡ b → before table place e.0 ≡ true
    known true k = k
    known false k =
        absurd (contains_none d (subst (λ ds. Contains ds d) (h e.0 ∙ ap (λ b. one_where b (lookup table e.0)) k) there))

    go : (b : Bool) → bytes_eq n e.0 ≡ b → one_where (before table place n) (lookup table n) ≡ one_where (before table (place + 1) n) (lookup table n)
    go false apart = ap (λ b. one_where b (lookup table n)) (sym (other_name table place e n is apart))
    go true equal =
        let here : before table place n ≡ true = ap (before table place) ((bytes_decides n e.0).0 equal) ∙ known (before table place e.0) refl in
        ap (λ b. one_where b (lookup table n)) (here ∙ sym (this_name table place e n is equal))
has_one table place e d old new true is some (apart, sets) h n = sets n ∙ go (bytes_eq e.0 n) refl
  where
    unknown : (b : Bool) → before table place e.0 ≡ b → sets_of old e.0 ≡ []
    unknown false k = h e.0 ∙ ap (λ b. one_where b (lookup table e.0)) k
    unknown true k =
        let one : sets_of old e.0 ≡ d ∷ [] = h e.0 ∙ ap (λ b. one_where b (lookup table e.0)) k ∙ ap (one_where true) some in
        absurd (apart (subst (λ ds. Contains ds d) (sym one) (contains_first d [])))

    go : (b : Bool) → bytes_eq e.0 n ≡ b → (if b then sets_of old n ++ d ∷ [] else sets_of old n) ≡ one_where (before table (place + 1) n) (lookup table n)
    go true equal =
        let name : e.0 ≡ n = (bytes_decides e.0 n).0 equal in
        ap (λ ds. ds ++ d ∷ []) (ap (sets_of old) (sym name) ∙ unknown (before table place e.0) refl)
        ∙ ap (one_where true) (sym (ap (lookup table) (sym name) ∙ some))
        ∙ ap (λ b. one_where b (lookup table n)) (sym (this_name table place e n is ((bytes_decides n e.0).1 (sym name))))
    go false other =
        h n ∙ ap (λ b. one_where b (lookup table n)) (sym (other_name table place e n is (turned (bytes_eq n e.0) refl)))
      where
        turned : (b : Bool) → bytes_eq n e.0 ≡ b → bytes_eq n e.0 ≡ false
        turned false k = k
        turned true k = absurd (true≢false (sym ((bytes_decides e.0 n).1 (sym ((bytes_decides n e.0).0 k))) ∙ other))

-- past the last name
pub has_past : (table : TableEntries) (place : ℕ) (sets : Defined) → length table ≤ place → HasBefore table place sets → HasBefore table (place + 1) sets
has_past table place sets past h n =
    let short : length (names_ever_defined table) ≤ place = omega (arith, past, length-map table (λ (x : List ℕ × Option MacroDefinition). x.0)) in
    let shorter : length (names_ever_defined table) ≤ place + 1 = omega (arith, short) in
    h n ∙ ap (λ names. one_where (list_any (bytes_eq n) names) (lookup table n))
    (take_all place (names_ever_defined table) short ∙ sym (take_all (place + 1) (names_ever_defined table) shorter))

lookup_none : (table : TableEntries) (n : List ℕ) → list_any (bytes_eq n) (names_ever_defined table) ≡ false → lookup table n ≡ None
unfolding lookup
lookup_none [] n h = refl
lookup_none (e ∷ es) n h = go (bytes_eq n e.0) h (lookup_none es n)
  where
    go : (b : Bool) → (b || list_any (bytes_eq n) (names_ever_defined es)) ≡ false → (list_any (bytes_eq n) (names_ever_defined es) ≡ false → lookup es n ≡ None) →
        (if b then e.1 else lookup es n) ≡ None
    go true k ih = absurd (true≢false k)
    go false k ih = ih k

-- all names
pub has_all : (table : TableEntries) (place : ℕ) (sets : Defined) → length table ≤ place → HasBefore table place sets →
    (n : List ℕ) → sets_of sets n ≡ option_to_list (lookup table n)
has_all table place sets past h n =
    let short : length (names_ever_defined table) ≤ place = omega (arith, past, length-map table (λ (x : List ℕ × Option MacroDefinition). x.0)) in
    h n ∙ ap (λ names. one_where (list_any (bytes_eq n) names) (lookup table n)) (take_all place (names_ever_defined table) short)
    ∙ go (list_any (bytes_eq n) (names_ever_defined table)) refl
  where
    go : (b : Bool) → list_any (bytes_eq n) (names_ever_defined table) ≡ b → one_where b (lookup table n) ≡ option_to_list (lookup table n)
    go true k = refl
    go false k = ap option_to_list (sym (lookup_none table n k))
