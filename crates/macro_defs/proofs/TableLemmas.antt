-- Tables after a definition and after an undefinition.
use Rattle.std.proofs.Common.{◌≡◌, ℕ, Bool, true, false, List, [], ◌∷◌, Option, Some, None, refl, sym, ap, ◌∙◌, true≢false, if◌then◌else◌, OnOk, MatchOption}
use Rattle.std.specs.Prelude.{Result, Ok, Err, bytes_eq}
use Rattle.std.specs.Borrow.{Bor}
use Rattle.std.specs.Map as map
use Rattle.std.specs.Option.{option_copied, option_flatten}
use Rattle.std.proofs.lemmas.Cmp.{nat_list_eq_equiv}
use Rattle.indexmap.specs.IndexMap.{insert_entry}
use Rattle.macro_defs.specs.MacroDefinition.{MacroDefinition}
use Rattle.macro_defs.specs.Table.{TableEntries, lookup, names_ever_defined, with_definition, SetsDefinition}

abbrev Defined : Type 0
Defined = Option MacroDefinition

-- a name at the front of the table: the one that is set, or another
here : (k m n : List ℕ) (new old rest : Defined) → bytes_eq k m ≡ true → (if bytes_eq n m then new else rest) ≡ (if bytes_eq k n then new else (if bytes_eq n m then old else rest))
here k m n new old rest same = by (bytes_eq n m) (bytes_eq k n) (nat_list_eq_equiv.symm n m ∙ sym (nat_list_eq_equiv.congr k m n same))
  where
    by : (p q : Bool) → p ≡ q → (if p then new else rest) ≡ (if q then new else (if p then old else rest))
    by true true is = refl
    by false false is = refl
    by true false is = absurd (true≢false is)
    by false true is = absurd (true≢false (sym is))

-- a name at the front of the table that is another than the one that is set
there : (k m n : List ℕ) (new old rest : Defined) → bytes_eq k m ≡ false → (if bytes_eq n m then old else (if bytes_eq k n then new else rest)) ≡ (if bytes_eq k n then new else (if bytes_eq n m then old else rest))
there k m n new old rest apart = by (bytes_eq n m) (bytes_eq k n) refl refl
  where
    by : (p q : Bool) → bytes_eq n m ≡ p → bytes_eq k n ≡ q → (if p then old else (if q then new else rest)) ≡ (if q then new else (if p then old else rest))
    by true false p q = refl
    by false true p q = refl
    by false false p q = refl
    by true true p q = absurd (true≢false (sym q ∙ nat_list_eq_equiv.symm k n ∙ nat_list_eq_equiv.congr n m k p ∙ nat_list_eq_equiv.symm m k ∙ apart))

nothing : (k n : List ℕ) → ◌≡◌ {A = Defined} None (if bytes_eq k n then None else None)
nothing k n = by (bytes_eq k n)
  where
    by : (p : Bool) → ◌≡◌ {A = Defined} None (if p then None else None)
    by true = refl
    by false = refl

-- a definition that is put into a table is the name's, and each other name keeps its own
pub put_sets : (es : TableEntries) (k : List ℕ) (d : Defined) → SetsDefinition es k d (with_definition es k d)
unfolding lookup
put_sets [] k d n = ap (λ (b : Bool). if b then d else None) (nat_list_eq_equiv.symm n k)
put_sets (e ∷ es) k d n = by (bytes_eq k e.0) refl (put_sets es k d n)
  where
    by : (b : Bool) → bytes_eq k e.0 ≡ b → lookup (with_definition es k d) n ≡ (if bytes_eq k n then d else lookup es n)
        → lookup (if b then (e.0, d) ∷ es else e ∷ with_definition es k d) n ≡ (if bytes_eq k n then d else (if bytes_eq n e.0 then e.1 else lookup es n))
    by true same rest = here k e.0 n d e.1 (lookup es n) same
    by false apart rest = ap (λ (r : Defined). if bytes_eq n e.0 then e.1 else r) rest ∙ there k e.0 n d e.1 (lookup es n) apart

-- the same of a call that may fail
pub put_sets_ok : {E : Type 0} (result : Result (Unit {0}) E) (old new : TableEntries) (k : List ℕ) (d : Defined) → OnOk result (new ≡ with_definition old k d) → OnOk result (SetsDefinition old k d new)
put_sets_ok (Ok u) old new k d is = λ n. ap (λ t. lookup t n) is ∙ put_sets old k d n
put_sets_ok (Err e) old new k d is = tt

-- what a map holds after an insertion, as it is seen
pub seen_inserted : (es : TableEntries) (k : List ℕ) (d : Defined) → insert_entry bytes_eq es k d ≡ with_definition es k d
seen_inserted [] k d = refl
seen_inserted (e ∷ es) k d = by (bytes_eq k e.0) (seen_inserted es k d)
  where
    by : (b : Bool) → insert_entry bytes_eq es k d ≡ with_definition es k d
        → (if b then (e.0, d) ∷ es else e ∷ insert_entry bytes_eq es k d) ≡ (if b then (e.0, d) ∷ es else (e.0, e.1) ∷ with_definition es k d)
    by true rest = refl
    by false rest = ap (λ (r : TableEntries). (e.0, e.1) ∷ r) rest

-- a definition that is written over is the name's, and each other name keeps its own
pub written_sets : (es : TableEntries) (k : List ℕ) → SetsDefinition es k None (map.set_value (bytes_eq k) es None)
unfolding lookup
written_sets [] k n = nothing k n
written_sets (e ∷ es) k n = by (bytes_eq k e.0) refl (written_sets es k n)
  where
    by : (b : Bool) → bytes_eq k e.0 ≡ b → lookup (map.set_value (bytes_eq k) es None) n ≡ (if bytes_eq k n then None else lookup es n)
        → lookup (if b then (e.0, None) ∷ es else e ∷ map.set_value (bytes_eq k) es None) n ≡ (if bytes_eq k n then None else (if bytes_eq n e.0 then e.1 else lookup es n))
    by true same rest = here k e.0 n None e.1 (lookup es n) same
    by false apart rest = ap (λ (r : Defined). if bytes_eq n e.0 then e.1 else r) rest ∙ there k e.0 n None e.1 (lookup es n) apart

-- a definition that is written over leaves the names
pub written_names : (es : TableEntries) (k : List ℕ) → names_ever_defined (map.set_value (bytes_eq k) es None) ≡ names_ever_defined es
written_names [] k = refl
written_names (e ∷ es) k = by (bytes_eq k e.0) (written_names es k)
  where
    by : (b : Bool) → names_ever_defined (map.set_value (bytes_eq k) es None) ≡ names_ever_defined es
        → names_ever_defined (if b then (e.0, None) ∷ es else e ∷ map.set_value (bytes_eq k) es None) ≡ e.0 ∷ names_ever_defined es
    by true rest = refl
    by false rest = ap (λ (names : List (List ℕ)). e.0 ∷ names) rest

-- a map that lacks the name
pub absent_sets : (es : TableEntries) (k : List ℕ) → map.lookup (bytes_eq k) es ≡ None → SetsDefinition es k None es
unfolding lookup
absent_sets [] k none n = nothing k n
absent_sets (e ∷ es) k none n = by (bytes_eq k e.0) refl none (λ left. absent_sets es k left n)
  where
    by : (b : Bool) → bytes_eq k e.0 ≡ b → (if b then Some e.1 else map.lookup (bytes_eq k) es) ≡ None
        → (map.lookup (bytes_eq k) es ≡ None → lookup es n ≡ (if bytes_eq k n then None else lookup es n))
        → (if bytes_eq n e.0 then e.1 else lookup es n) ≡ (if bytes_eq k n then None else (if bytes_eq n e.0 then e.1 else lookup es n))
    by true same absent rest = cc
    by false apart absent rest = ap (λ (r : Defined). if bytes_eq n e.0 then e.1 else r) (rest absent) ∙ there k e.0 n None e.1 (lookup es n) apart

-- a look-up in a map
pub seen_lookup : (es : TableEntries) (name : List ℕ) → lookup es name ≡ option_flatten (map.lookup (bytes_eq name) es)
unfolding lookup
seen_lookup [] name = refl
seen_lookup (e ∷ es) name = by (bytes_eq name e.0) (seen_lookup es name)
  where
    by : (b : Bool) → lookup es name ≡ option_flatten (map.lookup (bytes_eq name) es)
        → (if b then e.1 else lookup es name) ≡ option_flatten (if b then Some e.1 else map.lookup (bytes_eq name) es)
    by true rest = refl
    by false rest = rest

-- what a reference to a definition tells
pub lent : (found : Option (Bor MacroDefinition)) (is told : Defined) → option_copied found ≡ is → told ≡ is → MatchOption found (told ≡ None) (λ d. told ≡ Some d.now)
lent None is told found same = same ∙ sym found
lent (Some d) is told found same = same ∙ sym found

-- tables that are equal to two others
pub sets_along : (es now old new : TableEntries) (k : List ℕ) (d : Defined) → es ≡ old → new ≡ now → SetsDefinition es k d now → SetsDefinition old k d new
sets_along es now old new k d before after sets n = ap (λ t. lookup t n) after ∙ sets n ∙ ap (λ t. if bytes_eq k n then d else lookup t n) before
