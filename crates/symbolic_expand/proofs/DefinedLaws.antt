-- Sets of definitions after an addition.
use Rattle.std.proofs.Common.{IsTrue, ◌↔◌, ◌≡◌, ℕ, Bool, true, false, Vec, Global, List, [], ◌∷◌, ◌++◌, ◌⊎◌, inl, inr, Option, Some, None, refl, sym, ap, subst, ◌∙◌, true≢false, if◌then◌else◌}
use Rattle.std.specs.Prelude.{bytes_eq}
use Rattle.std.specs.List.{Contains}
use Rattle.std.specs.Map as map
use Rattle.std.specs.Cmp.Lexicographic.{bytes_decides}
use Rattle.std.proofs.lemmas.Cmp.{nat_list_eq_equiv}
use Rattle.std.proofs.lemmas.List.Elements.{Contains-append_left, Contains-append_cases}
use Rattle.indexmap.specs.IndexMap.{insert_entry}
use Rattle.macro_defs.specs.MacroDefinition.{MacroDefinition}
use Rattle.macro_expand.specs.Choice.{HasNoRepeat, IsDistinct, AreAmong}
use Rattle.macro_expand.proofs.ChoiceLaws.{contains_first, contains_later}
use Rattle.symbolic_expand.specs.Defined.{Defined, sets_of, AddsDefinition}
use Rattle.symbolic_expand.specs.parts.Stored.{with_more, seen}
use Rattle.symbolic_expand.proofs.Elements.{contains_tail, contains_none}

-- What a map holds.

abbrev Stored : Type 0
Stored = List (Vec ℕ Global × Vec MacroDefinition Global)

abbrev pub is_key : List ℕ → Vec ℕ Global → Bool
is_key name k = bytes_eq name k.items

abbrev same_key : Vec ℕ Global → Vec ℕ Global → Bool
same_key j k = bytes_eq j.items k.items

-- the definitions that were found
abbrev pub found_in : Option (Vec MacroDefinition Global) → List MacroDefinition
found_in None = []
found_in (Some v) = v.items

pub seen_sets : (es : Stored) (name : List ℕ) → sets_of (seen es) name ≡ found_in (map.lookup (is_key name) es)
unfolding sets_of
seen_sets [] name = refl
seen_sets (e ∷ es) name = by (is_key name e.0) (seen_sets es name)
  where
    by : (b : Bool) → sets_of (seen es) name ≡ found_in (map.lookup (is_key name) es)
        → (if b then e.1.items else sets_of (seen es) name) ≡ found_in (if b then Some e.1 else map.lookup (is_key name) es)
    by true rest = refl
    by false rest = rest

-- a value that is written over with one definition more
pub seen_more : (es : Stored) (k : List ℕ) (v w : Vec MacroDefinition Global) (d : MacroDefinition) → Some v ≡ map.lookup (is_key k) es →
    w.items ≡ v.items ++ d ∷ [] → seen (map.set_value (is_key k) es w) ≡ with_more (seen es) k d
seen_more [] k v w d there more = absurd (cc)
seen_more (e ∷ es) k v w d there more = by (is_key k e.0) there (λ h. seen_more es k v w d h more)
  where
    by : (b : Bool) → Some v ≡ (if b then Some e.1 else map.lookup (is_key k) es)
        → (Some v ≡ map.lookup (is_key k) es → seen (map.set_value (is_key k) es w) ≡ with_more (seen es) k d)
        → seen (if b then (e.0, w) ∷ es else e ∷ map.set_value (is_key k) es w)
        ≡ (if b then (e.0.items, e.1.items ++ d ∷ []) ∷ seen es else (e.0.items, e.1.items) ∷ with_more (seen es) k d)
    by true is rest =
        let same : v ≡ e.1 = cc in
        ap (λ (x : List MacroDefinition). (e.0.items, x) ∷ seen es) (more ∙ ap (λ (u : Vec MacroDefinition Global). u.items ++ d ∷ []) same)
    by false is rest = ap (λ (r : Defined). (e.0.items, e.1.items) ∷ r) (rest is)

-- a value that is written over with the same definitions
pub seen_same : (es : Stored) (k : List ℕ) (v w : Vec MacroDefinition Global) → Some v ≡ map.lookup (is_key k) es →
    w.items ≡ v.items → seen (map.set_value (is_key k) es w) ≡ seen es
seen_same [] k v w there same_items = refl
seen_same (e ∷ es) k v w there same_items = by (is_key k e.0) there (λ h. seen_same es k v w h same_items)
  where
    by : (b : Bool) → Some v ≡ (if b then Some e.1 else map.lookup (is_key k) es)
        → (Some v ≡ map.lookup (is_key k) es → seen (map.set_value (is_key k) es w) ≡ seen es)
        → seen (if b then (e.0, w) ∷ es else e ∷ map.set_value (is_key k) es w) ≡ (e.0.items, e.1.items) ∷ seen es
    by true is rest =
        let same : v ≡ e.1 = cc in
        ap (λ (x : List MacroDefinition). (e.0.items, x) ∷ seen es) (same_items ∙ ap (λ (u : Vec MacroDefinition Global). u.items) same)
    by false is rest = ap (λ (r : Defined). (e.0.items, e.1.items) ∷ r) (rest is)

-- a name that is new
pub seen_first : (es : Stored) (k : Vec ℕ Global) (v : Vec MacroDefinition Global) (d : MacroDefinition) → map.lookup (is_key k.items) es ≡ None →
    v.items ≡ d ∷ [] → seen (insert_entry same_key es k v) ≡ with_more (seen es) k.items d
seen_first [] k v d absent one = ap (λ (x : List MacroDefinition). (k.items, x) ∷ []) one
seen_first (e ∷ es) k v d absent one = by (is_key k.items e.0) absent (λ h. seen_first es k v d h one)
  where
    by : (b : Bool) → (if b then Some e.1 else map.lookup (is_key k.items) es) ≡ None
        → (map.lookup (is_key k.items) es ≡ None → seen (insert_entry same_key es k v) ≡ with_more (seen es) k.items d)
        → seen (if b then (e.0, v) ∷ es else e ∷ insert_entry same_key es k v)
        ≡ (if b then (e.0.items, e.1.items ++ d ∷ []) ∷ seen es else (e.0.items, e.1.items) ∷ with_more (seen es) k.items d)
    by true is rest = absurd (cc)
    by false is rest = ap (λ (r : Defined). (e.0.items, e.1.items) ∷ r) (rest is)

-- What the sets are then.

abbrev Definitions : Type 0
Definitions = List MacroDefinition

-- a name at the front: the one that is added to, or another
here : (k m n : List ℕ) (own rest : Definitions) (d : MacroDefinition) → bytes_eq k m ≡ true →
    (if bytes_eq n m then own ++ d ∷ [] else rest)
    ≡ (if bytes_eq k n then (if bytes_eq n m then own else rest) ++ d ∷ [] else (if bytes_eq n m then own else rest))
here k m n own rest d same = by (bytes_eq n m) (bytes_eq k n) (nat_list_eq_equiv.symm n m ∙ sym (nat_list_eq_equiv.congr k m n same))
  where
    by : (p q : Bool) → p ≡ q → (if p then own ++ d ∷ [] else rest)
        ≡ (if q then (if p then own else rest) ++ d ∷ [] else (if p then own else rest))
    by true true is = refl
    by false false is = refl
    by true false is = absurd (true≢false is)
    by false true is = absurd (true≢false (sym is))

there : (k m n : List ℕ) (own rest : Definitions) (d : MacroDefinition) → bytes_eq k m ≡ false →
    (if bytes_eq n m then own else (if bytes_eq k n then rest ++ d ∷ [] else rest))
    ≡ (if bytes_eq k n then (if bytes_eq n m then own else rest) ++ d ∷ [] else (if bytes_eq n m then own else rest))
there k m n own rest d apart = by (bytes_eq n m) (bytes_eq k n) refl refl
  where
    by : (p q : Bool) → bytes_eq n m ≡ p → bytes_eq k n ≡ q → (if p then own else (if q then rest ++ d ∷ [] else rest))
        ≡ (if q then (if p then own else rest) ++ d ∷ [] else (if p then own else rest))
    by true false p q = refl
    by false true p q = refl
    by false false p q = refl
    by true true p q = absurd (true≢false (sym q ∙ nat_list_eq_equiv.symm k n ∙ nat_list_eq_equiv.congr n m k p ∙ nat_list_eq_equiv.symm m k ∙ apart))

pub more_sets : (es : Defined) (k : List ℕ) (d : MacroDefinition) (n : List ℕ) →
    sets_of (with_more es k d) n ≡ (if bytes_eq k n then sets_of es n ++ d ∷ [] else sets_of es n)
unfolding sets_of
more_sets [] k d n = ap (λ (b : Bool). if b then d ∷ [] else []) (nat_list_eq_equiv.symm n k)
more_sets (e ∷ es) k d n = by (bytes_eq k e.0) refl (more_sets es k d n)
  where
    by : (b : Bool) → bytes_eq k e.0 ≡ b → sets_of (with_more es k d) n ≡ (if bytes_eq k n then sets_of es n ++ d ∷ [] else sets_of es n)
        → sets_of (if b then (e.0, e.1 ++ d ∷ []) ∷ es else e ∷ with_more es k d) n
        ≡ (if bytes_eq k n then (if bytes_eq n e.0 then e.1 else sets_of es n) ++ d ∷ [] else (if bytes_eq n e.0 then e.1 else sets_of es n))
    by true same rest = here k e.0 n e.1 (sets_of es n) d same
    by false apart rest = ap (λ (r : Definitions). if bytes_eq n e.0 then e.1 else r) rest ∙ there k e.0 n e.1 (sets_of es n) d apart

-- No definition stands twice.

no_repeat_more : (ds : Definitions) (d : MacroDefinition) → HasNoRepeat ds → (Contains ds d → ⊥) → HasNoRepeat (ds ++ d ∷ [])
no_repeat_more [] d h apart = (contains_none d, tt)
no_repeat_more (e ∷ ds) d h apart =
    ((λ k. go (Contains-append_cases ds (d ∷ []) e k)), no_repeat_more ds d h.1 (λ k. apart (contains_later d e ds k)))
  where
    go : Contains ds e ⊎ Contains (d ∷ []) e → ⊥
    go (inl k) = h.0 k
    go (inr k) = last (contains_tail e d [] k)
      where
        last : (e ≡ d) ⊎ Contains [] e → ⊥
        last (inl is) = apart (subst (λ x. Contains (e ∷ ds) x) is (contains_first e ds))
        last (inr c) = contains_none e c

pub more_distinct : (es : Defined) (k : List ℕ) (d : MacroDefinition) → IsDistinct (sets_of es) → (Contains (sets_of es k) d → ⊥) →
    IsDistinct (sets_of (with_more es k d))
more_distinct es k d distinct apart n =
    subst HasNoRepeat (sym (more_sets es k d n)) (by (bytes_eq k n) refl)
  where
    by : (b : Bool) → bytes_eq k n ≡ b → HasNoRepeat (if b then sets_of es n ++ d ∷ [] else sets_of es n)
    by true same =
        no_repeat_more (sets_of es n) d (distinct n) (λ c. apart (subst (λ m. Contains (sets_of es m) d) (sym ((bytes_decides k n).0 same)) c))
    by false other = distinct n

pub more_adds : (es : Defined) (k : List ℕ) (d : MacroDefinition) (new : Defined) → (Contains (sets_of es k) d → ⊥) → new ≡ with_more es k d →
    AddsDefinition es k d true new
more_adds es k d new apart is = (apart, λ n. ap (λ w. sets_of w n) is ∙ more_sets es k d n)

-- a definition that isn't found
pub lacks : (ds es : Definitions) (d : MacroDefinition) → ds ≡ es → (IsTrue false ↔ Contains ds d) → Contains es d → ⊥
lacks ds es d is not_there c = absurd (true≢false (sym (not_there.1 (subst (λ w. Contains w d) (sym is) c))))

-- more definitions
pub adds_part : (old : Defined) (k : List ℕ) (d : MacroDefinition) (b : Bool) (new : Defined) → AddsDefinition old k d b new → AreAmong (sets_of old) (sets_of new)
adds_part old k d false new (there, is) n e c = subst (λ es. Contains (sets_of es n) e) (sym is) c
adds_part old k d true new (apart, sets) n e c = subst (λ ds. Contains ds e) (sym (sets n)) (by (bytes_eq k n))
  where
    by : (b : Bool) → Contains (if b then sets_of old n ++ d ∷ [] else sets_of old n) e
    by true = Contains-append_left (sets_of old n) (d ∷ []) e c
    by false = c
