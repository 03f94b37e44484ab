-- Definition sets as they are kept, and as the closure has them: both have just the definitions of a list.
use Rattle.std.proofs.Common.{◌≡◌, ◌⊎◌, ◌∷◌, ◌++◌, [], List, Option, Some, None, Bool, true, false, not, inl, inr, refl, sym, ap, subst, ◌∙◌, if◌then◌else◌, true≢false, append_assoc, append-nil, ◌<◌, ◌≤◌, ◌+◌, ℕ, length, take, take_all, get_or}
use Rattle.std.specs.Prelude.{bytes_eq}
use Rattle.std.specs.List.{list_any, filter_map, cons_option, Contains}
use Rattle.std.proofs.lemmas.List.{take_more}
use Rattle.std.specs.Option.{option_to_list}
use Rattle.std.specs.Cmp.Lexicographic.{bytes_decides}
use Rattle.std.proofs.lemmas.List.Elements.{Contains-append_right, Contains-append_cases, filter_map-append}
use Rattle.std.proofs.lemmas.Bool.{and_parts}
use Rattle.base_types.specs.Members.{Member}
use Rattle.macro_defs.specs.MacroDefinition.{MacroDefinition}
use Rattle.macro_defs.specs.Defining.{Named, are_distinct}
use Rattle.macro_defs.specs.Table.{TableEntries, names_ever_defined, lookup, initial_entries}
use Rattle.macro_expand.specs.Choice.{AreAmong}
use Rattle.symbolic_expand.specs.Defined.{Defined, AddsDefinition}
use Rattle.symbolic_expand.specs.Defined as kept
use Rattle.tree_model.specs.Paths.{Text}
use Rattle.tree_model.proofs.MemberLemmas.{Member-append_left, Member-append_right, Member-append, Member-filter_map, Member-map, list_any-true}
use Rattle.job_words.specs.declared.MacroWord.{MacroWord}
use Rattle.job_words.specs.declared.MacroWord.TheVariants as words
use Rattle.closure_fixpoint.specs.Closure.{initial_definition, word_definition, of_name, definition_sets}
use Rattle.closure_fixpoint.specs.Naming.{HasJust}
use Rattle.closure_fixpoint.proofs.MemberLaws.{GivenBy, filter_map-Member, Contains-from_Member, Member-from_Contains}
use Rattle.closure_fixpoint.proofs.DistinctLaws.{distinct_there}
use Rattle.closure_fixpoint.proofs.LeadsLaws.{in_distinct}

-- SETS OF A LIST

abbrev pub named : Text → MacroDefinition → Named
named name d = record { name = name; definition = d }

gives_named : (name : Text) (x : Named) (d : MacroDefinition) → of_name name x ≡ Some d → x ≡ named name d
gives_named name x d gives = go (bytes_eq name x.name) refl gives
  where
    go : (b : Bool) → bytes_eq name x.name ≡ b → (if b then Some x.definition else None) ≡ Some d → x ≡ named name d
    go false other none = absurd (cc)
    go true same some =
        let n : x.name ≡ name = sym ((bytes_decides name x.name).0 same) in
        let e : x.definition ≡ d = cc in
        λ i. record { name = n i; definition = e i }

named_gives : (name : Text) (d : MacroDefinition) → of_name name (named name d) ≡ Some d
named_gives name d = ap (λ b. if b then Some d else None) ((bytes_decides name name).1 refl)

-- a definition of a name is in the sets of a list just where it is in the list
pub in_sets : (definitions : List Named) (name : Text) (d : MacroDefinition) → Member (named name d) definitions → Contains (definition_sets definitions name) d
in_sets definitions name d m =
    Contains-from_Member d (definition_sets definitions name)
    (distinct_there d (filter_map (of_name name) definitions) (Member-filter_map (of_name name) (named name d) d definitions m (named_gives name d)))

pub of_sets : (definitions : List Named) (name : Text) (d : MacroDefinition) → Contains (definition_sets definitions name) d → Member (named name d) definitions
of_sets definitions name d c =
    let by : GivenBy (of_name name) definitions d =
    filter_map-Member (of_name name) d definitions (in_distinct d (filter_map (of_name name) definitions) (Member-from_Contains d (definition_sets definitions name) c)) in
    subst (λ (x : Named). Member x definitions) (gives_named name by.by d by.gives) by.member

-- ONE DEFINITION MORE

has_now : (old : Defined) (name : Text) (d : MacroDefinition) (b : Bool) (new : Defined) → AddsDefinition old name d b new → Contains (kept.sets_of new name) d
has_now old name d false new (there, is) = subst (λ (s : Defined). Contains (kept.sets_of s name) d) (sym is) there
has_now old name d true new (apart, sets) =
    subst (λ (ds : List MacroDefinition). Contains ds d)
    (sym (sets name ∙ ap (λ (b : Bool). if b then kept.sets_of old name ++ d ∷ [] else kept.sets_of old name) ((bytes_decides name name).1 refl)))
    (Contains-append_right (kept.sets_of old name) (d ∷ []) d (Contains-from_Member d (d ∷ []) (inl refl)))

one_more : (old : Defined) (name : Text) (d : MacroDefinition) (b : Bool) (new : Defined) → AddsDefinition old name d b new → (n : Text) (e : MacroDefinition)
    → Contains (kept.sets_of new n) e → Contains (kept.sets_of old n) e ⊎ ((name ≡ n) × (d ≡ e))
one_more old name d false new (there, is) n e c = inl (subst (λ (s : Defined). Contains (kept.sets_of s n) e) is c)
one_more old name d true new (apart, sets) n e c = go (bytes_eq name n) refl (subst (λ (ds : List MacroDefinition). Contains ds e) (sets n) c)
  where
    last : name ≡ n → Contains (kept.sets_of old n) e ⊎ Contains (d ∷ []) e → Contains (kept.sets_of old n) e ⊎ ((name ≡ n) × (d ≡ e))
    last same (inl k) = inl k
    last same (inr k) = elim (Member-from_Contains e (d ∷ []) k) [ inl is ↦ inr (same, is) | inr never ↦ absurd never ]

    go : (b : Bool) → bytes_eq name n ≡ b → Contains (if b then kept.sets_of old n ++ d ∷ [] else kept.sets_of old n) e → Contains (kept.sets_of old n) e ⊎ ((name ≡ n) × (d ≡ e))
    go false other k = inl k
    go true same k = last ((bytes_decides name n).0 same) (Contains-append_cases (kept.sets_of old n) (d ∷ []) e k)

pub just_more : (old : Defined) (name : Text) (d : MacroDefinition) (b : Bool) (new : Defined) → AddsDefinition old name d b new → AreAmong (kept.sets_of old) (kept.sets_of new)
    → (before : List Named) → HasJust old before → HasJust new (before ++ named name d ∷ [])
just_more old name d b new adds part before just n e = (to, from)
  where
    to : Contains (kept.sets_of new n) e → Contains (definition_sets (before ++ named name d ∷ []) n) e
    to c = in_sets (before ++ named name d ∷ []) n e (go (one_more old name d b new adds n e c))
      where
        go : Contains (kept.sets_of old n) e ⊎ ((name ≡ n) × (d ≡ e)) → Member (named n e) (before ++ named name d ∷ [])
        go (inl k) = Member-append_left (named n e) before (named name d ∷ []) (of_sets before n e ((just n e).0 k))
        go (inr (same, is)) = Member-append_right (named n e) before (named name d ∷ []) (inl (λ i. named (same i) (is i)))

    from : Contains (definition_sets (before ++ named name d ∷ []) n) e → Contains (kept.sets_of new n) e
    from c = go (Member-append (named n e) before (named name d ∷ []) (of_sets (before ++ named name d ∷ []) n e c))
      where
        go : Member (named n e) before ⊎ Member (named n e) (named name d ∷ []) → Contains (kept.sets_of new n) e
        go (inl m) = part n e ((just n e).1 (in_sets before n e m))
        go (inr (inl same)) =
            subst (λ (x : Named). Contains (kept.sets_of new x.name) x.definition) same (has_now old name d b new adds)
        go (inr (inr never)) = absurd never

-- names that an addition leaves alone
pub others_same : (old : Defined) (name : Text) (d : MacroDefinition) (new : Defined) → AddsDefinition old name d true new → (n : Text) → (name ≡ n → ⊥) → kept.sets_of new n ≡ kept.sets_of old n
others_same old name d new (apart, sets) n other = sets n ∙ go (bytes_eq name n) refl
  where
    go : (b : Bool) → bytes_eq name n ≡ b → (if b then kept.sets_of old n ++ d ∷ [] else kept.sets_of old n) ≡ kept.sets_of old n
    go false is = refl
    go true is = absurd (other ((bytes_decides name n).0 is))

-- THE FIRST DEFINITIONS

looked_up : (es : TableEntries) (name : Text) (d : MacroDefinition) → lookup es name ≡ Some d → Member (named name d) (filter_map initial_definition es)
unfolding lookup
looked_up [] name d is = absurd (cc)
looked_up ((n, None) ∷ es) name d is = go (bytes_eq name n) is (looked_up es name d)
  where
    go : (b : Bool) → (if b then None else lookup es name) ≡ Some d → (lookup es name ≡ Some d → Member (named name d) (filter_map initial_definition es))
        → Member (named name d) (filter_map initial_definition es)
    go true none rest = absurd (cc)
    go false some rest = rest some
looked_up ((n, Some e) ∷ es) name d is = go (bytes_eq name n) refl is (looked_up es name d)
  where
    go : (b : Bool) → bytes_eq name n ≡ b → (if b then Some e else lookup es name) ≡ Some d
        → (lookup es name ≡ Some d → Member (named name d) (filter_map initial_definition es))
        → Member (named name d) (named n e ∷ filter_map initial_definition es)
    go true same some rest =
        let first : n ≡ name = sym ((bytes_decides name n).0 same) in
        let own : e ≡ d = cc in
        inl (λ i. named (first i) (own i))
    go false other some rest = inr (rest some)

initial_gives : (entry : Text × Option MacroDefinition) (name : Text) (d : MacroDefinition) → initial_definition entry ≡ Some (named name d) → entry ≡ (name, Some d)
initial_gives (n, None) name d is = absurd (cc)
initial_gives (n, Some e) name d is =
    let same : named n e ≡ named name d = cc in
    λ i. ((same i).name, Some ((same i).definition))

not_later : (name : Text) (o : Option MacroDefinition) (es : TableEntries) → Member (name, o) es → list_any (bytes_eq name) (names_ever_defined es) ≡ true
not_later name o es m = list_any-true (bytes_eq name) name (names_ever_defined es) (Member-map (λ (e : Text × Option MacroDefinition). e.0) (name, o) es m) ((bytes_decides name name).1 refl)

-- each name stands once
found_there : (es : TableEntries) (name : Text) (d : MacroDefinition) → are_distinct (names_ever_defined es) ≡ true → Member (name, Some d) es → lookup es name ≡ Some d
unfolding lookup are_distinct
found_there [] name d once m = absurd m
found_there (e ∷ es) name d once (inl same) =
    ap (λ b. if b then e.1 else lookup es name) ((bytes_decides name e.0).1 (sym (ap (λ (x : Text × Option MacroDefinition). x.0) same)))
    ∙ ap (λ (x : Text × Option MacroDefinition). x.1) same
found_there (e ∷ es) name d once (inr m) = go (bytes_eq name e.0) refl ∙ found_there es name d (and_parts (not (list_any (bytes_eq e.0) (names_ever_defined es))) (are_distinct (names_ever_defined es)) once).1 m
  where
    go : (b : Bool) → bytes_eq name e.0 ≡ b → (if b then e.1 else lookup es name) ≡ lookup es name
    go false is = refl
    go true is =
        let twice : list_any (bytes_eq e.0) (names_ever_defined es) ≡ true = subst (λ (n : Text). list_any (bytes_eq n) (names_ever_defined es) ≡ true) ((bytes_decides name e.0).0 is) (not_later name (Some d) es m) in
        absurd (true≢false (sym (and_parts (not (list_any (bytes_eq e.0) (names_ever_defined es))) (are_distinct (names_ever_defined es)) once).0 ∙ ap not twice))

in_option : (o : Option MacroDefinition) (d : MacroDefinition) → Contains (option_to_list o) d → o ≡ Some d
in_option None d c = absurd (Member-from_Contains d [] c)
in_option (Some e) d c = elim (Member-from_Contains d (e ∷ []) c) [ inl same ↦ ap Some same | inr never ↦ absurd never ]

table_just : (es : TableEntries) → are_distinct (names_ever_defined es) ≡ true → (sets : Defined) → ((name : Text) → kept.sets_of sets name ≡ option_to_list (lookup es name))
    → HasJust sets (filter_map initial_definition es)
table_just es once sets is name d = (
  λ c. in_sets (filter_map initial_definition es) name d
      (looked_up es name d (in_option (lookup es name) d (subst (λ (ds : List MacroDefinition). Contains ds d) (is name) c))),
  λ c.
      let by : GivenBy initial_definition es (named name d) = filter_map-Member initial_definition (named name d) es (of_sets (filter_map initial_definition es) name d c) in
      let m : Member (name, Some d) es = subst (λ (x : Text × Option MacroDefinition). Member x es) (initial_gives by.by name d by.gives) by.member in
      subst (λ (ds : List MacroDefinition). Contains ds d) (sym (is name ∙ ap option_to_list (found_there es name d once m))) (Contains-from_Member d (d ∷ []) (inl refl)),
)

initial_once : are_distinct (names_ever_defined initial_entries) ≡ true
unfolding are_distinct
initial_once = refl

pub initial_just : (sets : Defined) → ((name : Text) → kept.sets_of sets name ≡ option_to_list (lookup initial_entries name)) → HasJust sets (filter_map initial_definition initial_entries)
initial_just sets is = table_just initial_entries initial_once sets is

-- THE WORDS OF A JOB

one_given : {X Y : Type 0} (f : X → Option Y) (x : X) → filter_map f (x ∷ []) ≡ option_to_list (f x)
one_given {X = X} {Y = Y} f x = go (f x)
  where
    go : (o : Option Y) → cons_option o [] ≡ option_to_list o
    go None = refl
    go (Some y) = refl

-- a word that takes away
pub word_none : (sets : Defined) (word : MacroWord) (name : Text) → word ≡ words.Undef name → (before : List Named) → HasJust sets before → HasJust sets (before ++ option_to_list (word_definition word))
word_none sets word name is before just =
    subst (λ (w : MacroWord). HasJust sets (before ++ option_to_list (word_definition w))) (sym is) (subst (HasJust sets) (sym (append-nil before)) just)

-- a word that defines
pub word_some : (old new : Defined) (word : MacroWord) (name said : Text) (d : MacroDefinition) (b : Bool) → word ≡ words.Define name d → said ≡ name → AddsDefinition old said d b new → AreAmong (kept.sets_of old) (kept.sets_of new)
    → (before : List Named) → HasJust old before → HasJust new (before ++ option_to_list (word_definition word))
word_some old new word name said d b is same adds part before just =
    subst (λ (w : MacroWord). HasJust new (before ++ option_to_list (word_definition w))) (sym is)
    (just_more old name d b new (subst (λ (n : Text). AddsDefinition old n d b new) same adds) part before just)

-- one word more of some
pub words_more : (start : List Named) (old new : Defined) (ws : List MacroWord) (i : ℕ) (w : MacroWord) → i < length ws → w ≡ get_or ws i w → HasJust old (start ++ filter_map word_definition (take i ws))
    → ((before : List Named) → HasJust old before → HasJust new (before ++ option_to_list (word_definition w))) → HasJust new (start ++ filter_map word_definition (take (i + 1) ws))
words_more start old new ws i w below is just more =
    let next : take (i + 1) ws ≡ take i ws ++ w ∷ [] = take_more ws i w below ∙ ap (λ (x : MacroWord). take i ws ++ x ∷ []) (sym is) in
    let whole : filter_map word_definition (take (i + 1) ws) ≡ filter_map word_definition (take i ws) ++ option_to_list (word_definition w) =
    ap (filter_map word_definition) next ∙ filter_map-append word_definition (take i ws) (w ∷ []) ∙ ap (λ (l : List Named). filter_map word_definition (take i ws) ++ l) (one_given word_definition w) in
    subst (λ (l : List Named). HasJust new (start ++ l)) (sym whole)
    (subst (HasJust new) (append_assoc start (filter_map word_definition (take i ws)) (option_to_list (word_definition w))) (more (start ++ filter_map word_definition (take i ws)) just))

pub words_all : (start : List Named) (sets : Defined) (ws : List MacroWord) (i : ℕ) → length ws ≤ i → HasJust sets (start ++ filter_map word_definition (take i ws)) → HasJust sets (start ++ filter_map word_definition ws)
words_all start sets ws i past just = subst (λ (l : List MacroWord). HasJust sets (start ++ filter_map word_definition l)) (take_all i ws past) just
