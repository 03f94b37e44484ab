-- The runs as they are seen are the complete runs, and the names met in them are those that some complete run meets.
use Rattle.std.proofs.Common.{◌≡◌, ℕ, List, [], ◌∷◌, ◌++◌, map, length, refl, ap, ap₂, sym, ◌∙◌, subst, Option, Some, None, inl, inr, ◌⊎◌}
use Rattle.std.specs.Prelude.{codes}
use Rattle.std.specs.List.{flat_map, Contains}
use Rattle.std.proofs.lemmas.List.{map-append, length-map}
use Rattle.macro_defs.specs.MacroDefinition.{MacroDefinition}
use Rattle.macro_expand.specs.Asking.{Asking, give, fail, ask_definition, ask_file, ask_line}
use Rattle.macro_expand.specs.Choice.{Sets, Choice, Ending, Gave, Failed, Presumed, Run, after_choice, runs_of, complete_runs, met_names}
use Rattle.macro_expand.proofs.ChoiceLaws.{contains_map, contains_first, contains_later, contains_flat_map}
use Rattle.macro_expand.proofs.RunLaws.{contains_map_from, contains_flat_map_from}
use Rattle.symbolic_expand.specs.parts.Enumeration.{Visit, ended_so, meets, choices_of, visits_of, visits, run_at}
use Rattle.symbolic_expand.proofs.Elements.{contains_tail, contains_none}
use Rattle.symbolic_expand.proofs.EnumerationLaws.{visits_from-nil, visits_from-step}
use Rattle.symbolic_expand.proofs.SupportLaws.{names_of}

-- How runs end.

abbrev pub endings : {A : Type 0} → List (Run A) → List (Ending A)
endings rs = map (λ (r : Run _). r.ending) rs

abbrev pub visit_endings : {A : Type 0} → List (Visit A) → List (Ending A)
visit_endings vs = map (λ (v : Visit _). v.ending) vs

meeting_ends : {A : Type 0} (name : List ℕ) (vs : List (Visit A)) → visit_endings (map (meets name) vs) ≡ visit_endings vs
meeting_ends name [] = refl
meeting_ends name (v ∷ vs) = ap (λ w. v.ending ∷ w) (meeting_ends name vs)

choosing_ends : {A : Type 0} (c : Choice) (rs : List (Run A)) → endings (map (after_choice c) rs) ≡ endings rs
choosing_ends c [] = refl
choosing_ends c (r ∷ rs) = ap (λ w. r.ending ∷ w) (choosing_ends c rs)

flat_ends : {A : Type 0} (f : Choice → List (Visit A)) (g : Choice → List (Run A)) → ((c : Choice) → visit_endings (f c) ≡ endings (g c)) →
    (cs : List Choice) → visit_endings (flat_map f cs) ≡ endings (flat_map (λ c. map (after_choice c) (g c)) cs)
flat_ends f g same [] = refl
flat_ends f g same (c ∷ cs) =
    map-append (λ (v : Visit _). v.ending) (f c) (flat_map f cs)
    ∙ ap₂ (λ u v. u ++ v) (same c ∙ sym (choosing_ends c (g c))) (flat_ends f g same cs)
    ∙ sym (map-append (λ (r : Run _). r.ending) (map (after_choice c) (g c)) (flat_map (λ c. map (after_choice c) (g c)) cs))

name_ends : {A : Type 0} (f : Choice → List (Visit A)) (g : Choice → List (Run A)) → ((c : Choice) → visit_endings (f c) ≡ endings (g c)) →
    (ds : List MacroDefinition) → visit_endings (visits_of f ds) ≡ endings (runs_of g ds)
name_ends f g same [] = same None
name_ends f g same (d ∷ ds) = flat_ends f g same (choices_of (d ∷ ds))

-- they end as the complete runs do, in the same order
pub visits-ends : {A : Type 0} (sets : Sets) (file : Option (List ℕ)) (t : Asking A) →
    visit_endings (visits sets file t) ≡ endings (complete_runs sets file t)
unfolding visits complete_runs
visits-ends sets file (give x) = refl
visits-ends sets file (fail e) = refl
visits-ends sets file (ask_definition name next) =
    meeting_ends name (visits_of (λ c. visits sets file (next c)) (sets name))
    ∙ name_ends (λ c. visits sets file (next c)) (λ c. complete_runs sets file (next c)) (λ c. visits-ends sets file (next c)) (sets name)
visits-ends sets None (ask_file next) = refl
visits-ends sets (Some name) (ask_file next) =
    meeting_ends (codes "__FILE__") (visits sets (Some name) (next name)) ∙ visits-ends sets (Some name) (next name)
visits-ends sets file (ask_line line next) = refl

pub visits-count : {A : Type 0} (sets : Sets) (file : Option (List ℕ)) (t : Asking A) → length (visits sets file t) ≡ length (complete_runs sets file t)
visits-count sets file t =
    sym (length-map (visits sets file t) (λ (v : Visit _). v.ending)) ∙ ap length (visits-ends sets file t)
    ∙ length-map (complete_runs sets file t) (λ (r : Run _). r.ending)

-- a run for each way to see one, with its end, and the other way round
pub run_of_visit : {A : Type 0} (sets : Sets) (file : Option (List ℕ)) (t : Asking A) (v : Visit A) → Contains (visits sets file t) v →
    (r : Run A) × (Contains (complete_runs sets file t) r) × (r.ending ≡ v.ending)
run_of_visit sets file t v c =
    contains_map_from (λ (r : Run _). r.ending) (complete_runs sets file t) v.ending
    (subst (λ w. Contains w v.ending) (visits-ends sets file t) (contains_map (λ (v : Visit _). v.ending) (visits sets file t) v c))

pub visit_of_run : {A : Type 0} (sets : Sets) (file : Option (List ℕ)) (t : Asking A) (r : Run A) → Contains (complete_runs sets file t) r →
    (v : Visit A) × (Contains (visits sets file t) v) × (v.ending ≡ r.ending)
visit_of_run sets file t r c =
    contains_map_from (λ (v : Visit _). v.ending) (visits sets file t) r.ending
    (subst (λ w. Contains w r.ending) (sym (visits-ends sets file t)) (contains_map (λ (r : Run _). r.ending) (complete_runs sets file t) r c))

-- The names met.

-- some run meets a name
abbrev pub Meets : {A : Type 0} → List (Visit A) → List ℕ → Type 0
Meets vs n = (v : Visit _) × (Contains vs v) × (Contains v.met n)

some_visit : {A : Type 0} (sets : Sets) (file : Option (List ℕ)) (t : Asking A) → (v : Visit A) × Contains (visits sets file t) v
some_visit sets file t = (
  (run_at sets file t []).visit,
  subst (λ w. Contains w (run_at sets file t []).visit) (sym (visits_from-step sets file t []) ∙ visits_from-nil sets file t)
      (contains_first (run_at sets file t []).visit _),
)

meets_here : {A : Type 0} (name n : List ℕ) (vs : List (Visit A)) → ((v : Visit A) × Contains vs v) → n ≡ name → Meets (map (meets name) vs) n
meets_here name n vs (v, c) is =
    (meets name v, contains_map (meets name) vs v c, subst (λ m. Contains (name ∷ v.met) m) (sym is) (contains_first name v.met))

meets_more : {A : Type 0} (name n : List ℕ) (vs : List (Visit A)) → Meets vs n → Meets (map (meets name) vs) n
meets_more name n vs (v, c, m) = (meets name v, contains_map (meets name) vs v c, contains_later n name v.met m)

meets_back : {A : Type 0} (name n : List ℕ) (vs : List (Visit A)) → Meets (map (meets name) vs) n → (n ≡ name) ⊎ Meets vs n
meets_back name n vs (v, c, m) =
    let from = contains_map_from (meets name) vs v c in
    go from.0 from.1 (contains_tail n name from.0.met (subst (λ (w : Visit _). Contains w.met n) (sym from.2) m))
  where
    go : (u : Visit _) → Contains vs u → (n ≡ name) ⊎ Contains u.met n → (n ≡ name) ⊎ Meets vs n
    go u k (inl is) = inl is
    go u k (inr later) = inr (u, k, later)

meets_choice : {A : Type 0} (f : Choice → List (Visit A)) (cs : List Choice) (c : Choice) (n : List ℕ) → Contains cs c → Meets (f c) n →
    Meets (flat_map f cs) n
meets_choice f cs c n k (v, inside, m) = (v, contains_flat_map f cs c v k inside, m)

meets_some_choice : {A : Type 0} (f : Choice → List (Visit A)) (cs : List Choice) (n : List ℕ) → Meets (flat_map f cs) n →
    (c : Choice) × (Contains cs c) × Meets (f c) n
meets_some_choice f cs n (v, inside, m) = let from = contains_flat_map_from f cs v inside in (from.0, from.1, (v, from.2, m))

choice_visit : {A : Type 0} (f : Choice → List (Visit A)) (ds : List MacroDefinition) → ((v : Visit A) × Contains (f None) v) →
    (v : Visit A) × Contains (visits_of f ds) v
choice_visit f [] some = some
choice_visit f (d ∷ ds) (v, c) = (v, contains_flat_map f (choices_of (d ∷ ds)) None v (contains_first None (map Some (d ∷ ds))) c)

choice_met : {A : Type 0} (f : Choice → List (Visit A)) (names : Choice → List (List ℕ)) (ds : List MacroDefinition) (n : List ℕ) →
    ((c : Choice) → Contains (names c) n → Meets (f c) n) → Contains (names_of names ds) n → Meets (visits_of f ds) n
unfolding names_of
choice_met f names [] n each h = each None h
choice_met f names (d ∷ ds) n each h =
    let from = contains_flat_map_from names (choices_of (d ∷ ds)) n h in
    meets_choice f (choices_of (d ∷ ds)) from.0 n from.1 (each from.0 from.2)

choice_all : {A : Type 0} (f : Choice → List (Visit A)) (names : Choice → List (List ℕ)) (ds : List MacroDefinition) (n : List ℕ) →
    ((c : Choice) → Meets (f c) n → Contains (names c) n) → Meets (visits_of f ds) n → Contains (names_of names ds) n
unfolding names_of
choice_all f names [] n each h = each None h
choice_all f names (d ∷ ds) n each h =
    let from = meets_some_choice f (choices_of (d ∷ ds)) n h in
    contains_flat_map names (choices_of (d ∷ ds)) from.0 n from.1 (each from.0 from.2)

-- one name, and what is met behind it
name_met : {A : Type 0} (name n : List ℕ) (vs : List (Visit A)) (names : List (List ℕ)) → ((v : Visit A) × Contains vs v) →
    (Contains names n → Meets vs n) → Contains (name ∷ names) n → Meets (map (meets name) vs) n
name_met name n vs names some each k = go (contains_tail n name names k)
  where
    go : (n ≡ name) ⊎ Contains names n → Meets (map (meets name) vs) n
    go (inl is) = meets_here name n vs some is
    go (inr later) = meets_more name n vs (each later)

name_all : {A : Type 0} (name n : List ℕ) (vs : List (Visit A)) (names : List (List ℕ)) →
    (Meets vs n → Contains names n) → Meets (map (meets name) vs) n → Contains (name ∷ names) n
name_all name n vs names each h = go (meets_back name n vs h)
  where
    go : (n ≡ name) ⊎ Meets vs n → Contains (name ∷ names) n
    go (inl is) = subst (λ m. Contains (name ∷ names) m) (sym is) (contains_first name names)
    go (inr later) = contains_later n name names (each later)

one_met : {A : Type 0} (v : Visit A) (n : List ℕ) → Contains v.met n → Meets (v ∷ []) n
one_met v n k = (v, contains_first v [], k)

one_all : {A : Type 0} (v : Visit A) (n : List ℕ) → Meets (v ∷ []) n → Contains v.met n
one_all v n (u, c, m) = go (contains_tail u v [] c)
  where
    go : (u ≡ v) ⊎ Contains [] u → Contains v.met n
    go (inl is) = subst (λ (w : Visit _). Contains w.met n) is m
    go (inr k) = absurd (contains_none u k)

-- the names that the runs are said to meet are met
pub met_names-met : {A : Type 0} (sets : Sets) (file : Option (List ℕ)) (t : Asking A) (n : List ℕ) →
    Contains (met_names sets file t) n → Meets (visits sets file t) n
unfolding met_names visits names_of
met_names-met sets file (give x) n k = one_met (ended_so (Gave x)) n k
met_names-met sets file (fail e) n k = one_met (ended_so (Failed e)) n k
met_names-met sets file (ask_definition name next) n k =
    name_met name n (visits_of (λ c. visits sets file (next c)) (sets name)) (names_of (λ c. met_names sets file (next c)) (sets name))
    (choice_visit (λ c. visits sets file (next c)) (sets name) (some_visit sets file (next None)))
    (choice_met (λ c. visits sets file (next c)) (λ c. met_names sets file (next c)) (sets name) n (λ c h. met_names-met sets file (next c) n h)) k
met_names-met sets None (ask_file next) n k = one_met (meets (codes "__FILE__") (ended_so Presumed)) n k
met_names-met sets (Some text) (ask_file next) n k =
    name_met (codes "__FILE__") n (visits sets (Some text) (next text)) (met_names sets (Some text) (next text))
    (some_visit sets (Some text) (next text)) (λ h. met_names-met sets (Some text) (next text) n h) k
met_names-met sets file (ask_line line next) n k = one_met (meets (codes "__LINE__") (ended_so Presumed)) n k

-- and no other names are
pub met_names-all : {A : Type 0} (sets : Sets) (file : Option (List ℕ)) (t : Asking A) (n : List ℕ) →
    Meets (visits sets file t) n → Contains (met_names sets file t) n
unfolding met_names visits names_of
met_names-all sets file (give x) n h = one_all (ended_so (Gave x)) n h
met_names-all sets file (fail e) n h = one_all (ended_so (Failed e)) n h
met_names-all sets file (ask_definition name next) n h =
    name_all name n (visits_of (λ c. visits sets file (next c)) (sets name)) (names_of (λ c. met_names sets file (next c)) (sets name))
    (choice_all (λ c. visits sets file (next c)) (λ c. met_names sets file (next c)) (sets name) n (λ c k. met_names-all sets file (next c) n k)) h
met_names-all sets None (ask_file next) n h = one_all (meets (codes "__FILE__") (ended_so Presumed)) n h
met_names-all sets (Some text) (ask_file next) n h =
    name_all (codes "__FILE__") n (visits sets (Some text) (next text)) (met_names sets (Some text) (next text))
    (λ k. met_names-all sets (Some text) (next text) n k) h
met_names-all sets file (ask_line line next) n h = one_all (meets (codes "__LINE__") (ended_so Presumed)) n h
