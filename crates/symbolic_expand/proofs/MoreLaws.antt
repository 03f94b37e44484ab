-- More definitions never take the end of a run away.
use Rattle.std.proofs.Common.{◌≡◌, ℕ, zero, suc, List, [], ◌∷◌, map, refl, ap, subst, ◌∙◌, Option, Some, None, arith}
use Rattle.std.specs.List.{Contains}
use Rattle.macro_defs.specs.MacroDefinition.{MacroDefinition}
use Rattle.macro_expand.specs.Asking.{Asking, give, fail, ask_definition, ask_file, ask_line}
use Rattle.macro_expand.specs.Choice.{Sets, AreAmong, Choice, Run, after_choice, runs_of, complete_runs}
use Rattle.macro_expand.proofs.ChoiceLaws.{contains_map, contains_first, contains_later, contains_flat_map}
use Rattle.macro_expand.proofs.RunLaws.{contains_map_from, contains_flat_map_from}
use Rattle.symbolic_expand.specs.parts.Enumeration.{choices_of}
use Rattle.symbolic_expand.proofs.Elements.{contains_none}

-- a choice that these definitions allow
abbrev pub IsAllowed : List MacroDefinition → Choice → Type 0
IsAllowed ds None = Unit {0}
IsAllowed ds (Some d) = Contains ds d

pub allowed_choice : (ds : List MacroDefinition) (c : Choice) → IsAllowed ds c → Contains (choices_of ds) c
allowed_choice ds None h = contains_first None (map Some ds)
allowed_choice ds (Some e) h = contains_later (Some e) None (map Some ds) (contains_map Some ds e h)

pub choice_allowed : (ds : List MacroDefinition) (c : Choice) → Contains (choices_of ds) c → IsAllowed ds c
choice_allowed ds None h = tt
choice_allowed ds (Some d) (zero, below, is) = absurd (cc)
choice_allowed ds (Some d) (suc k, below, is) =
    let h = contains_map_from (λ (e : MacroDefinition). Some e) ds (Some d) (k, omega arith, is) in
    let e : h.0 ≡ d = (cc h.2) in subst (λ w. Contains ds w) e h.1

pub wider_choice : (ds es : List MacroDefinition) (c : Choice) → ((d : MacroDefinition) → Contains ds d → Contains es d) → IsAllowed ds c → IsAllowed es c
wider_choice ds es None w a = tt
wider_choice ds es (Some d) w a = w d a

-- a run behind a choice that is allowed
run_behind : {A : Type 0} (g : Choice → List (Run A)) (es : List MacroDefinition) (c : Choice) (s : Run A) → IsAllowed es c → Contains (g c) s →
    (q : Run A) × (Contains (runs_of g es) q) × (q.ending ≡ s.ending)
run_behind g [] None s a k = (s, k, refl)
run_behind g [] (Some d) s a k = absurd (contains_none d a)
run_behind g (e ∷ es) c s a k = (
  after_choice c s,
  contains_flat_map (λ c. map (after_choice c) (g c)) (choices_of (e ∷ es)) c (after_choice c s) (allowed_choice (e ∷ es) c a)
      (contains_map (after_choice c) (g c) s k),
  refl,
)

-- a choice that is allowed, and a run behind it
more_choice : {A : Type 0} (f g : Choice → List (Run A)) (es : List MacroDefinition) (r : Run A) (c : Choice) (s : Run A) →
    ((c : Choice) (s : Run A) → Contains (f c) s → (q : Run A) × (Contains (g c) q) × (q.ending ≡ s.ending)) →
    IsAllowed es c → Contains (f c) s → s.ending ≡ r.ending → (q : Run A) × (Contains (runs_of g es) q) × (q.ending ≡ r.ending)
more_choice f g es r c s each a k is =
    let q = each c s k in
    let p = run_behind g es c q.0 a q.1 in (p.0, p.1, p.2 ∙ q.2 ∙ is)

more_behind : {A : Type 0} (f g : Choice → List (Run A)) (ds es : List MacroDefinition) (r : Run A) →
    ((d : MacroDefinition) → Contains ds d → Contains es d) →
    ((c : Choice) (s : Run A) → Contains (f c) s → (q : Run A) × (Contains (g c) q) × (q.ending ≡ s.ending)) →
    Contains (runs_of f ds) r → (q : Run A) × (Contains (runs_of g es) q) × (q.ending ≡ r.ending)
more_behind f g [] es r w each k = more_choice f g es r None r each tt k refl
more_behind f g (d ∷ ds) es r w each k =
    let one = contains_flat_map_from (λ c. map (after_choice c) (f c)) (choices_of (d ∷ ds)) r k in
    let made = contains_map_from (after_choice one.0) (f one.0) r one.2 in
    more_choice f g es r one.0 made.0 each (wider_choice (d ∷ ds) es one.0 w (choice_allowed (d ∷ ds) one.0 one.1)) made.1
    (ap (λ (u : Run _). u.ending) made.2)

pub more_runs : {A : Type 0} (sets other : Sets) (file : Option (List ℕ)) (t : Asking A) (r : Run A) → AreAmong sets other →
    Contains (complete_runs sets file t) r → (s : Run A) × (Contains (complete_runs other file t) s) × (s.ending ≡ r.ending)
unfolding complete_runs
more_runs sets other file (give x) r part k = (r, k, refl)
more_runs sets other file (fail e) r part k = (r, k, refl)
more_runs sets other file (ask_definition name next) r part k =
    more_behind (λ c. complete_runs sets file (next c)) (λ c. complete_runs other file (next c)) (sets name) (other name) r (part name)
    (λ c s h. more_runs sets other file (next c) s part h) k
more_runs sets other None (ask_file next) r part k = (r, k, refl)
more_runs sets other (Some name) (ask_file next) r part k = more_runs sets other (Some name) (next name) r part k
more_runs sets other file (ask_line line next) r part k = (r, k, refl)
