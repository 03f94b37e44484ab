-- All complete runs, one after the other, by lists of numbers: 0 leaves a name, k takes its definition number k.
use Rattle.std.proofs.Common.{◌≡◌, ℕ, zero, suc, ◌<◌, ◌≤◌, Bool, true, false, List, [], ◌∷◌, ◌++◌, map, length, drop, refl, ap, sym, ◌∙◌, Option, Some, None, arith, nat_lt, drop_of_length-le}
use Rattle.std.specs.Prelude.{codes, flat_map}
use borrow.Author.Tests.{ltb-true}
use Rattle.std.proofs.lemmas.Bool.{ltb-false}
use Rattle.std.proofs.lemmas.List.{length-map}
use Rattle.macro_defs.specs.MacroDefinition.{MacroDefinition}
use Rattle.macro_expand.specs.Asking.{Asking, give, fail, ask_definition, ask_file, ask_line}
use Rattle.macro_expand.specs.Choice.{Sets, Choice}
use Rattle.symbolic_expand.specs.parts.Enumeration.{Visit, meets, choices_of, choice_at, visits_of, visits, Numbered, raised_number, next_numbers, At, run_at, From, visits_from, results_of}

from_nil : {A : Type 0} (f : Choice → List ℕ → List (Visit A)) (all : Choice → List (Visit A)) (ds : List MacroDefinition) →
    ((c : Choice) → f c [] ≡ all c) → From f all ds [] ≡ visits_of all ds
from_nil f all [] ih = ih None
from_nil f all (d ∷ ds) ih = refl

-- from the empty list on they are all
pub visits_from-nil : {A : Type 0} (sets : Sets) (file : Option (List ℕ)) (t : Asking A) → visits_from sets file t [] ≡ visits sets file t
unfolding visits_from visits
visits_from-nil sets file (give x) = refl
visits_from-nil sets file (fail e) = refl
visits_from-nil sets file (ask_definition name next) =
    ap (map (meets name))
    (from_nil (λ c q. visits_from sets file (next c) q) (λ c. visits sets file (next c)) (sets name) (λ c. visits_from-nil sets file (next c)))
visits_from-nil sets None (ask_file next) = refl
visits_from-nil sets (Some name) (ask_file next) = ap (map (meets (codes "__FILE__"))) (visits_from-nil sets (Some name) (next name))
visits_from-nil sets file (ask_line line next) = refl

drop_choice : (k : ℕ) (cs : List Choice) → k < length cs → drop k cs ≡ choice_at cs k ∷ drop (suc k) cs
drop_choice k [] h = absurd (omega arith)
drop_choice zero (c ∷ cs) h = refl
drop_choice (suc k) (c ∷ cs) h = drop_choice k cs (omega arith)

-- a first run and those of the next list, where each meets one name more
map_rest : {X Y : Type 0} (g : X → Y) (x : X) (f : List ℕ → List X) (o : Option (List ℕ)) →
    map g (x ∷ results_of f o) ≡ g x ∷ results_of (λ q. map g (f q)) o
map_rest g x f None = refl
map_rest g x f (Some q) = refl

-- One name, over what follows each choice: the runs from a list on, the run of a list, all runs.
module _ {A : Type 0} (f : Choice → List ℕ → List (Visit A)) (r : Choice → List ℕ → Numbered A) (all : Choice → List (Visit A)) where
  module _ (start : (c : Choice) → f c [] ≡ all c)
      (step : (c : Choice) (ks : List ℕ) → f c ks ≡ (r c ks).visit ∷ results_of (f c) (next_numbers (r c ks).numbers)) where
    -- the runs after the last of one choice
    others : (d : MacroDefinition) (ds : List MacroDefinition) (k : ℕ) (b : Bool) → nat_lt (suc k) (suc (suc (length ds))) ≡ b →
        flat_map all (drop (suc k) (choices_of (d ∷ ds)))
        ≡ results_of (From f all (d ∷ ds)) (elim b [ true ↦ Some (suc k ∷ []) | false ↦ None ])
    others d ds k true e =
        let below : suc k < suc (suc (length ds)) = ltb-true _ _ e in
        let inside : suc k < length (choices_of (d ∷ ds)) = omega (arith, length-map ds (λ (x : MacroDefinition). Some x)) in
        ap (flat_map all) (drop_choice (suc k) (choices_of (d ∷ ds)) inside)
        ∙ ap (λ w. w ++ flat_map all (drop (suc (suc k)) (choices_of (d ∷ ds))))
        (sym (start (choice_at (choices_of (d ∷ ds)) (suc k))))
    others d ds k false e =
        let past : suc (suc (length ds)) ≤ suc k = ltb-false _ _ e in
        let outside : length (choices_of (d ∷ ds)) ≤ suc k = omega (arith, length-map ds (λ (x : MacroDefinition). Some x)) in
        ap (flat_map all) (drop_of_length-le (choices_of (d ∷ ds)) outside)

    one_choice : (d : MacroDefinition) (ds : List MacroDefinition) (k : ℕ) (x : Visit A) (o : Option (List ℕ)) →
        (x ∷ results_of (f (choice_at (choices_of (d ∷ ds)) k)) o)
        ++ flat_map all (drop (suc k) (choices_of (d ∷ ds)))
        ≡ x ∷ results_of (From f all (d ∷ ds)) (raised_number k (suc (suc (length ds))) o)
    one_choice d ds k x (Some q) = refl
    one_choice d ds k x None =
        ap (λ w. x ∷ w) (others d ds k (nat_lt (suc k) (suc (suc (length ds)))) refl)

    at_name : (ds : List MacroDefinition) (ks : List ℕ) → From f all ds ks ≡ (At r ds ks).visit ∷ results_of (From f all ds) (next_numbers (At r ds ks).numbers)
    unfolding next_numbers
    at_name [] ks = step None ks
    at_name (d ∷ ds) (k ∷ q) =
        ap (λ w. w ++ flat_map all (drop (suc k) (choices_of (d ∷ ds))))
        (step (choice_at (choices_of (d ∷ ds)) k) q)
        ∙ one_choice d ds k (r (choice_at (choices_of (d ∷ ds)) k) q).visit (next_numbers (r (choice_at (choices_of (d ∷ ds)) k) q).numbers)
    at_name (d ∷ ds) [] =
        ap (λ w. w ++ flat_map all (map Some (d ∷ ds))) (sym (start None) ∙ step None [])
        ∙ one_choice d ds 0 (r None []).visit (next_numbers (r None []).numbers)

-- The runs from a list on are its own run and the runs from the next list on.
pub visits_from-step : {A : Type 0} (sets : Sets) (file : Option (List ℕ)) (t : Asking A) (ks : List ℕ) →
    visits_from sets file t ks
    ≡ (run_at sets file t ks).visit ∷ results_of (visits_from sets file t) (next_numbers (run_at sets file t ks).numbers)
unfolding visits_from run_at next_numbers
visits_from-step sets file (give x) ks = refl
visits_from-step sets file (fail e) ks = refl
visits_from-step {A = A} sets file (ask_definition name next) ks =
    ap (map (meets name))
    (at_name (λ c q. visits_from sets file (next c) q) (λ c q. run_at sets file (next c) q) (λ c. visits sets file (next c))
    (λ c. visits_from-nil sets file (next c)) (λ c q. visits_from-step sets file (next c) q) (sets name) ks)
    ∙ map_rest (meets name) (At (λ c q. run_at sets file (next c) q) (sets name) ks).visit
    (From (λ c q. visits_from sets file (next c) q) (λ c. visits sets file (next c)) (sets name))
    (next_numbers (At (λ c q. run_at sets file (next c) q) (sets name) ks).numbers)
visits_from-step sets None (ask_file next) ks = refl
visits_from-step sets (Some name) (ask_file next) ks =
    ap (map (meets (codes "__FILE__"))) (visits_from-step sets (Some name) (next name) ks)
    ∙ map_rest (meets (codes "__FILE__")) (run_at sets (Some name) (next name) ks).visit (visits_from sets (Some name) (next name))
    (next_numbers (run_at sets (Some name) (next name) ks).numbers)
visits_from-step sets file (ask_line line next) ks = refl
