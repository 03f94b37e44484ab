-- The answer on computed tokens rests only on the definitions of the names that its complete runs meet.
use Rattle.std.proofs.Common.{◌≡◌, ℕ, zero, suc, List, [], ◌∷◌, ◌++◌, map, refl, ap, ap₂, ◌∙◌, Option, Some, None, arith}
use Rattle.std.specs.Prelude.{codes}
use Rattle.std.specs.List.{flat_map, Contains}
use Rattle.macro_defs.specs.MacroDefinition.{MacroDefinition}
use Rattle.macro_expand.specs.Asking.{Asking, give, fail, ask_definition, ask_file, ask_line}
use Rattle.macro_expand.specs.Choice.{Sets, AreAmong, Choice, Run, after_choice, runs_of, complete_runs, met_names}
use Rattle.macro_expand.proofs.ChoiceLaws.{contains_first, contains_later, contains_flat_map}
use Rattle.macro_expand.proofs.RunLaws.{contains_flat_map_from}
use Rattle.symbolic_expand.proofs.MoreLaws.{IsAllowed, allowed_choice, choice_allowed}

-- two functions that agree on the elements of a list map it flat to the same
flat_map-agree : {A B : Type 0} (f g : A → List B) (xs : List A) → ((x : A) → Contains xs x → f x ≡ g x) → flat_map f xs ≡ flat_map g xs
flat_map-agree f g [] h = refl
flat_map-agree f g (x ∷ xs) h =
    ap₂ (λ u v. u ++ v) (h x (contains_first x xs)) (flat_map-agree f g xs (λ y c. h y (contains_later y x xs c)))

-- the names met where a name is left or replaced by one of these
unfoldable pub names_of : (Choice → List (List ℕ)) → List MacroDefinition → List (List ℕ)
names_of next [] = next None
names_of next (d ∷ ds) = flat_map next (None ∷ map Some (d ∷ ds))

runs_of-agree : {A : Type 0} (ds : List MacroDefinition) (f g : Choice → List (Run A)) (names : Choice → List (List ℕ)) →
    ((c : Choice) → ((n : List ℕ) → Contains (names c) n → Contains (names_of names ds) n) → f c ≡ g c) →
    runs_of f ds ≡ runs_of g ds
unfolding names_of
runs_of-agree [] f g names h = h None (λ n c. c)
runs_of-agree (d ∷ ds) f g names h =
    flat_map-agree (λ c. map (after_choice c) (f c)) (λ c. map (after_choice c) (g c)) (None ∷ map Some (d ∷ ds))
    (λ c in_list. ap (map (after_choice c)) (h c (λ n k. contains_flat_map names (None ∷ map Some (d ∷ ds)) c n in_list k)))

-- sets that agree on the names met give the same runs
pub complete_runs-support : {A : Type 0} (sets other : Sets) (file : Option (List ℕ)) (t : Asking A) →
    ((n : List ℕ) → Contains (met_names sets file t) n → sets n ≡ other n) →
    complete_runs sets file t ≡ complete_runs other file t
unfolding complete_runs met_names names_of
complete_runs-support sets other file (give x) h = refl
complete_runs-support sets other file (fail e) h = refl
complete_runs-support sets other file (ask_definition name next) h =
    runs_of-agree (sets name) (λ c. complete_runs sets file (next c)) (λ c. complete_runs other file (next c))
    (λ c. met_names sets file (next c))
    (λ c inside. complete_runs-support sets other file (next c) (λ n k. h n (contains_later n name _ (inside n k))))
    ∙ ap (runs_of (λ c. complete_runs other file (next c))) (h name (contains_first name _))
complete_runs-support sets other None (ask_file next) h = refl
complete_runs-support sets other (Some text) (ask_file next) h =
    complete_runs-support sets other (Some text) (next text) (λ n k. h n (contains_later n _ _ k))
complete_runs-support sets other file (ask_line line next) h = refl

names_of-agree : (ds : List MacroDefinition) (f g : Choice → List (List ℕ)) →
    ((c : Choice) → ((n : List ℕ) → Contains (f c) n → Contains (names_of f ds) n) → f c ≡ g c) → names_of f ds ≡ names_of g ds
unfolding names_of
names_of-agree [] f g h = h None (λ n c. c)
names_of-agree (d ∷ ds) f g h =
    flat_map-agree f g (None ∷ map Some (d ∷ ds)) (λ c in_list. h c (λ n k. contains_flat_map f (None ∷ map Some (d ∷ ds)) c n in_list k))

-- and they meet the same names
pub met_names-support : {A : Type 0} (sets other : Sets) (file : Option (List ℕ)) (t : Asking A) →
    ((n : List ℕ) → Contains (met_names sets file t) n → sets n ≡ other n) →
    met_names sets file t ≡ met_names other file t
unfolding met_names names_of
met_names-support sets other file (give x) h = refl
met_names-support sets other file (fail e) h = refl
met_names-support sets other file (ask_definition name next) h =
    ap (λ ns. name ∷ ns)
    (names_of-agree (sets name) (λ c. met_names sets file (next c)) (λ c. met_names other file (next c))
    (λ c inside. met_names-support sets other file (next c) (λ n k. h n (contains_later n name _ (inside n k))))
    ∙ ap (names_of (λ c. met_names other file (next c))) (h name (contains_first name _)))
met_names-support sets other None (ask_file next) h = refl
met_names-support sets other (Some text) (ask_file next) h =
    ap (λ ns. codes "__FILE__" ∷ ns) (met_names-support sets other (Some text) (next text) (λ n k. h n (contains_later n _ _ k)))
met_names-support sets other file (ask_line line next) h = refl

wider : (ds : List MacroDefinition) (e : MacroDefinition) (es : List MacroDefinition) (c : Choice) →
    ((d : MacroDefinition) → Contains ds d → Contains (e ∷ es) d) → IsAllowed ds c → Contains (None ∷ map Some (e ∷ es)) c
wider ds e es None w a = allowed_choice (e ∷ es) None tt
wider ds e es (Some d) w a = allowed_choice (e ∷ es) (Some d) (w d a)

names_of-more : (ds es : List MacroDefinition) (f g : Choice → List (List ℕ)) (n : List ℕ) →
    ((d : MacroDefinition) → Contains ds d → Contains es d) → ((c : Choice) → Contains (f c) n → Contains (g c) n) →
    Contains (names_of f ds) n → Contains (names_of g es) n
unfolding names_of
names_of-more [] [] f g n w h k = h None k
names_of-more [] (e ∷ es) f g n w h k =
    contains_flat_map g (None ∷ map Some (e ∷ es)) None n (contains_first None (map Some (e ∷ es))) (h None k)
names_of-more (d ∷ ds) [] f g n w h k = let c = w d (contains_first d ds) in absurd (omega (arith, c.1))
names_of-more (d ∷ ds) (e ∷ es) f g n w h k =
    let one = contains_flat_map_from f (None ∷ map Some (d ∷ ds)) n k in
    contains_flat_map g (None ∷ map Some (e ∷ es)) one.0 n
    (wider (d ∷ ds) e es one.0 w (choice_allowed (d ∷ ds) one.0 one.1)) (h one.0 one.2)

-- a list with one name more in front
in_front : (x : List ℕ) (xs ys : List (List ℕ)) (n : List ℕ) → (Contains xs n → Contains ys n) → Contains (x ∷ xs) n → Contains (x ∷ ys) n
in_front x xs ys n h (zero, below, is) = (0, omega arith, is)
in_front x xs ys n h (suc k, below, is) = contains_later n x ys (h (k, omega arith, is))

-- more definitions never take a met name away
pub met_names-more : {A : Type 0} (sets other : Sets) (file : Option (List ℕ)) (t : Asking A) (n : List ℕ) → AreAmong sets other →
    Contains (met_names sets file t) n → Contains (met_names other file t) n
unfolding met_names names_of
met_names-more sets other file (give x) n part k = k
met_names-more sets other file (fail e) n part k = k
met_names-more sets other file (ask_definition name next) n part k =
    in_front name (names_of (λ c. met_names sets file (next c)) (sets name)) (names_of (λ c. met_names other file (next c)) (other name)) n
    (names_of-more (sets name) (other name) (λ c. met_names sets file (next c)) (λ c. met_names other file (next c)) n (part name)
    (λ c h. met_names-more sets other file (next c) n part h)) k
met_names-more sets other None (ask_file next) n part k = k
met_names-more sets other (Some text) (ask_file next) n part k =
    in_front _ (met_names sets (Some text) (next text)) (met_names other (Some text) (next text)) n
    (met_names-more sets other (Some text) (next text) n part) k
met_names-more sets other file (ask_line line next) n part k = k
