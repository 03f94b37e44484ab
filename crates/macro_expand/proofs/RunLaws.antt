-- What a complete run is, by rules; each is the run of its own list.
use Rattle.std.proofs.Common.{◌≡◌, ℕ, zero, suc, List, [], ◌∷◌, ◌++◌, map, ap, sym, ◌∙◌, subst, Option, Some, None, arith, inl, inr, ◌⊎◌}
use Rattle.std.specs.List.{flat_map, Contains}
use Rattle.std.proofs.lemmas.List.Elements.{Contains-append_cases}
use Rattle.macro_defs.specs.MacroDefinition.{MacroDefinition}
use Rattle.macro_expand.specs.Asking.{Asking, give, fail, ask_definition, ask_file, ask_line}
use Rattle.macro_expand.specs.Choice.{Sets, Choice, Gave, Failed, Presumed, Run, after_choice, run_ended, runs_of, complete_runs, Started, run_by}
use Rattle.macro_expand.proofs.ChoiceLaws.{IsAllowed, contains_first, contains_later}

pub contains_map_from : {A B : Type 0} (f : A → B) (xs : List A) (y : B) → Contains (map f xs) y → (x : A) × (Contains xs x) × (f x ≡ y)
contains_map_from f [] y (k, below, is) = absurd (omega arith)
contains_map_from f (x ∷ xs) y (zero, below, is) = (x, contains_first x xs, is)
contains_map_from f (x ∷ xs) y (suc k, below, is) =
    let h = contains_map_from f xs y (k, omega arith, is) in (h.0, contains_later h.0 x xs h.1, h.2)

pub contains_flat_map_from : {A B : Type 0} (f : A → List B) (xs : List A) (y : B) → Contains (flat_map f xs) y →
    (x : A) × (Contains xs x) × (Contains (f x) y)
contains_flat_map_from f [] y (k, below, is) = absurd (omega arith)
contains_flat_map_from f (x ∷ xs) y h = go (Contains-append_cases (f x) (flat_map f xs) y h) (contains_flat_map_from f xs y)
  where
    go : (Contains (f x) y ⊎ Contains (flat_map f xs) y) →
        (Contains (flat_map f xs) y → (z : _) × (Contains xs z) × (Contains (f z) y)) → (z : _) × (Contains (x ∷ xs) z) × (Contains (f z) y)
    go (inl k) ih = (x, contains_first x xs, k)
    go (inr k) ih = let r = ih k in (r.0, contains_later r.0 x xs r.1, r.2)

-- a run where a name is left or replaced by one of these
abbrev pub IsRunOf : {A : Type 0} → (Choice → Run A → Type 0) → List MacroDefinition → Run A → Type 0
IsRunOf P [] r = P None r
IsRunOf {A} P (d ∷ ds) r = (c : Choice) × (s : Run A) × (IsAllowed (d ∷ ds) c) × (P c s) × (after_choice c s ≡ r)

-- a complete run of a tree
abbrev pub IsRun : {A : Type 0} → Sets → Option (List ℕ) → Asking A → Run A → Type 0
IsRun sets file (give x) r = run_ended (Gave x) ≡ r
IsRun sets file (fail e) r = run_ended (Failed e) ≡ r
IsRun sets file (ask_definition name next) r = IsRunOf (λ c s. IsRun sets file (next c) s) (sets name) r
IsRun sets file (ask_file next) r = elim file [ None ↦ run_ended Presumed ≡ r | Some name ↦ IsRun sets file (next name) r ]
IsRun sets file (ask_line line next) r = run_ended Presumed ≡ r

contains_one : {A : Type 0} (x y : A) → Contains (x ∷ []) y → x ≡ y
contains_one x y (zero, below, is) = is
contains_one x y (suc k, below, is) = absurd (omega arith)

pub choice_allowed : (ds : List MacroDefinition) (c : Choice) → Contains (None ∷ map Some ds) c → IsAllowed ds c
choice_allowed ds None h = tt
choice_allowed ds (Some d) (zero, below, is) = absurd (cc)
choice_allowed ds (Some d) (suc k, below, is) =
    let h = contains_map_from (λ (e : MacroDefinition). Some e) ds (Some d) (k, omega arith, is) in
    let e : h.0 ≡ d = (cc h.2) in subst (λ w. Contains ds w) e h.1

runs_of-is : {A : Type 0} (f : Choice → List (Run A)) (P : Choice → Run A → Type 0) (ds : List MacroDefinition) (r : Run A) →
    ((c : Choice) (s : Run A) → Contains (f c) s → P c s) → Contains (runs_of f ds) r → IsRunOf P ds r
runs_of-is f P [] r h k = h None r k
runs_of-is f P (d ∷ ds) r h k =
    let one = contains_flat_map_from (λ c. map (after_choice c) (f c)) (None ∷ map Some (d ∷ ds)) r k in
    let made = contains_map_from (after_choice one.0) (f one.0) r one.2 in
    (one.0, made.0, choice_allowed (d ∷ ds) one.0 one.1, h one.0 made.0 made.1, made.2)

-- the enumeration has only complete runs
pub complete_runs-are : {A : Type 0} (sets : Sets) (file : Option (List ℕ)) (t : Asking A) (r : Run A) →
    Contains (complete_runs sets file t) r → IsRun sets file t r
unfolding complete_runs
complete_runs-are sets file (give x) r k = contains_one _ r k
complete_runs-are sets file (fail e) r k = contains_one _ r k
complete_runs-are sets file (ask_definition name next) r k =
    runs_of-is (λ c. complete_runs sets file (next c)) (λ c s. IsRun sets file (next c) s) (sets name) r
    (λ c s h. complete_runs-are sets file (next c) s h) k
complete_runs-are sets None (ask_file next) r k = contains_one _ r k
complete_runs-are sets (Some name) (ask_file next) r k = complete_runs-are sets (Some name) (next name) r k
complete_runs-are sets file (ask_line line next) r k = contains_one _ r k

-- a complete run is the run of its own list of choices, which it uses up exactly
pub complete_run-used : {A : Type 0} (sets : Sets) (file : Option (List ℕ)) (t : Asking A) (r : Run A) (more : List Choice) →
    IsRun sets file t r → run_by sets file (r.choices ++ more) t ≡ Some (record { ending = r.ending; unused = more })
unfolding run_by
complete_run-used sets file (give x) r more h = ap (λ (s : Run _). run_by sets file (s.choices ++ more) (give x)) (sym h) ∙ ap (λ (s : Run _). Some (record { ending = s.ending; unused = more })) h
complete_run-used sets file (fail e) r more h = ap (λ (s : Run _). run_by sets file (s.choices ++ more) (fail e)) (sym h) ∙ ap (λ (s : Run _). Some (record { ending = s.ending; unused = more })) h
complete_run-used {A = A} sets file (ask_definition name next) r more h = go (sets name) h (λ c s. complete_run-used sets file (next c) s more)
  where
    go : (ds : List MacroDefinition) → IsRunOf (λ c s. IsRun sets file (next c) s) ds r →
        ((c : Choice) (s : Run A) → IsRun sets file (next c) s → run_by sets file (s.choices ++ more) (next c) ≡ Some (record { ending = s.ending; unused = more })) →
        ◌≡◌ {A = Option (Started A)} (elim ds [
          | [] ↦ run_by sets file (r.choices ++ more) (next None)
          | d ∷ ds ↦ elim (r.choices ++ more) [ [] ↦ None | c ∷ cs ↦ run_by sets file cs (next c) ]
        ])
        (Some (record { ending = r.ending; unused = more }))
    go [] h ih = ih None r h
    go (d ∷ ds) (c, s, allowed, run, is) ih =
        ap (λ (w : Run A). elim (w.choices ++ more) [ [] ↦ None | c ∷ cs ↦ run_by sets file cs (next c) ]) (sym is)
        ∙ ih c s run ∙ ap (λ (w : Run A). Some (record { ending = w.ending; unused = more })) is
complete_run-used sets None (ask_file next) r more h = ap (λ (s : Run _). run_by sets None (s.choices ++ more) (ask_file next)) (sym h) ∙ ap (λ (s : Run _). Some (record { ending = s.ending; unused = more })) h
complete_run-used sets (Some name) (ask_file next) r more h = complete_run-used sets (Some name) (next name) r more h
complete_run-used sets file (ask_line line next) r more h = ap (λ (s : Run _). run_by sets file (s.choices ++ more) (ask_line line next)) (sym h) ∙ ap (λ (s : Run _). Some (record { ending = s.ending; unused = more })) h
