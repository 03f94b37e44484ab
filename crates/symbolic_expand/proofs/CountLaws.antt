-- More definitions never make fewer complete runs.
use Rattle.std.proofs.Common.{◌≡◌, ℕ, zero, suc, ◌+◌, ◌≤◌, List, [], ◌∷◌, map, length, ◌⊎◌, inl, inr, refl, ap, sym, ◌∙◌, subst, arith, Option, Some, None}
use Rattle.std.proofs.lemmas.List.{length-append, length-map}
use Rattle.std.specs.List.{flat_map, Contains}
use Rattle.macro_defs.specs.MacroDefinition.{MacroDefinition}
use Rattle.macro_expand.specs.Asking.{Asking, give, fail, ask_definition, ask_file, ask_line}
use Rattle.macro_expand.specs.Choice.{HasNoRepeat, Sets, IsDistinct, AreAmong, Choice, Run, after_choice, runs_of, complete_runs}
use Rattle.macro_expand.proofs.ChoiceLaws.{contains_first, contains_later}

total : {A : Type 0} → (A → ℕ) → List A → ℕ
total f [] = 0
total f (x ∷ xs) = f x + total f xs

without : {A : Type 0} → ℕ → List A → List A
without k [] = []
without zero (x ∷ xs) = xs
without (suc k) (x ∷ xs) = x ∷ without k xs

-- a member and the others
total-without : {A : Type 0} (f : A → ℕ) (xs : List A) (x : A) (c : Contains xs x) → total f xs ≡ f x + total f (without c.0 xs)
unfolding total without
total-without f [] x (k, below, is) = absurd (omega arith)
total-without f (y ∷ xs) x (zero, below, is) = ap (λ w. f w + total f xs) is
total-without f (y ∷ xs) x (suc k, below, is) =
    let ih = total-without f xs x (k, omega arith, is) in
    omega (arith, ih)

contains_without : {A : Type 0} (xs : List A) (x y : A) (c : Contains xs x) → Contains xs y → (y ≡ x) ⊎ Contains (without c.0 xs) y
unfolding without
contains_without [] x y (k, below, is) h = absurd (omega arith)
contains_without (z ∷ xs) x y (zero, below, is) (zero, b, e) = inl (sym e ∙ is)
contains_without (z ∷ xs) x y (zero, below, is) (suc j, b, e) = inr (j, omega arith, e)
contains_without (z ∷ xs) x y (suc k, below, is) (zero, b, e) = inr (0, omega arith, e)
contains_without (z ∷ xs) x y (suc k, below, is) (suc j, b, e) = go (contains_without xs x y (k, omega arith, is) (j, omega arith, e))
  where
    go : (y ≡ x) ⊎ Contains (without k xs) y → (y ≡ x) ⊎ Contains (z ∷ without k xs) y
    go (inl p) = inl p
    go (inr c) = inr (contains_later y z (without k xs) c)

-- over fewer members, each once, a total is smaller
total-fewer : {A : Type 0} (f g : A → ℕ) (xs ys : List A) → ((x : A) → f x ≤ g x) → HasNoRepeat xs →
    ((x : A) → Contains xs x → Contains ys x) → total f xs ≤ total g ys
unfolding total
total-fewer f g [] ys smaller once within = omega arith
total-fewer f g (x ∷ xs) ys smaller once within =
    let c = within x (contains_first x xs) in
    let rest = total-fewer f g xs (without c.0 ys) smaller once.1 (λ y d. keep (without c.0 ys) y d (contains_without ys x y c (within y (contains_later y x xs d)))) in
    let split = total-without g ys x c in
    let here = smaller x in
    omega (arith, rest, split, here)
  where
    keep : (zs : List _) (y : _) → Contains xs y → (y ≡ x) ⊎ Contains zs y → Contains zs y
    keep zs y d (inl e) = absurd (once.0 (subst (Contains xs) e d))
    keep zs y d (inr k) = k

length-flat : {A B : Type 0} (f : A → List B) (xs : List A) → length (flat_map f xs) ≡ total (λ x. length (f x)) xs
unfolding total
length-flat f [] = refl
length-flat f (x ∷ xs) = length-append (f x) (flat_map f xs) ∙ ap (λ n. length (f x) + n) (length-flat f xs)

-- how many runs go through one name
runs_through : (Choice → ℕ) → List MacroDefinition → ℕ
runs_through n [] = n None
runs_through n (d ∷ ds) = n None + total (λ e. n (Some e)) (d ∷ ds)

total-map : {A B : Type 0} (f : B → ℕ) (g : A → B) (xs : List A) → total f (map g xs) ≡ total (λ x. f (g x)) xs
unfolding total
total-map f g [] = refl
total-map f g (x ∷ xs) = ap (λ n. f (g x) + n) (total-map f g xs)

total-same : {A : Type 0} (f g : A → ℕ) (xs : List A) → ((x : A) → f x ≡ g x) → total f xs ≡ total g xs
unfolding total
total-same f g [] e = refl
total-same f g (x ∷ xs) e = let h = e x in let t = total-same f g xs e in omega (arith, h, t)

length-runs_of : {A : Type 0} (next : Choice → List (Run A)) (ds : List MacroDefinition) → length (runs_of next ds) ≡ runs_through (λ c. length (next c)) ds
unfolding runs_through total
length-runs_of next [] = refl
length-runs_of next (d ∷ ds) =
    length-flat (λ c. map (after_choice c) (next c)) (None ∷ map Some (d ∷ ds))
    ∙ total-same (λ c. length (map (after_choice c) (next c))) (λ c. length (next c)) (None ∷ map Some (d ∷ ds)) (λ c. length-map (next c) (after_choice c))
    ∙ ap (λ n. length (next None) + n) (total-map (λ c. length (next c)) Some (d ∷ ds))

runs_through-more : (f g : Choice → ℕ) (ds es : List MacroDefinition) → ((c : Choice) → f c ≤ g c) → HasNoRepeat ds →
    ((d : MacroDefinition) → Contains ds d → Contains es d) → runs_through f ds ≤ runs_through g es
unfolding runs_through
runs_through-more f g [] [] smaller once within = smaller None
runs_through-more f g [] (e ∷ es) smaller once within = let h = smaller None in omega (arith, h)
runs_through-more f g (d ∷ ds) [] smaller once within = let c = within d (contains_first d ds) in absurd (omega (arith, c.1))
runs_through-more f g (d ∷ ds) (e ∷ es) smaller once within =
    let h = smaller None in
    let t = total-fewer (λ x. f (Some x)) (λ x. g (Some x)) (d ∷ ds) (e ∷ es) (λ x. smaller (Some x)) once within in
    omega (arith, h, t)

-- larger sets, without repeats, have at least as many complete runs
pub complete_runs-more : {A : Type 0} (sets other : Sets) → IsDistinct sets → AreAmong sets other →
    (file : Option (List ℕ)) (t : Asking A) → length (complete_runs sets file t) ≤ length (complete_runs other file t)
unfolding complete_runs
complete_runs-more sets other once within file (give x) = omega arith
complete_runs-more sets other once within file (fail e) = omega arith
complete_runs-more sets other once within file (ask_definition name next) =
    let a = length-runs_of (λ c. complete_runs sets file (next c)) (sets name) in
    let b = length-runs_of (λ c. complete_runs other file (next c)) (other name) in
    let m = runs_through-more (λ c. length (complete_runs sets file (next c))) (λ c. length (complete_runs other file (next c))) (sets name) (other name)
    (λ c. complete_runs-more sets other once within file (next c)) (once name) (within name) in
    omega (arith, a, b, m)
complete_runs-more sets other once within None (ask_file next) = omega arith
complete_runs-more sets other once within (Some name) (ask_file next) = complete_runs-more sets other once within (Some name) (next name)
complete_runs-more sets other once within file (ask_line line next) = omega arith
