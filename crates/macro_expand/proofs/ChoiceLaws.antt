-- The choice fact: an expansion under a table that lies within sets is one of the runs under these sets.
use Rattle.std.proofs.Common.{◌≡◌, ℕ, zero, suc, List, [], ◌∷◌, map, refl, ap, sym, subst, Result, Err, Option, Some, None, arith, inl, inr, ◌⊎◌}
use Rattle.std.specs.List.{flat_map, Contains}
use Rattle.std.proofs.lemmas.List.Elements.{Contains-append_left, Contains-append_right}
use Rattle.macro_defs.specs.MacroDefinition.{MacroDefinition}
use Rattle.macro_expand.specs.Asking.{Failure, Work, Asking, give, fail, ask_definition, ask_file, ask_line}
use Rattle.macro_expand.specs.Expansion.{Table, Place, by_table}
use Rattle.macro_expand.specs.Choice.{Sets, Choice, Ending, Run, after_choice, runs_of, complete_runs, taken_before, choices_taken, with_taken, taken_run, IsWithin}
use Rattle.macro_expand.specs.Laws.{IsCutOff, SameEnd, Knows}
use Rattle.macro_expand.proofs.UnitsLaws.{Alike, both_give, both_fail, left_out, right_out, both_ask_definition, both_ask_file, both_ask_line}

-- Elements.

pub contains_first : {A : Type 0} (x : A) (xs : List A) → Contains (x ∷ xs) x
contains_first x xs = (0, omega arith, refl)

pub contains_later : {A : Type 0} (x y : A) (xs : List A) → Contains xs x → Contains (y ∷ xs) x
contains_later x y xs (k, below, is) = (suc k, omega arith, is)

pub contains_map : {A B : Type 0} (f : A → B) (xs : List A) (x : A) → Contains xs x → Contains (map f xs) (f x)
contains_map f [] x (k, below, is) = absurd (omega arith)
contains_map f (y ∷ ys) x (zero, below, is) = (0, omega arith, ap f is)
contains_map f (y ∷ ys) x (suc k, below, is) = contains_later (f x) (f y) (map f ys) (contains_map f ys x (k, omega arith, is))

pub contains_flat_map : {A B : Type 0} (f : A → List B) (xs : List A) (x : A) (y : B) → Contains xs x → Contains (f x) y →
    Contains (flat_map f xs) y
contains_flat_map f [] x y (k, below, is) c = absurd (omega arith)
contains_flat_map f (z ∷ zs) x y (zero, below, is) c =
    Contains-append_left (f z) (flat_map f zs) y (subst (λ w. Contains (f w) y) (sym is) c)
contains_flat_map f (z ∷ zs) x y (suc k, below, is) c =
    Contains-append_right (f z) (flat_map f zs) y (contains_flat_map f zs x y (k, omega arith, is) c)

-- a choice that these definitions allow
abbrev pub IsAllowed : List MacroDefinition → Choice → Type 0
IsAllowed ds None = Unit {0}
IsAllowed ds (Some d) = Contains ds d

pub allowed_choice : (d : MacroDefinition) (ds : List MacroDefinition) (c : Choice) → IsAllowed (d ∷ ds) c → Contains (None ∷ map Some (d ∷ ds)) c
allowed_choice d ds None h = contains_first None (map Some (d ∷ ds))
allowed_choice d ds (Some e) h = contains_later (Some e) None (map Some (d ∷ ds)) (contains_map Some (d ∷ ds) e h)

runs_of-taken : {A : Type 0} (next : Choice → List (Run A)) (ds : List MacroDefinition) (c : Choice) (r : Run A) →
    IsAllowed ds c → Contains (next c) r → Contains (runs_of next ds) (with_taken ds c r)
runs_of-taken next [] None r h k = k
runs_of-taken next [] (Some d) (r) (i, below, is) k = absurd (omega arith)
runs_of-taken next (d ∷ ds) c r h k =
    contains_flat_map (λ c. map (after_choice c) (next c)) (None ∷ map Some (d ∷ ds)) c (after_choice c r) (allowed_choice d ds c h)
    (contains_map (after_choice c) (next c) r k)

table_allowed : (ds : List MacroDefinition) (c : Choice) → ((d : MacroDefinition) → c ≡ Some d → Contains ds d) → IsAllowed ds c
table_allowed ds None h = tt
table_allowed ds (Some d) h = h d refl

-- The run along a table's answers is a complete run: its choices are used up exactly.
pub taken_run-complete : {A : Type 0} (sets : Sets) (file : Option (List ℕ)) (table : Table) → IsWithin table sets → (t : Asking A) →
    Contains (complete_runs sets file t) (taken_run sets file table t)
unfolding complete_runs taken_run
taken_run-complete sets file table within (give x) = contains_first _ []
taken_run-complete sets file table within (fail e) = contains_first _ []
taken_run-complete sets file table within (ask_definition name next) =
    runs_of-taken (λ c. complete_runs sets file (next c)) (sets name) (table name) (taken_run sets file table (next (table name)))
    (table_allowed (sets name) (table name) (within name)) (taken_run-complete sets file table within (next (table name)))
taken_run-complete sets None table within (ask_file next) = contains_first _ []
taken_run-complete sets (Some name) table within (ask_file next) = taken_run-complete sets (Some name) table within (next name)
taken_run-complete sets file table within (ask_line line next) = contains_first _ []

-- Alike trees under a table: the left one is out of work, or the run along the table's answers is cut off, or both end alike
-- and the answers are the same.
abbrev pub Outcome : {A B : Type 0} → (A → B → Type 0) → Result A Failure → Ending B → List Choice → List Choice → Type 0
Outcome R x y cs ds = (x ≡ Err Work) ⊎ (IsCutOff y ⊎ (SameEnd R x y × (cs ≡ ds)))

outcome_after : {A B : Type 0} (R : A → B → Type 0) (ds : List MacroDefinition) (c : Choice) (x : Result A Failure) (r : Run B) (cs : List Choice) →
    Outcome R x r.ending cs r.choices → Outcome R x (with_taken ds c r).ending (taken_before ds c cs) (with_taken ds c r).choices
outcome_after R [] c x r cs h = h
outcome_after R (d ∷ ds) c x r cs (inl e) = inl e
outcome_after R (d ∷ ds) c x r cs (inr (inl e)) = inr (inl e)
outcome_after R (d ∷ ds) c x r cs (inr (inr (same, e))) = inr (inr (same, ap (λ w. c ∷ w) e))

pub taken_run-outcome : {A B : Type 0} (R : A → B → Type 0) (sets : Sets) (file : Option (List ℕ)) (table : Table) (here : Place) → Knows file here →
    (t : Asking A) (u : Asking B) → Alike R t u →
    Outcome R (by_table table here t) (taken_run sets file table u).ending (choices_taken sets table here t) (taken_run sets file table u).choices
unfolding by_table taken_run choices_taken
taken_run-outcome R sets file table here knows _ _ (both_give r) = inr (inr (r, refl))
taken_run-outcome R sets file table here knows _ _ (both_fail e) = inr (inr (refl, refl))
taken_run-outcome R sets file table here knows _ _ (left_out u) = inl refl
taken_run-outcome R sets file table here knows _ _ (right_out t) = inr (inl refl)
taken_run-outcome R sets file table here knows _ _ (both_ask_definition name f g k) =
    outcome_after R (sets name) (table name) (by_table table here (f (table name))) (taken_run sets file table (g (table name)))
    (choices_taken sets table here (f (table name)))
    (taken_run-outcome R sets file table here knows (f (table name)) (g (table name)) (k (table name)))
taken_run-outcome R sets None table here knows _ _ (both_ask_file f g k) = inr (inl tt)
taken_run-outcome R sets (Some name) table here knows _ _ (both_ask_file f g k) =
    subst (λ w. Outcome R (by_table table here (f w)) (taken_run sets (Some name) table (g name)).ending
    (choices_taken sets table here (f w)) (taken_run sets (Some name) table (g name)).choices) knows
    (taken_run-outcome R sets (Some name) table here knows (f name) (g name) (k name))
taken_run-outcome R sets file table here knows _ _ (both_ask_line line f g k) = inr (inl tt)
