-- All complete runs, one after the other, by lists of numbers: 0 leaves a name, k takes its definition number k.
use Rattle.std.specs.Prelude.{ℕ, zero, suc, true, false, List, [], ◌∷◌, ◌++◌, map, length, drop, Option, Some, None, nat_lt, flat_map, codes}
use Rattle.macro_defs.specs.MacroDefinition.{MacroDefinition}
use Rattle.macro_expand.specs.Asking.{Asking, give, fail, ask_definition, ask_file, ask_line}
use Rattle.macro_expand.specs.Choice.{Sets, Choice, Ending, Gave, Failed, Presumed}

-- A complete run as it is seen: how it ends, and the names that it meets, in order.
pub record Visit (A : Type 0) : Type 0 where
  pub ending : Ending A
  pub met : List (List ℕ)

abbrev pub ended_so : {A : Type 0} → Ending A → Visit A
ended_so e = record { ending = e; met = [] }

abbrev pub meets : {A : Type 0} → List ℕ → Visit A → Visit A
meets name v = record { ending = v.ending; met = name ∷ v.met }

-- the choices for a name with these definitions, in order
abbrev pub choices_of : List MacroDefinition → List Choice
choices_of ds = None ∷ map Some ds

abbrev pub choice_at : List Choice → ℕ → Choice
choice_at [] k = None
choice_at (c ∷ cs) zero = c
choice_at (c ∷ cs) (suc k) = choice_at cs k

-- what is seen where a name is left or replaced by one of these
abbrev pub visits_of : {A : Type 0} → (Choice → List (Visit A)) → List MacroDefinition → List (Visit A)
visits_of f [] = f None
visits_of f (d ∷ ds) = flat_map f (choices_of (d ∷ ds))

-- all complete runs
unfoldable pub visits : {A : Type 0} → Sets → Option (List ℕ) → Asking A → List (Visit A)
visits sets file (give x) = ended_so (Gave x) ∷ []
visits sets file (fail e) = ended_so (Failed e) ∷ []
visits sets file (ask_definition name next) = map (meets name) (visits_of (λ c. visits sets file (next c)) (sets name))
visits sets file (ask_file next) =
    map (meets (codes "__FILE__")) (elim file [ None ↦ ended_so Presumed ∷ [] | Some name ↦ visits sets file (next name) ])
visits sets file (ask_line line next) = meets (codes "__LINE__") (ended_so Presumed) ∷ []

-- A run by numbers: each number taken, with how many there were, and the run.
pub record Numbered (A : Type 0) : Type 0 where
  pub numbers : List (ℕ × ℕ)
  pub visit : Visit A

abbrev pub after_number : {A : Type 0} → ℕ → List MacroDefinition → Numbered A → Numbered A
after_number k ds n = record { numbers = (k, suc (length ds)) ∷ n.numbers; visit = n.visit }

abbrev pub meets_first : {A : Type 0} → List ℕ → Numbered A → Numbered A
meets_first name n = record { numbers = n.numbers; visit = meets name n.visit }

abbrev pub unnumbered : {A : Type 0} → Ending A → Numbered A
unnumbered e = record { numbers = []; visit = ended_so e }

-- the next list of numbers: the last that can rise rises, and what follows it is cut off
abbrev pub raised_number : ℕ → ℕ → Option (List ℕ) → Option (List ℕ)
raised_number k n (Some q) = Some (k ∷ q)
raised_number k n None = elim (nat_lt (suc k) n) [ true ↦ Some (suc k ∷ []) | false ↦ None ]

unfoldable pub next_numbers : List (ℕ × ℕ) → Option (List ℕ)
next_numbers [] = None
next_numbers (n ∷ ns) = raised_number n.0 n.1 (next_numbers ns)

-- at one name: the run of a list of numbers, with 0 after its end
abbrev pub At : {A : Type 0} → (Choice → List ℕ → Numbered A) → List MacroDefinition → List ℕ → Numbered A
At r [] ks = r None ks
At r (d ∷ ds) [] = after_number 0 (d ∷ ds) (r None [])
At r (d ∷ ds) (k ∷ q) = after_number k (d ∷ ds) (r (choice_at (choices_of (d ∷ ds)) k) q)

-- the run that a list of numbers gives
unfoldable pub run_at : {A : Type 0} → Sets → Option (List ℕ) → Asking A → List ℕ → Numbered A
run_at sets file (give x) ks = unnumbered (Gave x)
run_at sets file (fail e) ks = unnumbered (Failed e)
run_at sets file (ask_definition name next) ks = meets_first name (At (λ c q. run_at sets file (next c) q) (sets name) ks)
run_at sets file (ask_file next) ks =
    meets_first (codes "__FILE__") (elim file [ None ↦ unnumbered Presumed | Some name ↦ run_at sets file (next name) ks ])
run_at sets file (ask_line line next) ks = meets_first (codes "__LINE__") (unnumbered Presumed)

-- at one name: the runs from a list of numbers on, by those of what follows each choice
abbrev pub From : {A : Type 0} → (Choice → List ℕ → List (Visit A)) → (Choice → List (Visit A)) → List MacroDefinition → List ℕ → List (Visit A)
From f all [] ks = f None ks
From f all (d ∷ ds) [] = flat_map all (choices_of (d ∷ ds))
From f all (d ∷ ds) (k ∷ q) =
    f (choice_at (choices_of (d ∷ ds)) k) q ++ flat_map all (drop (suc k) (choices_of (d ∷ ds)))

-- the runs from a list of numbers on, in order
unfoldable pub visits_from : {A : Type 0} → Sets → Option (List ℕ) → Asking A → List ℕ → List (Visit A)
visits_from sets file (give x) ks = ended_so (Gave x) ∷ []
visits_from sets file (fail e) ks = ended_so (Failed e) ∷ []
visits_from sets file (ask_definition name next) ks =
    map (meets name) (From (λ c q. visits_from sets file (next c) q) (λ c. visits sets file (next c)) (sets name) ks)
visits_from sets file (ask_file next) ks =
    map (meets (codes "__FILE__")) (elim file [ None ↦ ended_so Presumed ∷ [] | Some name ↦ visits_from sets file (next name) ks ])
visits_from sets file (ask_line line next) ks = meets (codes "__LINE__") (ended_so Presumed) ∷ []

-- what a list, if there is one, gives
abbrev pub results_of : {X : Type 0} → (List ℕ → List X) → Option (List ℕ) → List X
results_of f None = []
results_of f (Some q) = f q
