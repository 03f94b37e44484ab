-- Expansion under sets of definitions: every run that some choice of definitions gives.
use Rattle.std.specs.Prelude.{◌≡◌, ℕ, ◌<◌, length, codes, List, [], ◌∷◌, map, flat_map, Option, Some, None, Contains, pos, ◌+ℤ◌}
use Rattle.std.specs.Fmt.{signed_decimal}
use Rattle.base_types.specs.Limits.{choice_work_limit}
use Rattle.macro_defs.specs.MacroDefinition.{MacroDefinition}
use Rattle.pp_tokens.specs.declared.Token.{Token}
use Rattle.macro_expand.specs.declared.outcome.Mode.TheVariants.{Text}
use Rattle.macro_expand.specs.Replacement.{unmarked}
use Rattle.macro_expand.specs.Asking.{Failure, Work, Asking, give, fail, ask_definition, ask_file, ask_line}
use Rattle.macro_expand.specs.Expansion.{Expanded, expansion, Table, Place}

-- The definitions that each name may have.
abbrev pub Sets : Type 0
Sets = List ℕ → List MacroDefinition

-- No element stands twice in the list.
abbrev pub HasNoRepeat : {A : Type 0} → List A → Type 0
HasNoRepeat [] = Unit {0}
HasNoRepeat (x ∷ xs) = (Contains xs x → ⊥) × HasNoRepeat xs

-- Each definition of a name stands once, so that each complete list of choices is counted once.
abbrev pub IsDistinct : Sets → Type 0
IsDistinct sets = (name : List ℕ) → HasNoRepeat (sets name)

-- The definitions of some sets are among those of others.
abbrev pub AreAmong : Sets → Sets → Type 0
AreAmong sets other = (name : List ℕ) (d : MacroDefinition) → Contains (sets name) d → Contains (other name) d

-- An answer for a name that has definitions: leave it, or replace it by one of them.
abbrev pub Choice : Type 0
Choice = Option MacroDefinition

-- How a run ends: with a result, an error, or a presumed line or name that isn't known.
pub data Ending (A : Type 0) : Type 0 where
  Gave : A → Ending A
  Failed : Failure → Ending A
  Presumed : Ending A

-- A run that uses its list of choices up.
pub record Run (A : Type 0) : Type 0 where
  pub choices : List Choice
  pub ending : Ending A

abbrev pub after_choice : {A : Type 0} → Choice → Run A → Run A
after_choice c r = record r { choices = c ∷ r.choices }

abbrev pub run_ended : {A : Type 0} → Ending A → Run A
run_ended e = record { choices = []; ending = e }

-- the runs where a name is left or replaced by one of these
abbrev pub runs_of : {A : Type 0} → (Choice → List (Run A)) → List MacroDefinition → List (Run A)
runs_of next [] = next None
runs_of next (d ∷ ds) = flat_map (λ c. map (after_choice c) (next c)) (None ∷ map Some (d ∷ ds))

-- the runs of all complete lists of choices; `file` is the presumed name, where it is known
unfoldable pub complete_runs : {A : Type 0} → Sets → Option (List ℕ) → Asking A → List (Run A)
complete_runs sets file (give x) = run_ended (Gave x) ∷ []
complete_runs sets file (fail e) = run_ended (Failed e) ∷ []
complete_runs sets file (ask_definition name next) = runs_of (λ c. complete_runs sets file (next c)) (sets name)
complete_runs sets file (ask_file next) =
    elim file [ None ↦ run_ended Presumed ∷ [] | Some name ↦ complete_runs sets file (next name) ]
complete_runs sets file (ask_line line next) = run_ended Presumed ∷ []

-- the choice that a table's answer is
abbrev pub with_taken : {A : Type 0} → List MacroDefinition → Choice → Run A → Run A
with_taken [] c r = r
with_taken (d ∷ ds) c r = after_choice c r

-- an answer before others, where the name has definitions
abbrev pub taken_before : List MacroDefinition → Choice → List Choice → List Choice
taken_before [] c cs = cs
taken_before (d ∷ ds) c cs = c ∷ cs

-- the run along the answers that a table gives
unfoldable pub taken_run : {A : Type 0} → Sets → Option (List ℕ) → Table → Asking A → Run A
taken_run sets file table (give x) = run_ended (Gave x)
taken_run sets file table (fail e) = run_ended (Failed e)
taken_run sets file table (ask_definition name next) =
    with_taken (sets name) (table name) (taken_run sets file table (next (table name)))
taken_run sets file table (ask_file next) =
    elim file [ None ↦ run_ended Presumed | Some name ↦ taken_run sets file table (next name) ]
taken_run sets file table (ask_line line next) = run_ended Presumed

-- the answers that a table gives to the names that have definitions in the sets, in the order in which they are asked for
unfoldable pub choices_taken : {A : Type 0} → Sets → Table → Place → Asking A → List Choice
choices_taken sets table here (give x) = []
choices_taken sets table here (fail e) = []
choices_taken sets table here (ask_definition name next) =
    taken_before (sets name) (table name) (choices_taken sets table here (next (table name)))
choices_taken sets table here (ask_file next) = choices_taken sets table here (next here.name)
choices_taken sets table here (ask_line line next) = choices_taken sets table here (next (signed_decimal (pos line +ℤ here.shift)))

-- the run that a list of choices gives, and the choices that it doesn't use; none where the list is too short
pub record Started (A : Type 0) : Type 0 where
  pub ending : Ending A
  pub unused : List Choice

unfoldable pub run_by : {A : Type 0} → Sets → Option (List ℕ) → List Choice → Asking A → Option (Started A)
run_by sets file choices (give x) = Some (record { ending = Gave x; unused = choices })
run_by sets file choices (fail e) = Some (record { ending = Failed e; unused = choices })
run_by sets file choices (ask_definition name next) =
    elim (sets name) [
      | [] ↦ run_by sets file choices (next None)
      | d ∷ ds ↦ elim choices [ [] ↦ None | c ∷ cs ↦ run_by sets file cs (next c) ]
    ]
run_by sets file choices (ask_file next) =
    elim file [ None ↦ Some (record { ending = Presumed; unused = choices }) | Some name ↦ run_by sets file choices (next name) ]
run_by sets file choices (ask_line line next) = Some (record { ending = Presumed; unused = choices })

-- A table that lies within sets: each definition that it has is in them.
abbrev pub IsWithin : Table → Sets → Type 0
IsWithin table sets = (name : List ℕ) (d : MacroDefinition) → table name ≡ Some d → Contains (sets name) d

abbrev pub computed_runs : Sets → Option (List ℕ) → List Token → List (Run Expanded)
computed_runs sets file ts = complete_runs sets file (expansion Text 0 choice_work_limit (map unmarked ts))

-- what a run's end says of a header name, by a reading of expanded tokens (6.10.2)
abbrev pub header_of_ending : {H : Type 0} → (List Token → Option H) → Ending Expanded → Option H
header_of_ending reading (Gave e) = reading (map (λ m. m.token) e.tokens)
header_of_ending reading (Failed e) = None
header_of_ending reading Presumed = None

-- The headers that computed tokens may name under these sets.
abbrev pub MayName : {H : Type 0} → (List Token → Option H) → Sets → Option (List ℕ) → List Token → H → Type 0
MayName reading sets file ts h =
    (r : Run Expanded) × (Contains (computed_runs sets file ts) r) × (header_of_ending reading r.ending ≡ Some h)

-- The reasons for which computed tokens aren't analysed: too many complete lists, too much work, a line or name that isn't known.
-- The count is that of complete lists where the sets are distinct: a definition that stands twice would count twice.
abbrev pub HasManyRuns : ℕ → Sets → Option (List ℕ) → List Token → Type 0
HasManyRuns budget sets file ts = budget < length (computed_runs sets file ts)

abbrev pub HasLongRun : Sets → Option (List ℕ) → List Token → Type 0
HasLongRun sets file ts = (r : Run Expanded) × (Contains (computed_runs sets file ts) r) × (r.ending ≡ Failed Work)

abbrev pub HasPresumedRun : Sets → Option (List ℕ) → List Token → Type 0
HasPresumedRun sets file ts = (r : Run Expanded) × (Contains (computed_runs sets file ts) r) × (r.ending ≡ Presumed)

-- the names that some complete run meets
unfoldable pub met_names : {A : Type 0} → Sets → Option (List ℕ) → Asking A → List (List ℕ)
met_names sets file (give x) = []
met_names sets file (fail e) = []
met_names sets file (ask_definition name next) =
    name ∷ elim (sets name) [
      | [] ↦ met_names sets file (next None)
      | d ∷ ds ↦ flat_map (λ c. met_names sets file (next c)) (None ∷ map Some (d ∷ ds))
    ]
met_names sets file (ask_file next) =
    codes "__FILE__" ∷ elim file [ None ↦ [] | Some name ↦ met_names sets file (next name) ]
met_names sets file (ask_line line next) = codes "__LINE__" ∷ []

-- The identifiers that the answer on computed tokens rests on.
abbrev pub Supports : Sets → Option (List ℕ) → List Token → List ℕ → Type 0
Supports sets file ts name = Contains (met_names sets file (expansion Text 0 choice_work_limit (map unmarked ts))) name
