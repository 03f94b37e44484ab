-- What is known of the headers that computed targets may name.
use Rattle.std.specs.Prelude.{◌≡◌, ◌↔◌, ◌⊎◌, ◌≤◌, ℕ, true, false, not, List, [], ◌++◌, ◌+◌, length, map, take, drop, Contains, Option, Some, Result, Ok, Err, Vec}
use Rattle.std.specs.declared.alloc.Global.{Global}
use Rattle.std.specs.List.{flat_map, slice_get}
use Rattle.std.specs.List.Sorted.{IsStrictlySortedBy}
use Rattle.base_types.specs.Members.{Member}
use Rattle.pp_tokens.specs.declared.Token.{Token}
use Rattle.directive_scan.specs.declared.HeaderName.{HeaderName}
use Rattle.macro_defs.specs.MacroDefinition.{MacroDefinition}
use Rattle.macro_defs.specs.Defining.{Named}
use Rattle.macro_expand.specs.Choice.{Sets, IsDistinct, Supports}
use Rattle.symbolic_expand.specs.Defined.{Defined}
use Rattle.symbolic_expand.specs.Defined as kept
use Rattle.symbolic_expand.specs.Found.{NamesExactly, NothingRefuses}
use Rattle.symbolic_expand.specs.Laws.{SameMembers}
use Rattle.symbolic_expand.specs.Texts.{text_cmp}
use Rattle.symbolic_expand.specs.declared.outcome.Names.{Names}
use Rattle.tree_model.specs.Paths.{Text}
use Rattle.search_path.specs.declared.asking.Visit.{Visit}
use Rattle.job_words.specs.JobOf.{JobData}
use Rattle.sheet_build.specs.Sheet.{SheetData, ComputedAsk}
use Rattle.closure_fixpoint.specs.Closure.{first_definitions, definition_sets, known_name}
use Rattle.closure_fixpoint.specs.Progress.{IsTold, MayTold}
use Rattle.closure_fixpoint.specs.Targets.{RefusesNames, heard_of}
use Rattle.closure_fixpoint.specs.declared.job_analysis.Refusal.{Refusal}
use Rattle.closure_fixpoint.specs.declared.naming.Grown.{Grown}
use Rattle.closure_fixpoint.specs.declared.naming.Kept.{Kept}
use Rattle.closure_fixpoint.specs.declared.naming.Naming.{Naming}
use Rattle.closure_fixpoint.specs.declared.naming.Rest.{Rest}

-- ---- definitions ----

-- kept sets have just the definitions of a list
abbrev pub HasJust : Defined → List Named → Type 0
HasJust sets definitions = (name : Text) (d : MacroDefinition) → Contains (kept.sets_of sets name) d ↔ Contains (definition_sets definitions name) d

-- the definitions of sheets that were told
abbrev pub definitions_in : List (Visit × SheetData) → List Named
definitions_in sheets = flat_map (λ told. told.1.defs) sheets

-- the definitions that a job begins with, and those of the first sheets that were told
abbrev pub definitions_to : JobData → ℕ → List (Visit × SheetData) → List Named
definitions_to job n sheets = first_definitions job ++ definitions_in (take n sheets)

-- sets got more definitions: each name whose sets changed went to the end of the log
pub record Grew (old : Grown) (definitions : List Named) (new : Grown) : Type 0 where
  pub sets : (before : List Named) → HasJust old.sets before → HasJust new.sets (before ++ definitions)
  pub more : List Text
  pub log : new.log.items ≡ old.log.items ++ more
  pub same : (name : Text) → (Member name more → ⊥) → kept.sets_of new.sets name ≡ kept.sets_of old.sets name

-- ---- answers that are kept ----

-- what a computed target's answer rests on beside the definitions: its presumed name, where that is known, and its tokens
abbrev pub asked_target : Visit → SheetData → ComputedAsk → Option Text × List Token
asked_target visit sheet c = (known_name sheet visit, c.tokens)

-- the computed targets of sheets, in order
abbrev pub targets_in : Visit × SheetData → List (Option Text × List Token)
targets_in told = map (asked_target told.0 told.1) told.1.computed

abbrev pub asked_targets : List (Visit × SheetData) → List (Option Text × List Token)
asked_targets sheets = flat_map targets_in sheets

-- some targets of a sheet have numbers from this one on
abbrev pub HasTargetsAt : List (Visit × SheetData) → ℕ → Visit → SheetData → List ComputedAsk → Type 0
HasTargetsAt sheets first visit sheet cs = (k : ℕ) (c : ComputedAsk) → slice_get cs k ≡ Some c → slice_get (asked_targets sheets) (first + k) ≡ Some (asked_target visit sheet c)

-- the names of some tokens under definition sets, where no refusal holds
pub record NamesUnder (budget : ℕ) (sets : Sets) (file : Option Text) (tokens : List Token) (names : Names) : Type 0 where
  pub distinct : IsDistinct sets
  pub exactly : NamesExactly sets file tokens names.headers names.support
  pub accepted : NothingRefuses budget sets file tokens

abbrev pub ExpandsTo : ℕ → Sets → Option Text → List Token → Result Names Refusal → Type 0
ExpandsTo budget sets file tokens (Ok names) = NamesUnder budget sets file tokens names
ExpandsTo budget sets file tokens (Err refusal) = IsDistinct sets × RefusesNames budget sets file tokens refusal

-- an answer of earlier sets: each name that it rests on has the same definitions now, unless it stands in the log behind the mark
pub record IsKept (sets : Defined) (log : List Text) (target : Option Text × List Token) (answer : Kept) : Type 0 where
  pub was : Sets
  pub names : NamesUnder answer.budget was target.0 target.1 answer.names
  pub marked : answer.mark ≤ length log
  pub same : (name : Text) → Supports was target.0 target.1 name → (Member name (drop answer.mark log) → ⊥) → SameMembers (was name) (kept.sets_of sets name)

-- no name that an answer rests on stands in the log behind the mark
abbrev pub NoneSince : List Text → Kept → Type 0
NoneSince log answer = (name : Text) → Contains answer.names.support name → Member name (drop answer.mark log) → ⊥

-- an answer's mark lies within the log, and the names that it rests on stand in the order of their bytes
pub record KeptIsReady (known : ℕ) (answer : Kept) : Type 0 where
  pub marked : answer.mark ≤ known
  pub ordered : IsStrictlySortedBy text_cmp answer.names.support

abbrev pub AreReady : ℕ → List Kept → Type 0
AreReady known answers = (number : ℕ) (answer : Kept) → slice_get answers number ≡ Some answer → KeptIsReady known answer

-- an answer is put for a target, or none is; the others stay
abbrev pub Puts : List Kept → ℕ → Kept → List Kept → Type 0
Puts old number answer new = (n : ℕ) (a : Kept) → slice_get new n ≡ Some a → ((n ≡ number) × (a ≡ answer)) ⊎ (slice_get old n ≡ Some a)

-- the headers of an answer that is kept, which gets a mark
pub record IsAgain (old : List Kept) (number mark : ℕ) (headers : List HeaderName) (new : List Kept) : Type 0 where
  pub answer : Kept
  pub was : slice_get old number ≡ Some answer
  pub same : headers ≡ answer.names.headers
  pub puts : Puts old number (record { names = answer.names; budget = answer.budget; mark = mark }) new

-- the headers of an expansion, which is kept
pub record IsFound (budget : ℕ) (grown : Grown) (target : Option Text × List Token) (old : List Kept) (number : ℕ) (headers : List HeaderName) (new : List Kept) : Type 0 where
  pub names : Names
  pub under : NamesUnder budget (kept.sets_of grown.sets) target.0 target.1 names
  pub same : headers ≡ names.headers
  pub puts : Puts old number (record { names = names; budget = budget; mark = length grown.log.items }) new

abbrev pub IsAnew : ℕ → Grown → Option Text × List Token → List Kept → ℕ → Result (Vec HeaderName Global) Refusal → List Kept → Type 0
IsAnew budget grown target old number (Ok headers) new = IsFound budget grown target old number headers.items new
IsAnew budget grown target old number (Err refusal) new =
    IsDistinct (kept.sets_of grown.sets) × RefusesNames budget (kept.sets_of grown.sets) target.0 target.1 refusal × (new ≡ old)

-- the answers that are kept, by the numbers of their targets
abbrev pub AnswersAreKept : Grown → List (Option Text × List Token) → List Kept → Type 0
AnswersAreKept grown targets answers = (number : ℕ) (answer : Kept) → slice_get answers number ≡ Some answer →
    (target : Option Text × List Token) × (slice_get targets number ≡ Some target) × IsKept grown.sets grown.log.items target answer

-- what is left of a computed target: its headers, each of which it may name under these sheets
pub record IsRest (job : JobData) (sheets : List (Visit × SheetData)) (rest : Rest) : Type 0 where
  pub sheet : SheetData
  pub c : ComputedAsk
  pub is_told : IsTold (heard_of [] sheets) rest.visit sheet c
  pub form_is : rest.form ≡ c.form
  pub include_is : rest.include ≡ not c.probe
  pub may : (header : HeaderName) → Member header rest.headers.items → MayTold job (heard_of [] sheets) rest.visit sheet c header

-- the same of the sheets that were told by then
abbrev pub IsLeft : JobData → List (Visit × SheetData) → Rest → Type 0
IsLeft job sheets rest = (rest.told ≤ length sheets) × IsRest job (take rest.told sheets) rest

-- all headers of a target, of which something is wanted
abbrev pub headers_to_ask : ℕ → Visit → ComputedAsk → Vec HeaderName Global → Rest
headers_to_ask told visit c headers = record { told = told; visit = visit; form = c.form; include = not c.probe; headers = headers; next = 0 }

-- nothing is kept until a first computed target comes; then the definitions are those of the job and of some of the sheets that
-- were told, and the answers are those of the first of their targets
pub record Follows (naming : Naming) (job : JobData) (sheets : List (Visit × SheetData)) : Type 0 where
  pub few : naming.told ≤ length sheets
  pub unread : naming.begun ≡ false → (naming.told ≡ 0) × (naming.kept.items ≡ [])
  pub sets : naming.begun ≡ true → HasJust naming.grown.sets (definitions_to job naming.told sheets)
  pub kept : AnswersAreKept naming.grown (asked_targets sheets) naming.kept.items
  pub left : (rest : Rest) → naming.rest ≡ Some rest → IsLeft job sheets rest

-- an answer that is kept for a target holds still within a budget
pub record HoldsStill (naming : Naming) (budget number : ℕ) : Type 0 where
  pub answer : Kept
  pub is : slice_get naming.kept.items number ≡ Some answer
  pub within : answer.budget ≤ budget
  pub untouched : NoneSince naming.grown.log.items answer

abbrev pub KeepsUp : JobData → Naming → Naming → Type 0
KeepsUp job old new = (sheets : List (Visit × SheetData)) → Follows old job sheets → Follows new job sheets

-- the definitions are those of the job and of all sheets that were told
pub record IsUpToDate (naming : Naming) (job : JobData) (sheets : List (Visit × SheetData)) : Type 0 where
  pub follows : Follows naming job sheets
  pub begun : naming.begun ≡ true
  pub all : HasJust naming.grown.sets (first_definitions job ++ definitions_in sheets)
