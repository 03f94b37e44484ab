-- The files that preprocessing a job may visit, whatever its conditionals say, and why an analysis may be refused (ISO C 6.10.2).
use Rattle.std.specs.Prelude.{◌≡◌, ◌<◌, ℕ, Bool, true, false, List, [], ◌∷◌, ◌++◌, length, map, Option, Some, None, cond, if◌then◌else◌, bytes_eq}
use Rattle.std.specs.List.{list_any, flat_map, filter_map}
use Rattle.base_types.specs.Members.{Member, Within, EachOnce}
use Rattle.base_types.specs.Limits.{visit_limit}
use Rattle.directive_scan.specs.declared.HeaderName.{HeaderName}
use Rattle.directive_scan.specs.HeaderNames.{header_named}
use Rattle.macro_defs.specs.MacroDefinition.{MacroDefinition}
use Rattle.macro_defs.specs.Sameness.{is_same_definition}
use Rattle.macro_defs.specs.Defining.{Named}
use Rattle.macro_defs.specs.Table.{initial_entries}
use Rattle.macro_expand.specs.Choice.{Sets, MayName, HasManyRuns, HasLongRun, HasPresumedRun}
use Rattle.tree_model.specs.Paths.{Text}
use Rattle.tree_model.specs.Trees.{FileTree}
use Rattle.tree_model.specs.declared.walk.Located.{Located}
use Rattle.search_path.specs.Search.{Hit, search}
use Rattle.search_path.specs.declared.asking.Visit.{Visit}
use Rattle.search_path.specs.declared.asking.Form.{Form}
use Rattle.search_path.specs.declared.asking.Form.TheVariants.{Source, Forced, Quote, Angle, NextQuote, NextAngle}
use Rattle.search_path.specs.declared.asking.Ask.{Ask}
use Rattle.job_words.specs.JobOf.{JobData}
use Rattle.job_words.specs.declared.MacroWord.{MacroWord}
use Rattle.job_words.specs.declared.MacroWord.TheVariants as word
use Rattle.tree_model.specs.Shown.{presumed_name}
use Rattle.search_path.specs.Asks.{source_ask, forced_ask}
use Rattle.sheet_build.specs.Sheet.{SheetData, ComputedAsk, sheet_of}
use Rattle.closure_fixpoint.specs.Closed.{IsClosed, IsClosure}
use Rattle.closure_fixpoint.specs.declared.job_analysis.Refusal.{Refusal}
use Rattle.closure_fixpoint.specs.declared.job_analysis.Refusal.TheVariants.{Budget, Long, Presumed, Visits, Large, Request, NoSource}

-- what searches find, and the sheets of visits: those of a tree, or what is known of them
pub record AnalysisAnswers : Type 0 where
  pub find : Ask → Option Hit
  pub sheet : Visit → SheetData

-- ---- definitions ----

abbrev pub initial_definition : Text × Option MacroDefinition → Option Named
initial_definition (name, None) = None
initial_definition (name, Some d) = Some (record { name = name; definition = d })

abbrev pub word_definition : MacroWord → Option Named
word_definition (word.Define name definition) = Some (record { name = name; definition = definition })
word_definition (word.Undef name) = None

-- the definitions that a job begins with: those of every translation, and those of its words, whatever its words take away
abbrev pub first_definitions : JobData → List Named
first_definitions job = filter_map initial_definition initial_entries ++ filter_map word_definition job.macros

-- the definitions of a list, of this name
abbrev pub of_name : Text → Named → Option MacroDefinition
of_name name named = if bytes_eq name named.name then Some named.definition else None

-- definitions, each once
abbrev pub definition_added : MacroDefinition → List MacroDefinition → List MacroDefinition
definition_added d ds = if list_any (is_same_definition d) ds then ds else d ∷ ds

unfoldable pub distinct : List MacroDefinition → List MacroDefinition
distinct [] = []
distinct (d ∷ ds) = definition_added d (distinct ds)

-- the definition sets: for each name the distinct definitions of a list
abbrev pub definition_sets : List Named → Sets
definition_sets definitions name = distinct (filter_map (of_name name) definitions)

-- ---- computed targets ----

-- the form in which a name in angles, or else in quotes, is asked for
abbrev pub with_angle : Form → Bool → Form
with_angle form false = form
with_angle Source true = Source
with_angle Forced true = Forced
with_angle Quote true = Angle
with_angle Angle true = Angle
with_angle NextQuote true = NextAngle
with_angle NextAngle true = NextAngle

abbrev pub computed_ask : Visit → ComputedAsk → HeaderName → Ask
computed_ask visit c header = record { form = with_angle c.form header.angle; from = Some visit; name = header.name }

-- the name that `__FILE__` has in a visited file: the first presumed name, unless a `#line` may change it (6.10.4)
abbrev pub known_name : SheetData → Visit → Option Text
known_name sheet visit = cond sheet.has_line None (Some (presumed_name visit.place))

module _ (answers : AnalysisAnswers) (job : JobData) (visits : List Visit) where
  -- all definitions: those that the job begins with, and those of all sheets
  abbrev pub definitions : List Named
  definitions = first_definitions job ++ flat_map (λ visit. (answers.sheet visit).defs) visits

  abbrev pub sets : Sets
  sets = definition_sets definitions

  -- a computed target of a visited file
  pub record IsAsked (visit : Visit) (c : ComputedAsk) : Type 0 where
    pub visited : Member visit visits
    pub stands : Member c (answers.sheet visit).computed

  -- a header that some choice of definitions gives it
  abbrev pub May : Visit → ComputedAsk → HeaderName → Type 0
  May visit c header = MayName header_named sets (known_name (answers.sheet visit) visit) c.tokens header

  -- a file that it may name
  pub record MayFind (visit : Visit) (c : ComputedAsk) (hit : Hit) : Type 0 where
    pub stands : Member c (answers.sheet visit).computed
    pub header : HeaderName
    pub may : May visit c header
    pub found : answers.find (computed_ask visit c header) ≡ Some hit

-- a visit leads to the files of its plain includes, and to those that its computed includes may name
pub data LeadsTo (answers : AnalysisAnswers) (job : JobData) (visits : List Visit) (visit target : Visit) : Type 0 where
  ByName : (hit : Hit) → Member hit (answers.sheet visit).plain → hit.0 ≡ target → LeadsTo answers job visits visit target
  ByTokens : (c : ComputedAsk) (hit : Hit) → MayFind answers job visits visit c hit → c.probe ≡ false → hit.0 ≡ target → LeadsTo answers job visits visit target

-- ---- the closure ----

-- the searches for the source and for the files in front of it
abbrev pub first_asks : JobData → List Ask
first_asks job = source_ask job.source ∷ map forced_ask job.forced

abbrev pub first_hits : AnalysisAnswers → JobData → List Hit
first_hits answers job = filter_map answers.find (first_asks job)

abbrev pub first_visits : AnalysisAnswers → JobData → List Visit
first_visits answers job = map (λ hit. hit.0) (first_hits answers job)

-- a closed list of visits has those of the source and of the files in front of it, and all that its members lead to
abbrev pub IsClosedFor : AnalysisAnswers → JobData → List Visit → Type 0
IsClosedFor answers job visits = IsClosed (first_visits answers job) (LeadsTo answers job) visits

-- the closure: the closed list that lies within every closed list
abbrev pub IsClosureFor : AnalysisAnswers → JobData → List Visit → Type 0
IsClosureFor answers job visits = IsClosure (first_visits answers job) (LeadsTo answers job) visits

abbrev pub answers_of : FileTree → JobData → AnalysisAnswers
answers_of tree job = record { find = search tree job.setup; sheet = sheet_of tree job.setup }

abbrev pub IsClosureOf : FileTree → JobData → List Visit → Type 0
IsClosureOf tree job visits = IsClosureFor (answers_of tree job) job visits

-- the visit is in the closure of the job
abbrev pub InClosure : FileTree → JobData → Visit → Type 0
InClosure tree job visit = (visits : List Visit) × IsClosureOf tree job visits × Member visit visits

-- ---- the searches that are known ----

-- a search that succeeded and that the analysis knows of: for the source or a file in front of it, for an include, or for a
-- probe, of the visits
pub data IsKnownSearch (answers : AnalysisAnswers) (job : JobData) (visits : List Visit) : Located → Type 0 where
  AtFirst : (hit : Hit) → Member hit (first_hits answers job) → IsKnownSearch answers job visits hit.1
  Included : (visit : Visit) (hit : Hit) → Member visit visits → Member hit (answers.sheet visit).plain → IsKnownSearch answers job visits hit.1
  Probed : (visit : Visit) (located : Located) → Member visit visits → Member located (answers.sheet visit).probes → IsKnownSearch answers job visits located
  ByMacros : (visit : Visit) (c : ComputedAsk) (hit : Hit) → Member visit visits → MayFind answers job visits visit c hit → IsKnownSearch answers job visits hit.1

-- ---- refusals ----

-- a computed target of which something holds, under the sets of a list of visits
pub record SomeAsked (answers : AnalysisAnswers) (job : JobData) (visits : List Visit) (P : Visit → ComputedAsk → Type 0) : Type 0 where
  pub visit : Visit
  pub c : ComputedAsk
  pub asked : IsAsked answers job visits visit c
  pub holds : P visit c

-- `Budget`: a computed target has more choices of definitions than the budget. `Long`: one of its choices needs more work than
-- a run has. `Presumed`: one of its choices uses a presumed line, or a presumed name that may change.
abbrev pub HasMany : AnalysisAnswers → JobData → ℕ → List Visit → Type 0
HasMany answers job budget visits = SomeAsked answers job visits (λ visit c.
    HasManyRuns budget (sets answers job visits) (known_name (answers.sheet visit) visit) c.tokens)

abbrev pub HasLong : AnalysisAnswers → JobData → List Visit → Type 0
HasLong answers job visits = SomeAsked answers job visits (λ visit c.
    HasLongRun (sets answers job visits) (known_name (answers.sheet visit) visit) c.tokens)

abbrev pub HasPresumed : AnalysisAnswers → JobData → List Visit → Type 0
HasPresumed answers job visits = SomeAsked answers job visits (λ visit c.
    HasPresumedRun (sets answers job visits) (known_name (answers.sheet visit) visit) c.tokens)

-- more different visits than this
abbrev pub HasMoreThan : ℕ → List Visit → Type 0
HasMoreThan limit visits = (some : List Visit) × EachOnce some × Within some visits × (limit < length some)

-- a refusal that is met at a list of visits
abbrev pub IsMet : Refusal → AnalysisAnswers → JobData → ℕ → List Visit → Type 0
IsMet Budget answers job budget visits = HasMany answers job budget visits
IsMet Long answers job budget visits = HasLong answers job visits
IsMet Presumed answers job budget visits = HasPresumed answers job visits
IsMet Visits answers job budget visits = HasMoreThan visit_limit visits
IsMet Large answers job budget visits = ⊥
IsMet Request answers job budget visits = ⊥
IsMet NoSource answers job budget visits = answers.find (source_ask job.source) ≡ None

-- a refusal that holds at the closure of a job
pub record IsMetAtClosure (refusal : Refusal) (tree : FileTree) (job : JobData) (budget : ℕ) : Type 0 where
  pub visits : List Visit
  pub closure : IsClosureOf tree job visits
  pub met : IsMet refusal (answers_of tree job) job budget visits
