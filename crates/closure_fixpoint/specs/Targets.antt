-- What is wanted of the computed targets that were told.
use Rattle.std.specs.Prelude.{◌≡◌, ℕ, true, not, Vec, List, [], Option, None, Some, Result, Ok, Err}
use Rattle.std.specs.declared.alloc.Global.{Global}
use Rattle.base_types.specs.Members.{Member}
use Rattle.directive_scan.specs.declared.HeaderName.{HeaderName}
use Rattle.directive_scan.specs.HeaderNames.{header_named}
use Rattle.pp_tokens.specs.declared.Token.{Token}
use Rattle.macro_expand.specs.Choice.{Sets, MayName, HasManyRuns, HasLongRun, HasPresumedRun}
use Rattle.tree_model.specs.Paths.{Text}
use Rattle.search_path.specs.Search.{Hit}
use Rattle.search_path.specs.declared.asking.Visit.{Visit}
use Rattle.search_path.specs.declared.asking.Ask.{Ask}
use Rattle.job_words.specs.JobOf.{JobData}
use Rattle.closure_fixpoint.specs.declared.job_analysis.Refusal.{Refusal}
use Rattle.closure_fixpoint.specs.declared.job_analysis.Refusal.TheVariants.{Budget, Long, Presumed}
use Rattle.closure_fixpoint.specs.declared.wanting.Want.{Want}
use Rattle.closure_fixpoint.specs.declared.wanting.Want.TheVariants as want
use Rattle.sheet_build.specs.Sheet.{SheetData, ComputedAsk}
use Rattle.closure_fixpoint.specs.Closure.{computed_ask, known_name}
use Rattle.closure_fixpoint.specs.Progress.{Heard, with_search, sets_told, IsTold, MayTold, IsDue, IsWanted, SearchIsMade}
use Rattle.closure_fixpoint.specs.Asked.{HasNoAnswer}

abbrev pub heard_of : List (Ask × Option Hit) → List (Visit × SheetData) → Heard
heard_of searches sheets = record { searches = searches; sheets = sheets; large = None }

-- a refusal holds of computed tokens
abbrev pub RefusesNames : ℕ → Sets → Option Text → List Token → Refusal → Type 0
RefusesNames budget sets file tokens Budget = HasManyRuns budget sets file tokens
RefusesNames budget sets file tokens Long = HasLongRun sets file tokens
RefusesNames budget sets file tokens Presumed = HasPresumedRun sets file tokens
RefusesNames budget sets file tokens _ = ⊥

-- just the headers that computed tokens may name, of which no refusal holds
pub record AreNames (budget : ℕ) (sets : Sets) (file : Option Text) (tokens : List Token) (headers : List HeaderName) : Type 0 where
  pub may : (header : HeaderName) → Member header headers → MayName header_named sets file tokens header
  pub all : (header : HeaderName) → MayName header_named sets file tokens header → Member header headers
  pub accepted : (refusal : Refusal) → RefusesNames budget sets file tokens refusal → ⊥

-- what is wanted next
abbrev pub IsNextWant : JobData → Heard → List Visit → Want → Type 0
IsNextWant job heard found (want.Search ask include) =
    HasNoAnswer heard.searches ask × IsWanted job heard ask × ((hit : Hit) → include ≡ true → IsDue job (with_search heard ask (Some hit)) hit.0)
IsNextWant job heard found (want.Visit visit) = IsDue job heard visit × (Member visit found → ⊥)

-- nothing is wanted of a computed target, and no refusal holds of it
pub record IsDoneWith (job : JobData) (budget : ℕ) (heard : Heard) (found : List Visit) (visit : Visit) (sheet : SheetData) (c : ComputedAsk) : Type 0 where
  pub accepted : (refusal : Refusal) → RefusesNames budget (sets_told job heard) (known_name sheet visit) c.tokens refusal → ⊥
  pub made : (header : HeaderName) → MayTold job heard visit sheet c header → SearchIsMade heard.searches found (computed_ask visit c header) (not c.probe)

-- a refusal of a computed target that was told
pub record IsRefusedTarget (job : JobData) (budget : ℕ) (heard : Heard) (refusal : Refusal) : Type 0 where
  pub visit : Visit
  pub sheet : SheetData
  pub c : ComputedAsk
  pub is_told : IsTold heard visit sheet c
  pub holds : RefusesNames budget (sets_told job heard) (known_name sheet visit) c.tokens refusal

-- what is wanted of some targets, or why they are refused; `Done` is what holds where nothing is
abbrev pub WantsOr : JobData → ℕ → Heard → List Visit → Type 0 → Result (Option Want) Refusal → Type 0
WantsOr job budget heard found Done (Ok None) = Done
WantsOr job budget heard found Done (Ok (Some want)) = IsNextWant job heard found want
WantsOr job budget heard found Done (Err refusal) = IsRefusedTarget job budget heard refusal

-- done with each of some targets of a sheet, and with those of each of some sheets
abbrev pub DoneWithAll : JobData → ℕ → Heard → List Visit → Visit → SheetData → List ComputedAsk → Type 0
DoneWithAll job budget heard found visit sheet cs = (c : ComputedAsk) → Member c cs → IsDoneWith job budget heard found visit sheet c

abbrev pub DoneWithSheets : JobData → ℕ → Heard → List Visit → List (Visit × SheetData) → Type 0
DoneWithSheets job budget heard found sheets =
    (visit : Visit) (sheet : SheetData) (c : ComputedAsk) → Member (visit, sheet) sheets → Member c sheet.computed → IsDoneWith job budget heard found visit sheet c

-- the names of a target, or why it is refused
abbrev pub NamesOf : JobData → ℕ → List (Visit × SheetData) → Visit → SheetData → ComputedAsk → Result (List HeaderName) Refusal → Type 0
NamesOf job budget sheets visit sheet c (Ok headers) = AreNames budget (sets_told job (heard_of [] sheets)) (known_name sheet visit) c.tokens headers
NamesOf job budget sheets visit sheet c (Err refusal) = RefusesNames budget (sets_told job (heard_of [] sheets)) (known_name sheet visit) c.tokens refusal

-- the same of what code gives
abbrev pub NamesSeen : JobData → ℕ → List (Visit × SheetData) → Visit → SheetData → ComputedAsk → Result (Vec HeaderName Global) Refusal → Type 0
NamesSeen job budget sheets visit sheet c (Ok headers) = NamesOf job budget sheets visit sheet c (Ok headers.items)
NamesSeen job budget sheets visit sheet c (Err refusal) = NamesOf job budget sheets visit sheet c (Err refusal)
