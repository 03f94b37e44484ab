-- What an analysis was told so far, and what its answers mean.
use Rattle.std.specs.Prelude.{◌≡◌, ◌↔◌, ◌≤◌, ℕ, Bool, true, false, List, [], ◌∷◌, ◌++◌, length, map, Option, Some, None, not}
use Rattle.std.specs.List.{flat_map}
use Rattle.base_types.specs.Members.{Member, Within, EachOnce}
use Rattle.base_types.specs.Limits.{visit_limit}
use Rattle.directive_scan.specs.declared.HeaderName.{HeaderName}
use Rattle.directive_scan.specs.HeaderNames.{header_named}
use Rattle.macro_defs.specs.Defining.{Named}
use Rattle.macro_expand.specs.Choice.{Sets, MayName, HasManyRuns, HasLongRun, HasPresumedRun}
use Rattle.tree_model.specs.declared.walk.Located.{Located}
use Rattle.search_path.specs.Search.{Hit, NeedsFrom}
use Rattle.search_path.specs.declared.asking.Visit.{Visit}
use Rattle.search_path.specs.declared.asking.Ask.{Ask}
use Rattle.job_words.specs.JobOf.{JobData}
use Rattle.search_path.specs.Asks.{source_ask}
use Rattle.sheet_build.specs.Sheet.{SheetData, ComputedAsk}
use Rattle.closure_fixpoint.specs.Closure.{AnalysisAnswers, first_definitions, definition_sets, computed_ask, known_name, first_asks, IsClosedFor, IsClosureFor, IsKnownSearch, IsMet}
use Rattle.closure_fixpoint.specs.declared.job_analysis.Refusal.{Refusal}

-- what an analysis was told: searches with their answers, and sheets of visits, in order; and a visit whose file is too large
pub record Heard : Type 0 where
  pub searches : List (Ask × Option Hit)
  pub sheets : List (Visit × SheetData)
  pub large : Option Visit

-- what it was told is true of some answers; `is_large` tells of a visit whether its file is too large
pub record HeardIsTrueOf (answers : AnalysisAnswers) (is_large : Visit → Bool) (heard : Heard) : Type 0 where
  pub searches : (ask : Ask) (got : Option Hit) → Member (ask, got) heard.searches → answers.find ask ≡ got
  pub sheets : (visit : Visit) (sheet : SheetData) → Member (visit, sheet) heard.sheets → answers.sheet visit ≡ sheet
  pub large : (visit : Visit) → heard.large ≡ Some visit → is_large visit ≡ true

-- the answer to a search, or a sheet, was told
abbrev pub with_search : Heard → Ask → Option Hit → Heard
with_search heard ask got = record heard { searches = heard.searches ++ (ask, got) ∷ [] }

abbrev pub with_sheet : Heard → Visit → SheetData → Heard
with_sheet heard visit sheet = record heard { sheets = heard.sheets ++ (visit, sheet) ∷ [] }

-- the visits whose sheets were told
abbrev pub visits_told : Heard → List Visit
visits_told heard = map (λ told. told.0) heard.sheets

-- the definitions that were told, with those that the job begins with
abbrev pub definitions_told : JobData → Heard → List Named
definitions_told job heard = first_definitions job ++ flat_map (λ told. told.1.defs) heard.sheets

abbrev pub sets_told : JobData → Heard → Sets
sets_told job heard = definition_sets (definitions_told job heard)

-- an ask was answered, and this was found
abbrev pub WasFound : Heard → Ask → Hit → Type 0
WasFound heard ask hit = Member (ask, Some hit) heard.searches

abbrev pub WasSearched : Heard → Ask → Type 0
WasSearched heard ask = (got : Option Hit) × Member (ask, got) heard.searches

-- a computed target that was told, with the visit whose sheet it stands in
pub record IsTold (heard : Heard) (visit : Visit) (sheet : SheetData) (c : ComputedAsk) : Type 0 where
  pub told : Member (visit, sheet) heard.sheets
  pub stands : Member c sheet.computed

-- a header that a computed target may name under what was told
abbrev pub MayTold : JobData → Heard → Visit → SheetData → ComputedAsk → HeaderName → Type 0
MayTold job heard visit sheet c header = MayName header_named (sets_told job heard) (known_name sheet visit) c.tokens header

-- why a visit was found: by a first search, by a plain include of a sheet, or by a computed one
pub data IsDue (job : JobData) (heard : Heard) (target : Visit) : Type 0 where
  ByFirst : (ask : Ask) (hit : Hit) → Member ask (first_asks job) → WasFound heard ask hit → hit.0 ≡ target → IsDue job heard target
  ByPlain : (visit : Visit) (sheet : SheetData) (hit : Hit) → Member (visit, sheet) heard.sheets → Member hit sheet.plain → hit.0 ≡ target → IsDue job heard target
  ByComputed : (visit : Visit) (sheet : SheetData) (c : ComputedAsk) (header : HeaderName) (hit : Hit) → IsTold heard visit sheet c → c.probe ≡ false
      → MayTold job heard visit sheet c header → WasFound heard (computed_ask visit c header) hit → hit.0 ≡ target → IsDue job heard target

-- why a search was made: it is a first one, or for a header that a computed target may name
pub data IsWanted (job : JobData) (heard : Heard) (ask : Ask) : Type 0 where
  AtFirst : Member ask (first_asks job) → IsWanted job heard ask
  ForTarget : (visit : Visit) (sheet : SheetData) (c : ComputedAsk) (header : HeaderName) → IsTold heard visit sheet c → MayTold job heard visit sheet c header
      → computed_ask visit c header ≡ ask → IsWanted job heard ask

-- THE INVARIANT. The visits found, in order, each once; the sheets told are those of some of them; each search was wanted; and each visit lies in every list
-- that is closed under answers of which all that was told is true.
pub record FoundKeeps (job : JobData) (heard : Heard) (found : List Visit) : Type 0 where
  pub once : EachOnce found
  pub asked : Within (visits_told heard) found
  pub wanted : (ask : Ask) (got : Option Hit) → Member (ask, got) heard.searches → IsWanted job heard ask
  pub sure : (answers : AnalysisAnswers) (is_large : Visit → Bool) → HeardIsTrueOf answers is_large heard → (other : List Visit) → IsClosedFor answers job other → Within found other

-- a search was made, and the visit of the file that it found, where it is one, was found
pub record SearchIsMade (searches : List (Ask × Option Hit)) (found : List Visit) (ask : Ask) (include : Bool) : Type 0 where
  pub got : Option Hit
  pub told : Member (ask, got) searches
  pub visit : (hit : Hit) → got ≡ Some hit → include ≡ true → Member hit.0 found

-- the visits of the plain includes of each told sheet were found
abbrev pub PlainAreFound : Heard → List Visit → Type 0
PlainAreFound heard found = (visit : Visit) (sheet : SheetData) (hit : Hit) → Member (visit, sheet) heard.sheets → Member hit sheet.plain → Member hit.0 found

-- nothing is left to ask: each visit's sheet was told, the visits of its plain includes were found, and each search that is wanted
-- was made
pub record IsEnough (job : JobData) (heard : Heard) (found : List Visit) : Type 0 where
  pub sheets : Within found (visits_told heard)
  pub plain : PlainAreFound heard found
  pub first : (ask : Ask) → Member ask (first_asks job) → SearchIsMade heard.searches found ask true
  pub computed : (visit : Visit) (sheet : SheetData) (c : ComputedAsk) (header : HeaderName) → IsTold heard visit sheet c → MayTold job heard visit sheet c header
      → SearchIsMade heard.searches found (computed_ask visit c header) (not c.probe)

-- no refusal is met under what was told
pub record IsAccepted (job : JobData) (budget : ℕ) (heard : Heard) (found : List Visit) : Type 0 where
  pub few : length found ≤ visit_limit
  pub small : heard.large ≡ None
  pub source : (hit : Hit) × WasFound heard (source_ask job.source) hit
  pub within_budget : (visit : Visit) (sheet : SheetData) (c : ComputedAsk) → IsTold heard visit sheet c → HasManyRuns budget (sets_told job heard) (known_name sheet visit) c.tokens → ⊥
  pub short : (visit : Visit) (sheet : SheetData) (c : ComputedAsk) → IsTold heard visit sheet c → HasLongRun (sets_told job heard) (known_name sheet visit) c.tokens → ⊥
  pub told : (visit : Visit) (sheet : SheetData) (c : ComputedAsk) → IsTold heard visit sheet c → HasPresumedRun (sets_told job heard) (known_name sheet visit) c.tokens → ⊥

-- how the files of all searches that succeeded were located: those told, and those that the sheets have
abbrev pub located_by_search : Ask × Option Hit → List Located
located_by_search (ask, None) = []
located_by_search (ask, Some hit) = hit.1 ∷ []

abbrev pub located_in_sheet : SheetData → List Located
located_in_sheet sheet = map (λ hit. hit.1) sheet.plain ++ sheet.probes

unfoldable pub located_told : Heard → List Located
located_told heard = flat_map located_by_search heard.searches ++ flat_map (λ told. located_in_sheet told.1) heard.sheets

-- ---- what the answers mean ----

-- the answer that the analysis is done, with these visits: the closure, each once, where no refusal is met
pub record DoneMeans (job : JobData) (budget : ℕ) (heard : Heard) (visits : List Visit) : Type 0 where
  pub once : EachOnce visits
  pub asked : Within visits (visits_told heard)
  pub small : heard.large ≡ None
  pub closure : (answers : AnalysisAnswers) (is_large : Visit → Bool) → HeardIsTrueOf answers is_large heard → IsClosureFor answers job visits
  pub accepted : (answers : AnalysisAnswers) (is_large : Visit → Bool) → HeardIsTrueOf answers is_large heard → (refusal : Refusal) → IsMet refusal answers job budget visits → ⊥
  pub located : (answers : AnalysisAnswers) (is_large : Visit → Bool) → HeardIsTrueOf answers is_large heard → (l : Located) → IsKnownSearch answers job visits l ↔ Member l (located_told heard)

-- the answer that it is refused: it is met at every closed list, so at the closure
abbrev pub RefusedMeans : JobData → ℕ → Heard → Refusal → Type 0
RefusedMeans job budget heard refusal =
    (answers : AnalysisAnswers) (is_large : Visit → Bool) → HeardIsTrueOf answers is_large heard → (visits : List Visit) → IsClosedFor answers job visits → IsMet refusal answers job budget visits

-- a too large file that was told is that of a visit of every closed list
abbrev pub LargeMeans : JobData → Heard → Type 0
LargeMeans job heard =
    (answers : AnalysisAnswers) (is_large : Visit → Bool) → HeardIsTrueOf answers is_large heard → (other : List Visit) → IsClosedFor answers job other
    → (visit : Visit) × Member visit other × (is_large visit ≡ true)

-- a question that wasn't asked before, and that may be asked
pub record IsNewSearch (job : JobData) (heard : Heard) (ask : Ask) : Type 0 where
  pub fresh : WasSearched heard ask → ⊥
  pub form : NeedsFrom ask.form ask.from

-- a visit whose sheet wasn't asked for before, of every closed list
pub record IsNewSheet (job : JobData) (heard : Heard) (visit : Visit) : Type 0 where
  pub fresh : Member visit (visits_told heard) → ⊥
  pub wanted : (answers : AnalysisAnswers) (is_large : Visit → Bool) → HeardIsTrueOf answers is_large heard → (other : List Visit) → IsClosedFor answers job other → Member visit other
