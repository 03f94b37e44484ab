-- What an analysis does next.
use Rattle.std.specs.Prelude.{◌≡◌, ◌<◌, ℕ, Bool, true, false, List, Option, None, Some, All, IsTrue, length, take}
use Rattle.std.specs.List.{slice_get}
use Rattle.base_types.specs.Members.{Member}
use Rattle.search_path.specs.Search.{Hit}
use Rattle.search_path.specs.declared.asking.Visit.{Visit}
use Rattle.search_path.specs.declared.asking.Ask.{Ask}
use Rattle.job_words.specs.JobOf.{JobData}
use Rattle.closure_fixpoint.specs.declared.plan.Plan.{Plan}
use Rattle.closure_fixpoint.specs.declared.plan.Plan.TheVariants as plan
use Rattle.tree_model.specs.Paths.{IsCanonical}
use Rattle.closure_fixpoint.specs.declared.fixpoint.Closure.{Closure}
use Rattle.closure_fixpoint.specs.declared.fixpoint.Next.{Next}
use Rattle.closure_fixpoint.specs.declared.fixpoint.Next.TheVariants as next
use Rattle.closure_fixpoint.specs.Progress.{Heard, FoundKeeps, PlainAreFound, visits_told, located_told, IsEnough, IsAccepted, IsNewSheet}
use Rattle.closure_fixpoint.specs.Gathering.{are_rising}
use Rattle.closure_fixpoint.specs.Targets.{IsNextWant}
use Rattle.closure_fixpoint.specs.Told.{RefusalMeans, Progress, OfSheet, AreNodesOf, HasNoMemory}

-- what was told and found so far, where nothing failed
pub record IsReady (job : JobData) (heard : Heard) (found : List Visit) : Type 0 where
  pub keeps : FoundKeeps job heard found
  pub in_order : visits_told heard ≡ take (length heard.sheets) found
  pub plain : PlainAreFound heard found

-- the answer to an ask that was told, with whether it is that nothing was found
abbrev pub IsMissing : List (Ask × Option Hit) → Ask → Bool → Type 0
IsMissing searches ask true = Member (ask, None) searches
IsMissing searches ask false = (hit : Hit) × Member (ask, Some hit) searches

-- a search or a visit that is wanted; that there is a visit whose sheet wasn't told; a refusal that holds; or that nothing is left to
-- ask, and no refusal is met
abbrev pub PlanMeans : JobData → ℕ → Heard → List Visit → Plan → Type 0
PlanMeans job budget heard found (plan.Want want) = IsNextWant job heard found want
PlanMeans job budget heard found plan.Sheet = length heard.sheets < length found
PlanMeans job budget heard found (plan.Refuse refusal) = RefusalMeans job budget heard refusal
PlanMeans job budget heard found plan.Done = IsEnough job heard found × IsAccepted job budget heard found

-- the answer that the next sheet is wanted, or that memory is wanting
abbrev pub AsksNext : Progress → Next → Progress → Type 0
AsksNext old (next.Sheet visit) new =
    IsNewSheet old.job old.heard visit × (slice_get old.found (length old.heard.sheets) ≡ Some visit) × (new ≡ record old { pending = OfSheet visit })
AsksNext old next.Memory new = HasNoMemory new
AsksNext old _ new = ⊥

-- the visits found, and the nodes of all searches that succeeded, in order of their spellings
pub record IsWhole (heard : Heard) (found : List Visit) (closure : Closure) : Type 0 where
  pub all : closure.visits ≡ found
  pub nodes_are : AreNodesOf (located_told heard) closure.nodes
  pub rising : IsTrue (are_rising closure.nodes)
  pub canonical : All IsCanonical closure.nodes
