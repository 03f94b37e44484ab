-- What an analysis sends, and why it is refused.
use Rattle.std.specs.Prelude.{◌≡◌, ◌⊎◌, ◌<◌, ℕ, List, [], length, None, Some}
use Rattle.base_types.specs.Members.{Member}
use Rattle.base_types.specs.Limits.{entry_limit, request_limit}
use Rattle.tree_model.specs.Paths.{Path, IsAtOrAbove}
use Rattle.tree_model.specs.Entries.{Entries, Increasing}
use Rattle.tree_model.specs.Trees.{FileTree, entry_at, IsTooLarge}
use Rattle.tree_model.specs.declared.walk.Located.{Located}
use Rattle.tree_model.specs.declared.entry.Entry.{Entry}
use Rattle.search_path.specs.Asks.{source_ask}
use Rattle.search_path.specs.Search.{search}
use Rattle.search_path.specs.declared.asking.Visit.{Visit}
use Rattle.job_words.specs.declared.job.Job.{Job}
use Rattle.job_frames.specs.Spelling.{request_bytes}
use Rattle.closure_fixpoint.specs.Closure.{IsClosureOf, IsKnownSearch, answers_of, IsMetAtClosure}
use Rattle.closure_fixpoint.specs.declared.job_analysis.Refusal.{Refusal}
use Rattle.closure_fixpoint.specs.declared.job_analysis.Refusal.TheVariants as refusal
use Rattle.closure_fixpoint.specs.declared.job_analysis.Analysed.{Analysed}
use Rattle.closure_fixpoint.specs.declared.job_analysis.Analysed.TheVariants as analysed

-- ---- the nodes, and the entries that are sent ----

-- a node of the job: one walked by a search that is known at the closure, or above one, and not the root
pub record IsNodeOf (tree : FileTree) (job : Job) (path : Path) : Type 0 where
  pub visits : List Visit
  pub closure : IsClosureOf tree job visits
  pub located : Located
  pub known : IsKnownSearch (answers_of tree job) job visits located
  pub met : Path
  pub walked : Member met located.walked
  pub above : IsAtOrAbove path met
  pub below_root : path ≡ [] → ⊥

-- just the nodes of the job with what the tree has there, in order of their paths' bytes
pub record AreEntriesOf (tree : FileTree) (job : Job) (entries : Entries) : Type 0 where
  pub increasing : Increasing entries
  pub nodes : (path : Path) (entry : Entry) → Member (path, entry) entries → IsNodeOf tree job path
  pub same : (path : Path) (entry : Entry) → Member (path, entry) entries → entry_at tree path ≡ Some entry
  pub whole : (path : Path) → IsNodeOf tree job path → (entry : Entry) × Member (path, entry) entries

-- the request of the job: that of its entries
abbrev pub IsRequestOf : FileTree → Job → List ℕ → Type 0
IsRequestOf tree job sent = (entries : Entries) × AreEntriesOf tree job entries × (sent ≡ request_bytes job entries)

-- ---- refusals ----

-- when a refusal holds of a job. `Large`: a file among the nodes has more than 16,777,216 bytes. `Request`: there are more
-- than 100,000 entries, or their request has more than 268,435,456 bytes. The others are met at the closure.
abbrev pub Holds : Refusal → FileTree → Job → ℕ → Type 0
Holds refusal.Budget tree job budget = IsMetAtClosure refusal.Budget tree job budget
Holds refusal.Long tree job budget = IsMetAtClosure refusal.Long tree job budget
Holds refusal.Presumed tree job budget = IsMetAtClosure refusal.Presumed tree job budget
Holds refusal.Visits tree job budget = IsMetAtClosure refusal.Visits tree job budget
Holds refusal.Large tree job budget = (path : Path) × IsNodeOf tree job path × IsTooLarge tree path
Holds refusal.Request tree job budget =
    (entries : Entries) × AreEntriesOf tree job entries × ((entry_limit < length entries) ⊎ (request_limit < length (request_bytes job entries)))
Holds refusal.NoSource tree job budget = search tree job.setup (source_ask job.source) ≡ None

abbrev pub NothingHolds : FileTree → Job → ℕ → Type 0
NothingHolds tree job budget = (refusal : Refusal) → Holds refusal tree job budget → ⊥

-- what an analysis answers: the job's request, where nothing is refused, or a refusal that holds
abbrev pub AnalysisHolds : FileTree → Job → ℕ → Analysed → Type 0
AnalysisHolds tree job budget (analysed.Request sent) = IsRequestOf tree job sent × NothingHolds tree job budget
AnalysisHolds tree job budget (analysed.Refused refusal) = Holds refusal tree job budget
