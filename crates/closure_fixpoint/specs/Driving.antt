-- The analysis of a job over a tree: what an analysis was told of the tree, and how it ends.
use Rattle.std.specs.Prelude.{◌≡◌, All, ℕ, Bool, false, IsTrue, length, nat_lt, List, Option, None, Some}
use Rattle.tree_model.specs.Paths.{Path, IsCanonical}
use Rattle.base_types.specs.Limits.{body_limit}
use Rattle.tree_model.specs.Trees.{FileTree}
use Rattle.search_path.specs.declared.asking.Visit.{Visit}
use Rattle.job_words.specs.JobOf.{JobData}
use Rattle.sheet_build.specs.Sheet.{body_of_place}
use Rattle.closure_fixpoint.specs.declared.job_analysis.Refusal.{Refusal}
use Rattle.closure_fixpoint.specs.declared.job_analysis.Ending.{Ending}
use Rattle.closure_fixpoint.specs.declared.job_analysis.Ending.TheVariants as ending
use Rattle.closure_fixpoint.specs.Closure.{answers_of}
use Rattle.closure_fixpoint.specs.Progress.{Heard, HeardIsTrueOf, DoneMeans, located_told}
use Rattle.closure_fixpoint.specs.Told.{Progress, AreNodesOf, RefusalMeans}
use Rattle.closure_fixpoint.specs.Gathering.{are_rising}

-- a visit's file is too large
abbrev pub is_large_in : FileTree → Visit → Bool
is_large_in tree visit = nat_lt body_limit (length (body_of_place tree visit.place))

-- all that was told is true of a tree
abbrev pub IsTrueIn : FileTree → JobData → Heard → Type 0
IsTrueIn tree job heard = HeardIsTrueOf (answers_of tree job) (is_large_in tree) heard

-- an analysis of this job with this budget, which was told what is true of a tree
pub record IsOfTree (tree : FileTree) (job : JobData) (budget : ℕ) (p : Progress) : Type 0 where
  pub job_is : p.job ≡ job
  pub budget_is : p.budget ≡ budget
  pub told : IsTrueIn tree job p.heard

-- it is, unless memory was wanting
abbrev pub IsOfTreeUnlessBroken : FileTree → JobData → ℕ → Progress → Type 0
IsOfTreeUnlessBroken tree job budget p = p.broken ≡ false → IsOfTree tree job budget p

-- the end of an analysis that was told what is true of a tree: the closure and its nodes, in order of their spellings
pub record IsDoneIn (tree : FileTree) (job : JobData) (budget : ℕ) (visits : List Visit) (nodes : List Path) : Type 0 where
  pub heard : Heard
  pub is_true : IsTrueIn tree job heard
  pub done : DoneMeans job budget heard visits
  pub nodes_are : AreNodesOf (located_told heard) nodes
  pub rising : IsTrue (are_rising nodes)

-- or a refusal
pub record IsRefusedIn (tree : FileTree) (job : JobData) (budget : ℕ) (refusal : Refusal) : Type 0 where
  pub heard : Heard
  pub is_true : IsTrueIn tree job heard
  pub means : RefusalMeans job budget heard refusal

abbrev pub EndsSo : FileTree → JobData → ℕ → Ending → Type 0
EndsSo tree job budget (ending.Done closure) = IsDoneIn tree job budget closure.visits closure.nodes
EndsSo tree job budget (ending.Refused refusal) = IsRefusedIn tree job budget refusal

-- a step goes on, or it is the last
abbrev pub StepsSo : FileTree → JobData → ℕ → Progress → Option Ending → Type 0
StepsSo tree job budget p None = IsOfTreeUnlessBroken tree job budget p
StepsSo tree job budget p (Some end) = EndsSo tree job budget end

-- the nodes of an end are canonical
abbrev pub HasCanonicalNodes : Ending → Type 0
HasCanonicalNodes (ending.Done closure) = All IsCanonical closure.nodes
HasCanonicalNodes (ending.Refused refusal) = Unit {0}
