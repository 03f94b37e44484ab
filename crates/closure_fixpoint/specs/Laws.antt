-- Laws of closures.
use Rattle.std.specs.Prelude.{◌↔◌, List}
use Rattle.base_types.specs.Members.{Member, Within}
use Rattle.tree_model.specs.Paths.{Path}
use Rattle.tree_model.specs.Entries.{Entries}
use Rattle.tree_model.specs.Trees.{FileTree, IsTree}
use Rattle.search_path.specs.declared.asking.Visit.{Visit}
use Rattle.job_words.specs.JobOf.{JobData}
use Rattle.job_words.specs.declared.job.Job.{Job}
use Rattle.closure_fixpoint.specs.Closure.{IsClosureOf}
use Rattle.closure_fixpoint.specs.Analysis.{IsNodeOf, AreEntriesOf}
use Rattle.closure_fixpoint.specs.Gathering.{AreGathered}

-- each job over a tree has a closure
abbrev pub ClosuresExist : Type 0
ClosuresExist = (tree : FileTree) (job : JobData) → IsTree tree → (visits : List Visit) × IsClosureOf tree job visits

-- closures of one job have the same members
abbrev pub ClosuresAreOne : Type 0
ClosuresAreOne = (tree : FileTree) (job : JobData) (one other : List Visit) → IsClosureOf tree job one → IsClosureOf tree job other → Within one other

-- what is gathered of the nodes of a job are its entries
abbrev pub GatheredAreSent : Type 0
GatheredAreSent = (tree : FileTree) (job : Job) (nodes : List Path) (entries : Entries) → IsTree tree → ((path : Path) → Member path nodes ↔ IsNodeOf tree job path)
    → AreGathered tree nodes entries → AreEntriesOf tree job entries
