-- What a daemon preprocesses over, the tree of the entries that it was sent, is enough.
use Rattle.std.specs.Prelude.{◌≡◌, ℕ, [], List, IsTrue}
use Rattle.base_types.specs.Members.{Member}
use Rattle.tree_model.specs.Paths.{Path}
use Rattle.tree_model.specs.Entries.{Entries, makes_tree}
use Rattle.tree_model.specs.Trees.{FileTree, IsTree, Sub, tree_of}
use Rattle.tree_model.specs.declared.walk.Located.{Located}
use Rattle.search_path.specs.declared.asking.Visit.{Visit}
use Rattle.job_words.specs.declared.job.Job.{Job}
use Rattle.daemon_cpp.specs.Prep.{prep, world_of}
use Rattle.closure_fixpoint.specs.Closure.{IsClosureOf, HasLong, HasPresumed, answers_of}
use Rattle.closure_fixpoint.specs.Analysis.{AreEntriesOf, IsNodeOf, NothingHolds}

-- the entries of a job make a tree, each of whose nodes is one of the whole tree
abbrev pub EntriesMakeTree : Type 0
EntriesMakeTree = (tree : FileTree) (job : Job) (entries : Entries) → IsTree tree → AreEntriesOf tree job entries
    → IsTrue (makes_tree entries) × Sub (tree_of entries) tree

-- no choice of definitions of a computed target is too long, or uses a presumed line or name that isn't known
pub record IsAnalysed (tree : FileTree) (job : Job) : Type 0 where
  pub short : (visits : List Visit) → IsClosureOf tree job visits → HasLong (answers_of tree job) job visits → ⊥
  pub told : (visits : List Visit) → IsClosureOf tree job visits → HasPresumed (answers_of tree job) job visits → ⊥

-- over the tree of its entries a job that is analysed has the same outcome, the same searches that succeed and the same opened
-- files as over the whole tree
abbrev pub MirrorIsEnough : Type 0
MirrorIsEnough = (tree : FileTree) (job : Job) (entries : Entries) → IsTree tree → AreEntriesOf tree job entries → IsAnalysed tree job
    → prep (world_of (tree_of entries) job.setup) job ≡ prep (world_of tree job.setup) job

-- each node but the root that is walked by a search that succeeds in preprocessing is a node of the job
abbrev pub TouchesNodesAlone : Type 0
TouchesNodesAlone = (tree : FileTree) (job : Job) → IsTree tree → IsAnalysed tree job
    → (located : Located) → Member located (prep (world_of tree job.setup) job).touched
    → (path : Path) → Member path located.walked → (path ≡ [] → ⊥) → IsNodeOf tree job path

-- where nothing refuses a job it is analysed
abbrev pub NothingHoldsAnalysed : Type 0
NothingHoldsAnalysed = (tree : FileTree) (job : Job) (budget : ℕ) → NothingHolds tree job budget → IsAnalysed tree job
