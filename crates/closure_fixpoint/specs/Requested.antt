-- What is made of the end of an analysis: the request of its closure, and what a refusal means over a tree.
use Rattle.std.specs.Prelude.{ℕ, ◌+◌, ◌≤◌}
use Rattle.tree_model.specs.Entries.{Entries}
use Rattle.tree_model.specs.Trees.{FileTree, IsTree}
use Rattle.job_words.specs.declared.job.Job.{Job}
use Rattle.closure_fixpoint.specs.declared.job_analysis.Refusal.{Refusal}
use Rattle.closure_fixpoint.specs.declared.job_analysis.Analysed.{Analysed}
use Rattle.closure_fixpoint.specs.declared.job_analysis.Analysed.TheVariants as analysed
use Rattle.closure_fixpoint.specs.Analysis.{AreEntriesOf, Holds}
use Rattle.closure_fixpoint.specs.Gathering.{files_among}
use Rattle.closure_fixpoint.specs.Progress.{Heard}
use Rattle.closure_fixpoint.specs.Told.{RefusalMeans}
use Rattle.closure_fixpoint.specs.Driving.{IsTrueIn}

-- the count of reads rose by the number of files among the job's entries at most, where its request was made
abbrev pub ReadsEntries : FileTree → Job → ℕ → ℕ → Analysed → Type 0
ReadsEntries tree job before now (analysed.Request sent) = (entries : Entries) × AreEntriesOf tree job entries × (now ≤ before + files_among entries)
ReadsEntries tree job before now (analysed.Refused refusal) = Unit {0}

-- an analysis that was told what is true of a tree refuses the job only for what holds of it there
abbrev pub RefusalsHold : Type 0
RefusalsHold = (tree : FileTree) (job : Job) (budget : ℕ) (heard : Heard) (refusal : Refusal) → IsTree tree → IsTrueIn tree job heard → RefusalMeans job budget heard refusal
    → Holds refusal tree job budget
