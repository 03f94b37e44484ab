-- What a job's record says of the whole tree, where hosts answer as daemons do: its outcome is that of preprocessing over
-- the whole tree, and unless something failed only the analysis or want of memory has a job done locally.
use Rattle.std.specs.Prelude.{◌≡◌, ℕ, List, [], ◌∷◌, length, Bool, true, false, Some, IsTrue}
use Rattle.std.specs.List.{AllByRecursion}
use Rattle.base_types.specs.Causes.{Rose}
use Rattle.tree_model.specs.Entries.{Entries, makes_tree}
use Rattle.tree_model.specs.Trees.{FileTree, IsTree, tree_of}
use Rattle.job_words.specs.declared.job.Job.{Job}
use Rattle.job_words.specs.Words.{IsJob}
use Rattle.io_edges.specs.declared.wire.Exchange.{Exchange}
use Rattle.io_edges.specs.Talk.{IsAnswered}
use Rattle.job_frames.specs.Daemon.{Daemon}
use Rattle.daemon_cpp.specs.declared.outcome.Outcome.{Outcome}
use Rattle.daemon_cpp.specs.declared.outcome.Outcome.TheVariants as outcome
use Rattle.daemon_cpp.specs.Prep.{outcome_over}
use Rattle.daemon_answers.specs.Answers.{Answers}
use Rattle.closure_fixpoint.specs.Analysis.{AreEntriesOf, NothingHolds}
use Rattle.job_ends.specs.declared.record.Done.{Done}
use Rattle.job_ends.specs.declared.record.Way.{Way}
use Rattle.job_ends.specs.declared.record.Way.TheVariants.{Remote, Local, Broken}
use Rattle.job_ends.specs.declared.record.Cause.TheVariants as cause
use Rattle.job_ends.specs.declared.record.JobOutcome.{JobOutcome}
use Rattle.job_ends.specs.declared.record.JobOutcome.TheVariants as end
use Rattle.job_ends.specs.Record.{Counts, Deeds, IsRecord, known}

-- ---- what a daemon answers ----

-- each exchange was answered as the daemon answers
abbrev pub AreServed : List Exchange → Type 0
AreServed exchanges = AllByRecursion (IsAnswered (Daemon Answers)) exchanges

-- ---- what is asked of the analysis ----

-- The entries of a job of which no refusal holds make a tree, over which the job has the outcome that it has over the whole
-- tree. (It follows from the law that joins the analysis and preprocessing.)
abbrev pub EntriesAreEnough : Type 0
EntriesAreEnough = (tree : FileTree) (job : Job) (budget : ℕ) (entries : Entries) → IsTree tree → NothingHolds tree job budget → AreEntriesOf tree job entries
    → IsTrue (makes_tree entries) × (outcome_over (tree_of entries) job ≡ outcome_over tree job)

-- ---- the headline, for one job ----

-- the outcome is what preprocessing gives: its text was put under the job's output name, or its diagnostic is recorded.
-- The other outcomes say nothing of it.
abbrev pub AgreesWith : Outcome → JobOutcome → List (List ℕ × List ℕ) → Job → Type 0
AgreesWith o (end.Text n) put job = (body : List ℕ) × (length body ≡ n) × (o ≡ outcome.Text body) × (put ≡ (job.output, body) ∷ [])
AgreesWith o (end.Diag words) put job = (o ≡ outcome.Diag words) × (put ≡ [])
AgreesWith o end.TreeFault put job = Unit {0}
AgreesWith o end.OutFault put job = Unit {0}
AgreesWith o end.Memory put job = Unit {0}

-- a job over a named tree, whose host answered as a daemon
pub record Served (tree : FileTree) (budget : ℕ) (job : Job) (done : Done) (deeds : Deeds) : Type 0 where
  pub whole : IsTree tree
  pub job_is : IsJob job
  pub recorded : IsRecord (known (Some tree) budget) job done deeds
  pub served : AreServed deeds.exchanges

-- each outcome is that of preprocessing over the whole tree
abbrev pub RecordsAgree : Type 0
RecordsAgree = (tree : FileTree) (budget : ℕ) (job : Job) (done : Done) (deeds : Deeds) → Served tree budget job done deeds → AgreesWith (outcome_over tree job) done.outcome deeds.put job

-- ---- what a host's answer is never ----

-- done locally for what the host answered, which was no reply or a refusal for another reason than want of memory
abbrev pub is_peer : Way → Bool
is_peer (Local cause.Peer) = true
is_peer (Local (cause.Analysis refused)) = false
is_peer (Local cause.Link) = false
is_peer (Local cause.DaemonMemory) = false
is_peer (Local cause.Memory) = false
is_peer Remote = false
is_peer Broken = false

-- no job is done locally for what a daemon answered, whatever else failed
abbrev pub NoPeers : Type 0
NoPeers = (tree : FileTree) (budget : ℕ) (job : Job) (done : Done) (deeds : Deeds) → Served tree budget job done deeds → is_peer done.way ≡ false

-- ---- completeness, for one job ----

-- no count rose in the job
pub record AreStill (before after : Counts) : Type 0 where
  pub tree : Rose before.tree after.tree → ⊥
  pub wire : Rose before.wire after.wire → ⊥
  pub outs : Rose before.outs after.outs → ⊥

-- the outcome is no fault
abbrev pub IsNoFault : JobOutcome → Type 0
IsNoFault (end.Text n) = Unit {0}
IsNoFault (end.Diag words) = Unit {0}
IsNoFault end.TreeFault = ⊥
IsNoFault end.OutFault = ⊥
IsNoFault end.Memory = Unit {0}

-- remote, or refused by the analysis, or for want of memory, and no fault
abbrev pub IsCalm : Way → JobOutcome → Type 0
IsCalm Remote result = IsNoFault result
IsCalm (Local (cause.Analysis refused)) result = IsNoFault result
IsCalm (Local cause.Link) result = ⊥
IsCalm (Local cause.Peer) result = ⊥
IsCalm (Local cause.DaemonMemory) result = IsNoFault result
IsCalm (Local cause.Memory) result = IsNoFault result
IsCalm Broken result = ⊥

-- where no count rose, each job is calm
abbrev pub RecordsAreCalm : Type 0
RecordsAreCalm = (tree : FileTree) (budget : ℕ) (job : Job) (done : Done) (deeds : Deeds) → Served tree budget job done deeds → AreStill deeds.before deeds.after → IsCalm done.way done.outcome
