-- The works of a run: what is recorded of each job beside what it did at its client's end, and what the ends of the clients
-- have of them.
use Rattle.std.specs.Prelude.{◌≡◌, ℕ, suc, ◌+◌, ◌-◌, ◌^◌, ◌≤◌, ◌⊎◌, List, [], ◌∷◌, ◌++◌, Bool, true, false, Some, IfSome, ◌==◌}
use Rattle.std.specs.List.{flat_map, filter, count_by, sum_by, AllByRecursion}
use Rattle.base_types.specs.Causes.{Rose}
use Rattle.base_types.specs.Members.{Member}
use Rattle.base_types.specs.Told.{added}
use Rattle.tree_model.specs.Trees.{FileTree}
use Rattle.job_words.specs.declared.job.Job.{Job}
use Rattle.io_edges.specs.declared.wire.Exchange.{Exchange}
use Rattle.io_edges.specs.declared.wire.Host.{Host}
use Rattle.io_edges.specs.declared.wire.LinkState.TheVariants.{Closed}
use Rattle.daemon_cpp.specs.Prep.{outcome_over}
use Rattle.job_ends.specs.declared.record.Done.{Done}
use Rattle.job_ends.specs.declared.record.Way.{Way}
use Rattle.job_ends.specs.declared.record.Way.TheVariants.{Remote, Local, Broken}
use Rattle.job_ends.specs.declared.record.Cause.TheVariants as cause
use Rattle.job_ends.specs.declared.record.JobOutcome.{JobOutcome}
use Rattle.job_ends.specs.declared.record.JobOutcome.TheVariants as end
use Rattle.job_ends.specs.Outside.{EndSeen}
use Rattle.job_ends.specs.Record.{Counts, Deeds, Known, IsRecord, counts_of}
use Rattle.job_ends.specs.Agree.{AreServed, AreStill, AgreesWith, IsCalm, is_peer}
use Rattle.job_ends.specs.Looks.{SheetCall, LooksFor}

-- a job of the run: what is recorded of it, what it did at its client's end, its calls on the memo of sheets, and a bound on its
-- reads of the tree
pub record Work : Type 0 where
  pub done : Done
  pub deeds : Deeds
  pub calls : List SheetCall
  pub reads : ℕ

-- ---- tests of ways and outcomes ----

abbrev pub is_link_fault : Way → Bool
is_link_fault (Local cause.Link) = true
is_link_fault (Local (cause.Analysis refused)) = false
is_link_fault (Local cause.Peer) = false
is_link_fault (Local cause.DaemonMemory) = false
is_link_fault (Local cause.Memory) = false
is_link_fault Remote = false
is_link_fault Broken = false

abbrev pub is_memory : JobOutcome → Bool
is_memory (end.Text n) = false
is_memory (end.Diag words) = false
is_memory end.TreeFault = false
is_memory end.OutFault = false
is_memory end.Memory = true

abbrev pub is_out_fault : JobOutcome → Bool
is_out_fault (end.Text n) = false
is_out_fault (end.Diag words) = false
is_out_fault end.TreeFault = false
is_out_fault end.OutFault = true
is_out_fault end.Memory = false

abbrev pub is_tree_fault : JobOutcome → Bool
is_tree_fault (end.Text n) = false
is_tree_fault (end.Diag words) = false
is_tree_fault end.TreeFault = true
is_tree_fault end.OutFault = false
is_tree_fault end.Memory = false

abbrev pub is_diag : JobOutcome → Bool
is_diag (end.Text n) = false
is_diag (end.Diag words) = true
is_diag end.TreeFault = false
is_diag end.OutFault = false
is_diag end.Memory = false

-- ---- the ends ----

-- an end that wasn't used yet
pub record IsFresh (seen : EndSeen) : Type 0 where
  pub closed : seen.state ≡ Closed
  pub no_talk : IfSome seen.talk (λ talk. talk ≡ [])
  pub no_outs : IfSome seen.kept (λ kept. kept ≡ [])
  pub no_tree_fault : seen.tree_faults ≡ 0
  pub no_wire_fault : seen.wire_faults ≡ 0
  pub no_outs_fault : seen.outs_faults ≡ 0

-- the jobs of one client, in order of job number
abbrev pub works_of : ℕ → List Work → List Work
works_of client works = filter (λ (w : Work). w.done.client == client) works

-- so many faults are at most what the count rose by, where it doesn't stand at its last value
abbrev pub AtMost : ℕ → ℕ → ℕ → Type 0
AtMost faults before after = (before + faults ≤ after) ⊎ (2 ^ 64 - 1 ≤ after)

-- no count of an end is lower than before
pub record NotBelow (from now : Counts) : Type 0 where
  pub tree : from.tree ≤ now.tree
  pub wire : from.wire ≤ now.wire
  pub outs : from.outs ≤ now.outs

-- the counts go up or stay, inside each job and between jobs
abbrev pub Chain : Counts → List Work → Counts → Type 0
Chain from [] now = NotBelow from now
Chain from (w ∷ works) now = NotBelow from w.deeds.before × (NotBelow w.deeds.before w.deeds.after × Chain w.deeds.after works now)

-- one client's end: its outs and its talk are what its jobs added, in order, its counts bound its faults, and its tree was read
-- at most as often as its jobs may have read it
pub record EndHolds (works : List Work) (before after : EndSeen) : Type 0 where
  pub outs : after.kept ≡ added (flat_map (λ (w : Work). w.deeds.put) works) before.kept
  pub talk : after.talk ≡ added (flat_map (λ (w : Work). w.deeds.exchanges) works) before.talk
  pub tree : after.told ≡ before.told
  pub link_bound : AtMost (count_by (λ (w : Work). is_link_fault w.done.way) works) before.wire_faults after.wire_faults
  pub tree_bound : AtMost (count_by (λ (w : Work). is_tree_fault w.done.outcome) works) before.tree_faults after.tree_faults
  pub outs_bound : AtMost (count_by (λ (w : Work). is_out_fault w.done.outcome) works) before.outs_faults after.outs_faults
  pub chain : Chain (counts_of before) works (counts_of after)
  pub reads : after.reads ≤ before.reads + sum_by (λ (w : Work). w.reads) works

-- each end by its number, from client on
abbrev pub EachEnd : ℕ → List Work → List EndSeen → List EndSeen → Type 0
EachEnd client works [] [] = Unit {0}
EachEnd client works [] (now ∷ after) = ⊥
EachEnd client works (old ∷ before) [] = ⊥
EachEnd client works (old ∷ before) (now ∷ after) = EndHolds (works_of client works) old now × EachEnd (suc client) works before after

-- each exchange went to one of the hosts
abbrev pub ToHosts : List Host → List Work → Type 0
ToHosts hosts works = AllByRecursion (λ (w : Work). AllByRecursion (λ (e : Exchange). Member e.host hosts) w.deeds.exchanges) works

-- ---- the records ----

-- one record for each job, in order from number k on
abbrev pub EachRecord : Known → ℕ → List Job → List Work → Type 0
EachRecord known k [] [] = Unit {0}
EachRecord known k [] (w ∷ works) = ⊥
EachRecord known k (job ∷ jobs) [] = ⊥
EachRecord known k (job ∷ jobs) (w ∷ works) = (w.done.job ≡ k) × (IsRecord known job w.done w.deeds × EachRecord known (suc k) jobs works)

-- each job's calls on the memo, and its reads, are those of its way
abbrev pub EachLooks : Known → List Job → List Work → Type 0
EachLooks known (job ∷ jobs) (w ∷ works) = LooksFor known job w.calls w.reads w.deeds.exchanges w.done.way × EachLooks known jobs works
EachLooks known [] works = Unit {0}
EachLooks known (job ∷ jobs) [] = Unit {0}

-- ---- where hosts answer as daemons do ----

-- the end tells its talk, and each exchange of it was answered as the daemon answers
pub record TalkIsServed (seen : EndSeen) : Type 0 where
  pub talk : List Exchange
  pub told : seen.talk ≡ Some talk
  pub served : AreServed talk

abbrev pub EachServed : List EndSeen → Type 0
EachServed ends = AllByRecursion TalkIsServed ends

-- What a job's work says then: the outcome agrees with what preprocessing gives over the whole tree; the job wasn't done
-- locally for what its host answered; and where no count rose in the job, whatever befell others, it was remote, or
-- local by its analysis or for want of memory.
pub record JobAgrees (tree : FileTree) (job : Job) (w : Work) : Type 0 where
  pub outcome : AgreesWith (outcome_over tree job) w.done.outcome w.deeds.put job
  pub no_peer : is_peer w.done.way ≡ false
  pub calm : AreStill w.deeds.before w.deeds.after → IsCalm w.done.way w.done.outcome

abbrev pub EachAgrees : FileTree → List Job → List Work → Type 0
EachAgrees tree (job ∷ jobs) (w ∷ works) = JobAgrees tree job w × EachAgrees tree jobs works
EachAgrees tree [] works = Unit {0}
EachAgrees tree (job ∷ jobs) [] = Unit {0}

-- no count of these ends rose
abbrev pub EachCalm : List EndSeen → List EndSeen → Type 0
EachCalm [] after = Unit {0}
EachCalm (old ∷ before) [] = Unit {0}
EachCalm (old ∷ before) (now ∷ after) =
    (Rose old.tree_faults now.tree_faults → ⊥) × ((Rose old.wire_faults now.wire_faults → ⊥) × ((Rose old.outs_faults now.outs_faults → ⊥) × EachCalm before after))
