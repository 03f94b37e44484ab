-- What the steps of a job leave at the client's end: the analysis, the exchange, and the end of the job.
use Rattle.std.specs.Prelude.{◌≡◌, ◌≤◌, ◌⊎◌, ℕ, List, [], ◌∷◌, length, Bool, true, Option}
use Rattle.std.specs.List.{AllByRecursion}
use Rattle.std.specs.Option.{ForSome}
use Rattle.base_types.specs.Causes.{Rose}
use Rattle.base_types.specs.Told.{added}
use Rattle.tree_model.specs.Trees.{FileTree}
use Rattle.job_words.specs.declared.job.Job.{Job}
use Rattle.io_edges.specs.declared.wire.Exchange.{Exchange}
use Rattle.io_edges.specs.declared.wire.Host.{Host}
use Rattle.job_frames.specs.declared.answer.Answer.TheVariants as answer
use Rattle.job_frames.specs.Spelling.{IsAnswer, reply_bytes}
use Rattle.daemon_cpp.specs.declared.outcome.Outcome.{Outcome}
use Rattle.daemon_cpp.specs.declared.outcome.Outcome.TheVariants as outcome
use Rattle.daemon_cpp.specs.Prep.{outcome_over}
use Rattle.job_ends.specs.declared.record.Way.{Way}
use Rattle.job_ends.specs.declared.record.Way.TheVariants.{Remote, Local}
use Rattle.job_ends.specs.declared.record.Cause.TheVariants as cause
use Rattle.job_ends.specs.declared.record.JobOutcome.{JobOutcome}
use Rattle.job_ends.specs.declared.record.JobOutcome.TheVariants as end
use Rattle.job_ends.specs.declared.record.Done.{Done}
use Rattle.job_ends.specs.declared.asking.Replied.{Replied}
use Rattle.job_ends.specs.declared.asking.Replied.TheVariants as replied
use Rattle.job_ends.specs.declared.steps.Prepared.{Prepared}
use Rattle.job_ends.specs.declared.steps.Prepared.TheVariants as prepared
use Rattle.job_ends.specs.Exchange as exchange
use Rattle.job_ends.specs.Exchange.{Began}
use Rattle.job_ends.specs.Outside.{EndSeen}
use Rattle.job_ends.specs.Record.{Known, known, Deeds, DidJob, IsRequestForJob, NoneHolds, WayHolds, GivesOutcome, IsNoAnswer, Did, deeds_of}

-- ---- the analysis ----

-- what the analysis of a job comes to: its request, where nothing is refused; a cause to do the job locally, with no
-- exchange; or a failed tree
abbrev pub PreparedHolds : Known → Job → Deeds → Prepared → Type 0
PreparedHolds known job deeds (prepared.Request sent) = IsRequestForJob known job sent × NoneHolds known job
PreparedHolds known job deeds (prepared.Failed cause) = WayHolds known job deeds (Local cause)
PreparedHolds known job deeds prepared.Broken = Rose deeds.before.tree deeds.after.tree

-- the analysis made no exchange and put nothing
pub record Prepares (known : Known) (job : Job) (prepared : Prepared) (from now : EndSeen) : Type 0 where
  pub did : Did [] [] from now
  pub holds : PreparedHolds known job (deeds_of [] [] from now) prepared

-- ---- the exchange ----

-- what bytes that were received, to their end or not, say
abbrev pub Says : List ℕ → Bool → Replied → Type 0
Says received ended (replied.Text body) = (ended ≡ true) × IsAnswer (answer.Text body) × (received ≡ reply_bytes (answer.Text body))
Says received ended (replied.Diag words) = (ended ≡ true) × IsAnswer (answer.Diag words) × (received ≡ reply_bytes (answer.Diag words))
Says received ended (replied.Failed cause.DaemonMemory) = received ≡ reply_bytes (answer.Refused 1)
Says received ended (replied.Failed cause.Peer) = IsNoAnswer received ended
Says received ended (replied.Failed cause.Memory) = Unit {0}
Says received ended (replied.Failed cause.Link) = ⊥
Says received ended (replied.Failed (cause.Analysis refusal)) = ⊥

-- a link that failed, where its count rose, or want of memory
abbrev pub LinkFails : ℕ → ℕ → Replied → Type 0
LinkFails from to (replied.Failed cause.Link) = Rose from to
LinkFails from to (replied.Failed cause.Memory) = Unit {0}
LinkFails from to (replied.Failed cause.DaemonMemory) = ⊥
LinkFails from to (replied.Failed cause.Peer) = ⊥
LinkFails from to (replied.Failed (cause.Analysis refusal)) = ⊥
LinkFails from to (replied.Text body) = ⊥
LinkFails from to (replied.Diag words) = ⊥

-- what exchanges came to: one that sent the whole request to the host, and what was received says this; or at most one that
-- began to, and the link failed or there was no memory
abbrev pub CameTo : Host → List ℕ → ℕ → ℕ → Replied → List Exchange → Type 0
CameTo host request from to r exchanges =
    ((received : List ℕ) × (ended : Bool) × (exchanges ≡ exchange.replied host request received ended ∷ []) × Says received ended r)
    ⊎ (Began host request exchanges × LinkFails from to r)

-- a host was asked with a request over a wire: what was added to the talk came to this reply
pub record AsksWire (host : Host) (request : List ℕ) (before now : Option (List Exchange)) (from to : ℕ) (r : Replied) : Type 0 where
  pub exchanges : List Exchange
  pub talk : now ≡ added exchanges before
  pub later : from ≤ to
  pub came_to : CameTo host request from to r exchanges

-- a reply is a way: a text and a diagnostic are remote
abbrev pub way_of : Replied → Way
way_of (replied.Text body) = Remote
way_of (replied.Diag words) = Remote
way_of (replied.Failed cause) = Local cause

-- a text or a diagnostic is what the whole reply says
abbrev pub GivesReply : Known → Job → Deeds → Replied → Type 0
GivesReply known job deeds (replied.Text body) = GivesOutcome known job deeds Remote (outcome.Text body)
GivesReply known job deeds (replied.Diag words) = GivesOutcome known job deeds Remote (outcome.Diag words)
GivesReply known job deeds (replied.Failed cause) = Unit {0}

-- What the exchanges of a job came to: they were all with this host, the way of the reply holds, and the reply gives
-- what they say.
pub record IsSettled (known : Known) (job : Job) (host : Host) (replied : Replied) (from now : EndSeen) : Type 0 where
  pub exchanges : List Exchange
  pub did : Did exchanges [] from now
  pub way : WayHolds known job (deeds_of exchanges [] from now) (way_of replied)
  pub gives : GivesReply known job (deeds_of exchanges [] from now) replied
  pub host_is : AllByRecursion (λ (e : Exchange). e.host ≡ host) exchanges

-- a host was asked with a request: so every job is settled whose request it is, and of which no refusal holds
abbrev pub Asks : Host → List ℕ → EndSeen → EndSeen → Replied → Type 0
Asks host request from now replied = (known : Known) (job : Job) → IsRequestForJob known job request → NoneHolds known job → IsSettled known job host replied from now

-- ---- the end of a job ----

-- what an outcome says of what was put, where P holds of what was to be put or said
abbrev pub OutcomeOf : Job → EndSeen → EndSeen → List (List ℕ × List ℕ) → (Outcome → Type 0) → JobOutcome → Type 0
OutcomeOf job from now put P (end.Text n) = (body : List ℕ) × (length body ≡ n) × (put ≡ (job.output, body) ∷ []) × P (outcome.Text body)
OutcomeOf job from now put P (end.Diag words) = (put ≡ []) × P (outcome.Diag words)
OutcomeOf job from now put P end.TreeFault = (put ≡ []) × Rose from.tree_faults now.tree_faults
OutcomeOf job from now put P end.OutFault = (put ≡ []) × Rose from.outs_faults now.outs_faults
OutcomeOf job from now put P end.Memory = put ≡ []

-- the job ended with no exchange
pub record EndsWithoutExchange (job : Job) (P : Outcome → Type 0) (result : JobOutcome) (from now : EndSeen) : Type 0 where
  pub put : List (List ℕ × List ℕ)
  pub did : Did [] put from now
  pub outcome_is : OutcomeOf job from now put P result

-- a text is put under the job's output name, or it isn't, and the outcome says which
abbrev pub PutsText : Job → List ℕ → EndSeen → EndSeen → JobOutcome → Type 0
PutsText job text from now result = EndsWithoutExchange job (λ o. o ≡ outcome.Text text) result from now

-- the job is done over the end's own tree
abbrev pub DoesLocally : Option FileTree → Job → EndSeen → EndSeen → JobOutcome → Type 0
DoesLocally named job from now result = EndsWithoutExchange job (λ o. ForSome named (λ tree. outcome_over tree job ≡ o)) result from now

-- The end of a job whose exchanges are settled: whatever moment it began at, it is done with this host, and with no exchange more.
abbrev pub Concludes : Option FileTree → Job → Replied → EndSeen → EndSeen → Done → Type 0
Concludes named job replied before now done =
    (budget : ℕ) (host : Host) (from : EndSeen) (was : IsSettled (known named budget) job host replied from before)
    → (did : DidJob (known named budget) job host done from now) × (did.exchanges ≡ was.exchanges)
