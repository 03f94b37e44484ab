-- What a record of a job says of its client's end: the table of ways and the table of outcomes.
use Rattle.std.specs.Prelude.{◌≡◌, ℕ, ◌≤◌, ◌⊎◌, List, [], ◌∷◌, ◌++◌, length, Bool, true, Option}
use Rattle.std.specs.Option.{ForSome}
use Rattle.tree_model.specs.Trees.{FileTree}
use Rattle.job_words.specs.declared.job.Job.{Job}
use Rattle.io_edges.specs.declared.wire.Exchange.{Exchange}
use Rattle.job_frames.specs.declared.answer.Answer.{Answer}
use Rattle.job_frames.specs.declared.answer.Answer.TheVariants as answer
use Rattle.job_frames.specs.Spelling.{reply_bytes, IsAnswer}
use Rattle.base_types.specs.Causes.{Rose}
use Rattle.base_types.specs.Told.{added}
use Rattle.std.specs.List.{AllByRecursion}
use Rattle.io_edges.specs.declared.wire.Host.{Host}
use Rattle.job_ends.specs.Outside.{EndSeen}
use Rattle.job_ends.specs.declared.record.Done.{Done}
use Rattle.daemon_cpp.specs.declared.outcome.Outcome.{Outcome}
use Rattle.daemon_cpp.specs.declared.outcome.Outcome.TheVariants as outcome
use Rattle.job_ends.specs.declared.record.Way.{Way}
use Rattle.job_ends.specs.declared.record.Way.TheVariants.{Remote, Local, Broken}
use Rattle.job_ends.specs.declared.record.Cause.TheVariants as cause
use Rattle.job_ends.specs.declared.record.JobOutcome.{JobOutcome}
use Rattle.job_ends.specs.declared.record.JobOutcome.TheVariants as end
use Rattle.daemon_cpp.specs.Prep.{outcome_over}
use Rattle.daemon_answers.specs.Answers.{carried}
use Rattle.closure_fixpoint.specs.Analysis.{IsRequestOf, Holds, NothingHolds}

-- the three counts of faults of an end
pub record Counts : Type 0 where
  pub tree : ℕ
  pub wire : ℕ
  pub outs : ℕ

-- what a job did at its client's end: the exchanges and the outputs that it added, and the counts before it and after it
pub record Deeds : Type 0 where
  pub exchanges : List Exchange
  pub put : List (List ℕ × List ℕ)
  pub before : Counts
  pub after : Counts

-- what is known of all jobs: the tree that is named, if one is, the budget, and what preprocessing gives over a tree
pub record Known : Type 0 where
  pub named : Option FileTree
  pub budget : ℕ
  pub gives : FileTree → Job → Outcome

abbrev pub known : Option FileTree → ℕ → Known
known named budget = record { named = named; budget = budget; gives = outcome_over }

-- a fact of the named tree, where there is one
abbrev pub OfTree : Known → (FileTree → Type 0) → Type 0
OfTree known P = ForSome known.named P

-- no refusal of the analysis holds of the job
abbrev pub NoneHolds : Known → Job → Type 0
NoneHolds known job = OfTree known (λ tree. NothingHolds tree job known.budget)

-- the job's request, over the named tree
abbrev pub IsRequestForJob : Known → Job → List ℕ → Type 0
IsRequestForJob known job sent = OfTree known (λ tree. IsRequestOf tree job sent)

-- a beginning of the job's request, over the named tree
abbrev pub BeginsRequest : Known → Job → List ℕ → Type 0
BeginsRequest known job sent = OfTree known (λ tree. (rest : List ℕ) × IsRequestOf tree job (sent ++ rest))

-- one exchange, that sent the whole request, and whose answer has P of (what was received, whether it ended)
abbrev pub Asked : Known → Job → List Exchange → (List ℕ → Bool → Type 0) → Type 0
Asked known job exchanges P =
    (e : Exchange) × (exchanges ≡ e ∷ []) × (e.finished ≡ true) × IsRequestForJob known job e.sent × P e.received e.ended

-- no exchange, or one that sent a beginning of the request
abbrev pub Tried : Known → Job → List Exchange → Type 0
Tried known job exchanges = (exchanges ≡ []) ⊎ ((e : Exchange) × (exchanges ≡ e ∷ []) × BeginsRequest known job e.sent)

-- the bytes begin no reply, or are no reply though they ended, or refuse for a reason from 2 to 9
abbrev pub IsNoAnswer : List ℕ → Bool → Type 0
IsNoAnswer received ended =
    ((a : Answer) (rest : List ℕ) → IsAnswer a → received ++ rest ≡ reply_bytes a → ⊥)
    ⊎ (((ended ≡ true) × ((a : Answer) → IsAnswer a → received ≡ reply_bytes a → ⊥))
    ⊎ ((n : ℕ) × (2 ≤ n) × (n ≤ 9) × (received ≡ reply_bytes (answer.Refused n))))

-- the table of ways
abbrev pub WayHolds : Known → Job → Deeds → Way → Type 0
WayHolds known job deeds Remote =
    Asked known job deeds.exchanges (λ received ended. (ended ≡ true) × ((o : Outcome) × IsAnswer (carried o) × (received ≡ reply_bytes (carried o))))
    × NoneHolds known job
WayHolds known job deeds (Local (cause.Analysis refusal)) =
    (deeds.exchanges ≡ []) × OfTree known (λ tree. Holds refusal tree job known.budget)
WayHolds known job deeds (Local cause.Link) =
    Tried known job deeds.exchanges × (NoneHolds known job × Rose deeds.before.wire deeds.after.wire)
WayHolds known job deeds (Local cause.Peer) =
    Asked known job deeds.exchanges IsNoAnswer × NoneHolds known job
WayHolds known job deeds (Local cause.DaemonMemory) =
    Asked known job deeds.exchanges (λ received ended. received ≡ reply_bytes (answer.Refused 1)) × NoneHolds known job
WayHolds known job deeds (Local cause.Memory) = Tried known job deeds.exchanges
WayHolds known job deeds Broken = (deeds.exchanges ≡ []) × Rose deeds.before.tree deeds.after.tree

-- the outcome is the reply's where the way is Remote, and else what preprocessing gives over the named tree
abbrev pub GivesOutcome : Known → Job → Deeds → Way → Outcome → Type 0
GivesOutcome known job deeds Remote o = Asked known job deeds.exchanges (λ received ended. IsAnswer (carried o) × (received ≡ reply_bytes (carried o)))
GivesOutcome known job deeds (Local cause) o = OfTree known (λ tree. known.gives tree job ≡ o)
GivesOutcome known job deeds Broken o = ⊥

-- the table of outcomes
abbrev pub OutcomeHolds : Known → Job → Deeds → Way → JobOutcome → Type 0
OutcomeHolds known job deeds way (end.Text n) =
    (body : List ℕ) × (length body ≡ n) × (deeds.put ≡ (job.output, body) ∷ []) × GivesOutcome known job deeds way (outcome.Text body)
OutcomeHolds known job deeds way (end.Diag words) = (deeds.put ≡ []) × GivesOutcome known job deeds way (outcome.Diag words)
OutcomeHolds known job deeds way end.TreeFault = (deeds.put ≡ []) × Rose deeds.before.tree deeds.after.tree
OutcomeHolds known job deeds way end.OutFault = (deeds.put ≡ []) × Rose deeds.before.outs deeds.after.outs
OutcomeHolds known job deeds way end.Memory = deeds.put ≡ []

-- a record says what the job did
pub record IsRecord (known : Known) (job : Job) (done : Done) (deeds : Deeds) : Type 0 where
  pub way : WayHolds known job deeds done.way
  pub outcome : OutcomeHolds known job deeds done.way done.outcome
  pub broken : done.way ≡ Broken → done.outcome ≡ end.TreeFault

-- what was done at an end from one moment to another: its exchanges and its outputs; what its tree tells stays, and no
-- count fell
pub record Did (exchanges : List Exchange) (put : List (List ℕ × List ℕ)) (from now : EndSeen) : Type 0 where
  pub talk : now.talk ≡ added exchanges from.talk
  pub kept : now.kept ≡ added put from.kept
  pub told : now.told ≡ from.told
  pub tree : from.tree_faults ≤ now.tree_faults
  pub wire : from.wire_faults ≤ now.wire_faults
  pub outs : from.outs_faults ≤ now.outs_faults

abbrev pub counts_of : EndSeen → Counts
counts_of e = record { tree = e.tree_faults; wire = e.wire_faults; outs = e.outs_faults }

abbrev pub deeds_of : List Exchange → List (List ℕ × List ℕ) → EndSeen → EndSeen → Deeds
deeds_of exchanges put from now = record { exchanges = exchanges; put = put; before = counts_of from; after = counts_of now }

-- A whole job at an end: what it did there, between the counts before it and those after it, its record, and that each
-- exchange was with this host.
pub record DidJob (known : Known) (job : Job) (host : Host) (done : Done) (from now : EndSeen) : Type 0 where
  pub exchanges : List Exchange
  pub put : List (List ℕ × List ℕ)
  pub did : Did exchanges put from now
  pub recorded : IsRecord known job done (deeds_of exchanges put from now)
  pub host_is : AllByRecursion (λ (e : Exchange). e.host ≡ host) exchanges
