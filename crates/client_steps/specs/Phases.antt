-- What is known of a client's end in each phase of the client. Nothing here mentions what clients share, so that no step of
-- another client can break it.
use Rattle.std.specs.Prelude.{◌≡◌, ◌⊎◌, ℕ, ◌+◌, ◌*◌, ◌-◌, ◌^◌, ◌<◌, ◌≤◌, List, [], ◌∷◌, ◌++◌, map, length, false, slice_get, Option, None, Some}
use Rattle.base_types.specs.Members.{Member}
use Rattle.tree_model.specs.Entries.{Entries}
use Rattle.job_words.specs.declared.job.Job.{Job}
use Rattle.io_edges.specs.declared.wire.Host.{Host}
use Rattle.closure_fixpoint.specs.Analysis.{AreEntriesOf}
use Rattle.job_ends.specs.Record.{Known, OfTree, Did, DidJob, deeds_of, IsRequestForJob, NoneHolds}
use Rattle.job_ends.specs.Steps.{IsSettled, way_of}
use Rattle.job_ends.specs.Outside.{EndSeen}
use Rattle.job_ends.specs.declared.record.Done.{Done}
use Rattle.job_ends.specs.declared.record.Cause.TheVariants as cause
use Rattle.job_ends.specs.declared.asking.Replied.{Replied}
use Rattle.job_ends.specs.declared.asking.Replied.TheVariants.{Failed}
use Rattle.search_path.specs.declared.asking.Visit.{Visit}
use Rattle.sheet_build.specs.Sheet.{SheetData}
use Rattle.sheet_build.specs.Keys.{key_of, IsRightFor}
use Rattle.sheet_build.specs.declared.keys.SheetKey.{SheetKey}
use Rattle.closure_fixpoint.specs.Closure.{InClosure}
use Rattle.closure_fixpoint.specs.Gathering.{files_among}
use Rattle.closure_fixpoint.specs.Progress.{visits_told}
use Rattle.closure_fixpoint.specs.Told.{Progress, OfSheet, NextMeans, SaysLarge}
use Rattle.closure_fixpoint.specs.Driving.{IsTrueIn}
use Rattle.closure_fixpoint.specs.declared.fixpoint.Next.{Next}
use Rattle.client_steps.specs.declared.phase.Phase.{Phase}
use Rattle.client_steps.specs.declared.phase.Phase.TheVariants.{Rests, Draws, Begins, Looks, Finds, Misses, Publishes, Goes, Wants, Takes, Calls, Gives, Concludes, Ended}
use Rattle.client_steps.specs.declared.need.Need.{Need}
use Rattle.client_steps.specs.declared.need.Need.TheVariants as need
use Rattle.client_steps.specs.declared.need.Reply.{Reply}
use Rattle.client_steps.specs.declared.need.Reply.TheVariants as reply
use Rattle.client_steps.specs.declared.phase.Advanced.{Advanced}
use Rattle.client_steps.specs.declared.phase.Advanced.TheVariants as adv
use Rattle.job_ends.specs.Looks.{SheetCall, LooksSo, LooksFor, LooksAll, looked, missed}
use Rattle.job_ends.specs.Works.{Work}

-- ---- an analysis at work ----

-- what the analysis was told is true
pub record IsSound (known : Known) (of : Job) (a : Progress) : Type 0 where
  pub job : a.job ≡ of
  pub budget : a.budget ≡ known.budget
  pub true_of : OfTree known (λ tree. IsTrueIn tree of a.heard)

-- the keys looked for are those of the sheets that the analysis was told, and then these
abbrev pub LookedFor : Job → Progress → List SheetKey → List SheetCall → Type 0
LookedFor of a more calls = looked calls ≡ map (key_of of.setup) (visits_told a.heard) ++ more

-- An analysis that may ask. Where a sheet was too large or memory was wanting, one key looked for may stay unpublished.
pub record IsGoing (known : Known) (of : Job) (a : Progress) (calls : List SheetCall) (from now : EndSeen) : Type 0 where
  pub open_keys : List SheetKey
  pub did : Did [] [] from now
  pub sound : a.broken ≡ false → IsSound known of a
  pub looks : LooksSo known of calls open_keys
  pub looked_for : a.broken ≡ false → a.heard.large ≡ None → LookedFor of a [] calls
  pub reads : now.reads ≤ from.reads + length (missed calls)
  pub few : length open_keys ≤ 1
  pub opened : a.broken ≡ false → a.heard.large ≡ None → open_keys ≡ []

-- the analysis waits for the sheet of this key
pub record Awaits (known : Known) (of : Job) (a : Progress) (key : SheetKey) : Type 0 where
  pub whole : a.broken ≡ false
  pub sound : IsSound known of a
  pub asked : a.pending ≡ OfSheet key.visit
  pub small : a.heard.large ≡ None
  pub own : key ≡ key_of of.setup key.visit

-- it is to be looked for
pub record IsLooking (known : Known) (of : Job) (a : Progress) (key : SheetKey) (calls : List SheetCall) (from now : EndSeen) : Type 0 where
  pub did : Did [] [] from now
  pub awaits : Awaits known of a key
  pub looks : LooksSo known of calls []
  pub looked_for : LookedFor of a [] calls
  pub reads : now.reads ≤ from.reads + length (missed calls)
  pub fresh : Member key (looked calls) → ⊥
  pub within : OfTree known (λ tree. InClosure tree of key.visit)

-- it was found in the memo
pub record HasFound (known : Known) (of : Job) (a : Progress) (key : SheetKey) (sheet : SheetData) (calls : List SheetCall) (from now : EndSeen) : Type 0 where
  pub did : Did [] [] from now
  pub awaits : Awaits known of a key
  pub looks : LooksSo known of calls []
  pub looked_for : LookedFor of a (key ∷ []) calls
  pub reads : now.reads ≤ from.reads + length (missed calls)
  pub right : OfTree known (λ tree. IsRightFor tree key sheet)

-- it wasn't found, and isn't built yet: one read is still to come
pub record HasMissed (known : Known) (of : Job) (a : Progress) (key : SheetKey) (calls : List SheetCall) (from now : EndSeen) : Type 0 where
  pub did : Did [] [] from now
  pub awaits : Awaits known of a key
  pub looks : LooksSo known of calls (key ∷ [])
  pub looked_for : LookedFor of a (key ∷ []) calls
  pub reads : now.reads + 1 ≤ from.reads + length (missed calls)

-- it was built, and is to be published
pub record IsPublishing (known : Known) (of : Job) (a : Progress) (key : SheetKey) (calls : List SheetCall) (from now : EndSeen) : Type 0 where
  pub did : Did [] [] from now
  pub sound : a.broken ≡ false → IsSound known of a
  pub looks : LooksSo known of calls (key ∷ [])
  pub looked_for : a.broken ≡ false → a.heard.large ≡ None → LookedFor of a [] calls
  pub reads : now.reads ≤ from.reads + length (missed calls)

-- ---- after the analysis ----

-- the request is ready, and no refusal holds
pub record RequestIsReady (known : Known) (of : Job) (bytes : List ℕ) (calls : List SheetCall) (from now : EndSeen) : Type 0 where
  pub did : Did [] [] from now
  pub request : IsRequestForJob known of bytes
  pub none : NoneHolds known of
  pub looks : LooksAll known of calls
  pub reads : OfTree known (λ tree. (entries : Entries) × AreEntriesOf tree of entries × (now.reads ≤ from.reads + (length (missed calls) + files_among entries)))

-- the job's way is settled by its exchanges, and its outcome isn't yet
pub record WayIsSettled (known : Known) (of : Job) (hosts : List Host) (replied : Replied) (calls : List SheetCall) (from now : EndSeen) : Type 0 where
  pub host : Host
  pub listed : Member host hosts
  pub settled : IsSettled known of host replied from now
  pub reads : ℕ
  pub looks : LooksFor known of calls reads settled.exchanges (way_of replied)
  pub read : now.reads ≤ from.reads + reads

-- a job of the run: its record, what it did, its calls and its reads
pub record IsWork (known : Known) (jobs : List Job) (hosts : List Host) (w : Work) (from now : EndSeen) : Type 0 where
  pub job : Job
  pub listed : slice_get jobs w.done.job ≡ Some job
  pub host : Host
  pub of_hosts : Member host hosts
  pub did : DidJob known job host w.done from now
  pub deeds_are : w.deeds ≡ deeds_of did.exchanges did.put from now
  pub looks : LooksFor known job w.calls w.reads did.exchanges w.done.way
  pub read : now.reads ≤ from.reads + w.reads

-- ---- each phase ----

module _ (known : Known) (jobs : List Job) (hosts : List Host) where
  -- the job of this number has P
  abbrev pub OfJob : ℕ → (Job → Type 0) → Type 0
  OfJob n P = (job : Job) × (slice_get jobs n ≡ Some job) × P job

  -- `from` is the end where the job in work was drawn, and `calls` are its calls on the memo
  abbrev pub Current : Phase → List SheetCall → EndSeen → EndSeen → Type 0
  Current Rests calls from now = (now ≡ from) × (calls ≡ [])
  Current Draws calls from now = (now ≡ from) × (calls ≡ [])
  Current Ended calls from now = (now ≡ from) × (calls ≡ [])
  Current (Begins n) calls from now = OfJob n (λ job. (now ≡ from) × (calls ≡ []))
  Current (Goes n left a) calls from now = OfJob n (λ job. IsGoing known job a calls from now)
  Current (Looks n left a key) calls from now = OfJob n (λ job. IsLooking known job a key calls from now)
  Current (Finds n left a key sheet) calls from now = OfJob n (λ job. HasFound known job a key sheet calls from now)
  Current (Misses n left a key) calls from now = OfJob n (λ job. HasMissed known job a key calls from now)
  Current (Publishes n left a key) calls from now = OfJob n (λ job. IsPublishing known job a key calls from now)
  Current (Wants n bytes) calls from now = OfJob n (λ job. RequestIsReady known job bytes calls from now)
  Current (Takes n bytes count) calls from now = OfJob n (λ job. RequestIsReady known job bytes calls from now)
  Current (Calls n bytes count lease) calls from now = OfJob n (λ job. RequestIsReady known job bytes calls from now)
  Current (Gives n host replied) calls from now = OfJob n (λ job. (judged : WayIsSettled known job hosts replied calls from now) × (slice_get hosts host ≡ Some judged.host))
  Current (Concludes n replied) calls from now = OfJob n (λ job. WayIsSettled known job hosts replied calls from now)

-- ---- what a call asks for ----

-- a client with work to do can do it with so many jobs and hosts
abbrev pub CanWork : ℕ → ℕ → Phase → Type 0
CanWork jobs hosts Rests = Unit {0}
CanWork jobs hosts Draws = ⊥
CanWork jobs hosts (Begins n) = n < jobs
CanWork jobs hosts (Goes n left a) = n < jobs
CanWork jobs hosts (Looks n left a key) = ⊥
CanWork jobs hosts (Finds n left a key sheet) = n < jobs
CanWork jobs hosts (Misses n left a key) = n < jobs
CanWork jobs hosts (Publishes n left a key) = ⊥
CanWork jobs hosts (Wants n bytes) = n < jobs
CanWork jobs hosts (Takes n bytes count) = ⊥
CanWork jobs hosts (Calls n bytes count lease) = (n < jobs) × ((count ≡ hosts) × (lease < count))
CanWork jobs hosts (Gives n host replied) = ⊥
CanWork jobs hosts (Concludes n replied) = n < jobs
CanWork jobs hosts Ended = Unit {0}

-- the client waits for the answer to this need; a lease that it gives back is that of the host that was asked
abbrev pub NeedOf : ℕ → ℕ → Phase → Need → Type 0
NeedOf jobs hosts Draws need.Draw = Unit {0}
NeedOf jobs hosts (Looks n left a key) (need.Look wanted) = (n < jobs) × (wanted ≡ key)
NeedOf jobs hosts (Publishes n left a key) (need.Publish wanted sheet) = (n < jobs) × (wanted ≡ key)
NeedOf jobs hosts (Takes n bytes count) need.Take = (n < jobs) × (count ≡ hosts)
NeedOf jobs hosts (Gives n host replied) (need.Give lease) = (n < jobs) × (lease ≡ host)
NeedOf jobs hosts Ended need.Ended = Unit {0}
NeedOf jobs hosts _ _ = ⊥

-- the answer fits the phase. (That a drawn number is above all that the client drew before is asked beside this.)
abbrev pub AnswerFits : ℕ → Phase → Reply → Type 0
AnswerFits jobs Draws (reply.Drawn None) = Unit {0}
AnswerFits jobs Draws (reply.Drawn (Some n)) = n < jobs
AnswerFits jobs (Looks n left a key) (reply.Looked got) = Unit {0}
AnswerFits jobs (Looks n left a key) reply.Refused = Unit {0}
AnswerFits jobs (Publishes n left a key) (reply.Kept kept) = Unit {0}
AnswerFits jobs (Publishes n left a key) reply.Refused = Unit {0}
AnswerFits jobs (Takes n bytes count) (reply.Leased None) = Unit {0}
AnswerFits jobs (Takes n bytes count) (reply.Leased (Some lease)) = lease < count
AnswerFits jobs (Gives n host replied) reply.Given = Unit {0}
AnswerFits jobs _ _ = ⊥

-- the phase after an answer
abbrev pub phase_after : Phase → Reply → Phase
phase_after Draws (reply.Drawn None) = Ended
phase_after Draws (reply.Drawn (Some n)) = Begins n
phase_after (Looks n left a key) (reply.Looked None) = Misses n left a key
phase_after (Looks n left a key) (reply.Looked (Some sheet)) = Finds n left a key sheet
phase_after (Looks n left a key) reply.Refused = Concludes n (Failed cause.Memory)
phase_after (Publishes n left a key) (reply.Kept kept) = Goes n left a
phase_after (Publishes n left a key) reply.Refused = Concludes n (Failed cause.Memory)
phase_after (Takes n bytes count) (reply.Leased None) = Wants n bytes
phase_after (Takes n bytes count) (reply.Leased (Some lease)) = Calls n bytes count lease
phase_after (Gives n host replied) reply.Given = Concludes n replied
phase_after phase _ = phase

-- ---- how far a client is from its end ----

-- how many questions an analysis may ask
abbrev pub most_asked : ℕ
most_asked = 2 ^ 64 - 1

-- a number that each private step and each answer makes smaller, but for a draw and a slot that isn't free
abbrev pub phase_rank : Phase → ℕ
phase_rank Ended = 0
phase_rank Draws = 1
phase_rank Rests = 2
phase_rank (Concludes n replied) = 3
phase_rank (Gives n host replied) = 4
phase_rank (Calls n bytes count lease) = 5
phase_rank (Takes n bytes count) = 6
phase_rank (Wants n bytes) = 7
phase_rank (Goes n left a) = 4 * left + 11
phase_rank (Publishes n left a key) = 4 * left + 12
phase_rank (Misses n left a key) = 4 * left + 13
phase_rank (Finds n left a key sheet) = 4 * left + 13
phase_rank (Looks n left a key) = 4 * left + 14
phase_rank (Begins n) = 4 * most_asked + 15

-- a number above the rank of every phase
abbrev pub most_rank : ℕ
most_rank = 4 * most_asked + 16

-- the job in work
abbrev pub job_in_work : Phase → Option ℕ
job_in_work Rests = None
job_in_work Draws = None
job_in_work Ended = None
job_in_work (Begins n) = Some n
job_in_work (Goes n left a) = Some n
job_in_work (Looks n left a key) = Some n
job_in_work (Finds n left a key sheet) = Some n
job_in_work (Misses n left a key) = Some n
job_in_work (Publishes n left a key) = Some n
job_in_work (Wants n bytes) = Some n
job_in_work (Takes n bytes count) = Some n
job_in_work (Calls n bytes count lease) = Some n
job_in_work (Gives n host replied) = Some n
job_in_work (Concludes n replied) = Some n

-- the host whose slot the client holds
abbrev pub leased_by : Phase → Option ℕ
leased_by Rests = None
leased_by Draws = None
leased_by Ended = None
leased_by (Begins n) = None
leased_by (Goes n left a) = None
leased_by (Looks n left a key) = None
leased_by (Finds n left a key sheet) = None
leased_by (Misses n left a key) = None
leased_by (Publishes n left a key) = None
leased_by (Wants n bytes) = None
leased_by (Takes n bytes count) = None
leased_by (Calls n bytes count lease) = Some lease
leased_by (Gives n host replied) = None
leased_by (Concludes n replied) = None

-- the lease that a need gives back
abbrev pub lease_given_back : Need → Option ℕ
lease_given_back need.Draw = None
lease_given_back (need.Look key) = None
lease_given_back (need.Publish key sheet) = None
lease_given_back need.Take = None
lease_given_back (need.Give lease) = Some lease
lease_given_back need.Ended = None

-- ---- a private step ----

-- A private step makes the rank smaller, keeps the job, and leaves work to do, a record or a need. A lease goes into the need.
abbrev pub Advances : ℕ → ℕ → Phase → Advanced → Type 0
Advances jobs hosts old (adv.Goes new) = CanWork jobs hosts new × ((phase_rank new < phase_rank old) × ((job_in_work new ≡ job_in_work old) × (leased_by new ≡ leased_by old)))
Advances jobs hosts old (adv.Records done) = (2 < phase_rank old) × ((job_in_work old ≡ Some done.job) × (leased_by old ≡ None))
Advances jobs hosts old (adv.Waits new wanted) =
    NeedOf jobs hosts new wanted × (((phase_rank new < phase_rank old) ⊎ ((old ≡ Ended) × (new ≡ Ended))) × ((job_in_work new ≡ job_in_work old) × (leased_by old ≡ lease_given_back wanted)))

-- The same for a step of this job with no lease, from a rank below which it leads.
abbrev pub AdvancesBelow : ℕ → ℕ → ℕ → ℕ → Advanced → Type 0
AdvancesBelow jobs hosts n bound (adv.Goes new) = CanWork jobs hosts new × ((phase_rank new < bound) × ((job_in_work new ≡ Some n) × (leased_by new ≡ None)))
AdvancesBelow jobs hosts n bound (adv.Records done) = done.job ≡ n
AdvancesBelow jobs hosts n bound (adv.Waits new wanted) =
    NeedOf jobs hosts new wanted × ((phase_rank new < bound) × ((job_in_work new ≡ Some n) × (lease_given_back wanted ≡ None)))

-- a sheet that is published is right for its key
abbrev pub NeedHolds : Known → Need → Type 0
NeedHolds known need.Draw = Unit {0}
NeedHolds known (need.Look key) = Unit {0}
NeedHolds known (need.Publish key sheet) = OfTree known (λ tree. IsRightFor tree key sheet)
NeedHolds known need.Take = Unit {0}
NeedHolds known (need.Give lease) = Unit {0}
NeedHolds known need.Ended = Unit {0}

-- the job that ended, as a work of the run
pub record Finished (known : Known) (jobs : List Job) (hosts : List Host) (client : ℕ) (done : Done) (calls : List SheetCall) (from now : EndSeen) : Type 0 where
  pub work : Work
  pub done_is : work.done ≡ done
  pub calls_are : work.calls ≡ calls
  pub client_is : done.client ≡ client
  pub works : IsWork known jobs hosts work from now

-- what a private step leaves at the client's end
abbrev pub StepHolds : Known → List Job → List Host → ℕ → List SheetCall → EndSeen → EndSeen → Advanced → Type 0
StepHolds known jobs hosts client calls from now (adv.Goes new) = Current known jobs hosts new calls from now
StepHolds known jobs hosts client calls from now (adv.Records done) = Finished known jobs hosts client done calls from now
StepHolds known jobs hosts client calls from now (adv.Waits new wanted) = Current known jobs hosts new calls from now

-- a private step leads to no publication but of a sheet that is right
abbrev pub StepIsRight : Known → Advanced → Type 0
StepIsRight known (adv.Goes new) = Unit {0}
StepIsRight known (adv.Records done) = Unit {0}
StepIsRight known (adv.Waits new wanted) = NeedHolds known wanted

-- a private step from a phase: whatever the job has done before it
abbrev pub StepKeeps : Known → List Job → List Host → ℕ → Phase → EndSeen → EndSeen → Advanced → Type 0
StepKeeps known jobs hosts client old before now result =
    (calls : List SheetCall) (from : EndSeen) → Current known jobs hosts old calls from before → StepHolds known jobs hosts client calls from now result

-- A job's analysis that was whole has answered: what it asked for, or how it ended. `now` is the analysis after that.
pub record HasAnswered (known : Known) (jobs : List Job) (n : ℕ) (was : Progress) (answer : Next) (now : Progress) (calls : List SheetCall) (from before : EndSeen) : Type 0 where
  pub job : Job
  pub listed : slice_get jobs n ≡ Some job
  pub going : IsGoing known job was calls from before
  pub whole : was.broken ≡ false
  pub means : NextMeans was answer now
  pub large : (visit : Visit) → was.heard.large ≡ Some visit → SaysLarge answer

-- a step from such an answer: whatever the job has done before it
abbrev pub AnswerStepHolds : Known → List Job → List Host → ℕ → ℕ → Progress → Next → Progress → EndSeen → EndSeen → Advanced → Type 0
AnswerStepHolds known jobs hosts client n was answer now before after result =
    (calls : List SheetCall) (from : EndSeen) → HasAnswered known jobs n was answer now calls from before → StepHolds known jobs hosts client calls from after result

-- a client that wants a slot needs one next, and nothing else of it changes
abbrev pub WantsThenTakes : ℕ → Phase → Advanced → Type 0
WantsThenTakes hosts old result = (n : ℕ) (bytes : List ℕ) → old ≡ Wants n bytes → result ≡ adv.Waits (Takes n bytes hosts) need.Take

-- a step leads a client to its end only where it had ended
abbrev pub EndsNone : Phase → Advanced → Type 0
EndsNone old (adv.Goes new) = new ≡ Ended → old ≡ Ended
EndsNone old (adv.Records done) = Unit {0}
EndsNone old (adv.Waits new wanted) = new ≡ Ended → old ≡ Ended
