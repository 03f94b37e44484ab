-- What a client has done so far, and what a call of it asks for and leaves.
use Rattle.std.specs.Prelude.{◌≡◌, ◌⊎◌, ℕ, suc, ◌+◌, ◌<◌, ◌≤◌, List, [], ◌∷◌, ◌++◌, map, length, Option, None, Some, cond, nat_eq, slice_get}
use Rattle.std.specs.List.{flat_map, count_by, AllByRecursion}
use Rattle.std.specs.Vec.{vec_len, vec_capacity}
use Rattle.base_types.specs.Members.{Member}
use Rattle.job_words.specs.declared.job.Job.{Job}
use Rattle.io_edges.specs.declared.wire.Exchange.{Exchange}
use Rattle.io_edges.specs.declared.wire.Host.{Host}
use Rattle.job_ends.specs.Outside.{EndSeen}
use Rattle.job_ends.specs.Record.{Known, OfTree, IsRecord}
use Rattle.job_ends.specs.declared.record.Done.{Done}
use Rattle.closure_memo.specs.declared.step.What.TheVariants as what
use Rattle.closure_memo.specs.Memo.{what_of}
use Rattle.sheet_build.specs.Keys.{IsRightFor}
use Rattle.client_steps.specs.declared.client.Client.{Client}
use Rattle.client_steps.specs.declared.phase.Phase.{Phase}
use Rattle.client_steps.specs.declared.phase.Phase.TheVariants.{Rests, Looks, Publishes, Wants, Takes, Ended}
use Rattle.client_steps.specs.declared.need.Need.{Need}
use Rattle.client_steps.specs.declared.need.Reply.{Reply}
use Rattle.client_steps.specs.declared.need.Reply.TheVariants as reply
use Rattle.job_ends.specs.Looks.{SheetCall, sheet_call, LooksFor}
use Rattle.job_ends.specs.Works.{Work, EndHolds}
use Rattle.client_steps.specs.Phases.{Current, NeedOf, phase_rank, job_in_work, leased_by, lease_given_back}

-- ---- what is kept of a client ----

abbrev pub one_if_some : Option ℕ → ℕ
one_if_some None = 0
one_if_some (Some n) = 1

-- a record is kept for each number drawn, and there is room for the job in work
pub record HasRoom (c : Client) : Type 0 where
  pub enough : one_if_some (job_in_work c.phase) + vec_len c.records ≤ c.least
  pub below : c.least ≤ c.jobs
  pub room : c.jobs ≤ vec_capacity c.records

pub record IsNew (n count limit : ℕ) (c : Client) : Type 0 where
  pub number : c.number ≡ n
  pub jobs : c.jobs ≡ count
  pub budget : c.budget ≡ limit
  pub least : c.least ≡ 0
  pub none : c.records.items ≡ []
  pub phase : c.phase ≡ Rests

-- a drawn number is above all that the client drew before
abbrev pub IsAbove : ℕ → Reply → Type 0
IsAbove least (reply.Drawn None) = Unit {0}
IsAbove least (reply.Drawn (Some n)) = least ≤ n
IsAbove least (reply.Looked got) = Unit {0}
IsAbove least (reply.Kept k) = Unit {0}
IsAbove least (reply.Leased lease) = Unit {0}
IsAbove least reply.Given = Unit {0}
IsAbove least reply.Refused = Unit {0}

-- the least number that may be drawn next
abbrev pub least_after : ℕ → Reply → ℕ
least_after least (reply.Drawn None) = least
least_after least (reply.Drawn (Some n)) = n + 1
least_after least (reply.Looked got) = least
least_after least (reply.Kept k) = least
least_after least (reply.Leased lease) = least
least_after least reply.Given = least
least_after least reply.Refused = least

-- a client works up to its need: it comes nearer to its end, and a lease that it held goes into the need
pub record NextMoves (jobs hosts : ℕ) (old new : Phase) (wanted : Need) : Type 0 where
  pub waits : NeedOf jobs hosts new wanted
  pub nearer : (phase_rank new < phase_rank old) ⊎ ((old ≡ Ended) × (new ≡ Ended))
  pub lease : leased_by old ≡ lease_given_back wanted
  pub wants : (n : ℕ) (bytes : List ℕ) → old ≡ Wants n bytes → new ≡ Takes n bytes hosts

-- ---- the numbers of its jobs ----

abbrev pub one_if_job : ℕ → Option ℕ → ℕ
one_if_job n None = 0
one_if_job n (Some k) = cond (nat_eq k n) 1 0

-- how often a client drew a number: for a job that ended, or for the one in work
abbrev pub times_drawn : ℕ → Client → ℕ
times_drawn n c = count_by (λ (d : Done). nat_eq d.job n) c.records.items + one_if_job n (job_in_work c.phase)

abbrev pub DrewTheSame : Client → Client → Type 0
DrewTheSame old new = (n : ℕ) → times_drawn n new ≡ times_drawn n old

-- ---- what a client has done ----

-- the works of its jobs that ended, the calls on the memo of the job in work, and its end where that job was drawn
pub record Ledger : Type 0 where
  pub works : List Work
  pub calls : List SheetCall
  pub from : EndSeen

-- all calls on the memo, in order
abbrev pub all_calls : Ledger → List SheetCall
all_calls l = flat_map (λ (w : Work). w.calls) l.works ++ l.calls

-- a work of the run: its job is listed, its record says what it did, its calls and reads are those of its way, and its
-- exchanges were with hosts of the list
pub record WorkHolds (known : Known) (jobs : List Job) (hosts : List Host) (w : Work) : Type 0 where
  pub job : Job
  pub listed : slice_get jobs w.done.job ≡ Some job
  pub recorded : IsRecord known job w.done w.deeds
  pub looks : LooksFor known job w.calls w.reads w.deeds.exchanges w.done.way
  pub to_hosts : AllByRecursion (λ (e : Exchange). Member e.host hosts) w.deeds.exchanges

-- the numbers of works go up, from this one on, and stay below a bound
abbrev pub GoUp : ℕ → List Work → ℕ → Type 0
GoUp least [] bound = least ≤ bound
GoUp least (w ∷ works) bound = (least ≤ w.done.job) × GoUp (suc w.done.job) works bound

-- the numbers of the jobs that ended are below that of the job in work, or else below the least that may be drawn next
abbrev pub below_works : Option ℕ → ℕ → ℕ
below_works None least = least
below_works (Some n) least = n

-- a client has done what its ledger says, since its first moment
pub record ClientHolds (known : Known) (jobs : List Job) (hosts : List Host) (c : Client) (ledger : Ledger) (first now : EndSeen) : Type 0 where
  pub records_are : map (λ (w : Work). w.done) ledger.works ≡ c.records.items
  pub by_client : AllByRecursion (λ (w : Work). w.done.client ≡ c.number) ledger.works
  pub each : AllByRecursion (WorkHolds known jobs hosts) ledger.works
  pub rising : GoUp 0 ledger.works (below_works (job_in_work c.phase) c.least)
  pub in_work : (n : ℕ) → job_in_work c.phase ≡ Some n → c.least ≡ suc n
  pub ends : EndHolds ledger.works first ledger.from
  pub current : Current known jobs hosts c.phase ledger.calls ledger.from now

-- what a call of `next` leaves: no call on the memo was made, and the works only grew
pub record NextHolds (known : Known) (jobs : List Job) (hosts : List Host) (c : Client) (was : Ledger) (first now : EndSeen) : Type 0 where
  pub ledger : Ledger
  pub holds : ClientHolds known jobs hosts c ledger first now
  pub more_works : List Work
  pub works_are : ledger.works ≡ was.works ++ more_works
  pub same_calls : all_calls ledger ≡ all_calls was

-- the call on the memo that an answer is of
abbrev pub call_by : Phase → Reply → List SheetCall
call_by (Looks n left a key) (reply.Looked None) = sheet_call key what.Miss ∷ []
call_by (Looks n left a key) (reply.Looked (Some sheet)) = sheet_call key what.Hit ∷ []
call_by (Publishes n left a key) (reply.Kept k) = sheet_call key (what_of k) ∷ []
call_by phase _ = []

-- an answer is right: a sheet that was found is the key's
abbrev pub IsRightReply : Known → Phase → Reply → Type 0
IsRightReply known (Looks n left a key) (reply.Looked (Some sheet)) = OfTree known (λ tree. IsRightFor tree key sheet)
IsRightReply known phase _ = Unit {0}

-- what a call of `put` leaves: the answer's call on the memo is one more
abbrev pub with_calls : Ledger → List SheetCall → Ledger
with_calls ledger more_calls = record ledger { calls = ledger.calls ++ more_calls }

-- what a call of `next` keeps, and what a call of `put` keeps: whatever was done before
abbrev pub NextKeeps : Known → List Job → List Host → Client → Client → EndSeen → EndSeen → Type 0
NextKeeps known jobs hosts old new before now =
    (first : EndSeen) (was : Ledger) → ClientHolds known jobs hosts old was first before → NextHolds known jobs hosts new was first now

abbrev pub PutKeeps : Client → Client → Reply → Type 0
PutKeeps old new answer =
    (known : Known) (jobs : List Job) (hosts : List Host) (first now : EndSeen) (ledger : Ledger) → IsRightReply known old.phase answer → 0 < length hosts → old.jobs ≤ length jobs
    → ClientHolds known jobs hosts old ledger first now → ClientHolds known jobs hosts new (with_calls ledger (call_by old.phase answer)) first now
