-- The parts of serving a request: reading it, and putting the reply.
use Rattle.std.specs.Prelude.{◌≡◌, ◌⊎◌, ◌≤◌, ℕ, List, [], ◌++◌, Option, Some, Result, Ok, Err, IsTrue}
use Rattle.std.specs.Io.KnownBytes.{prepend_known}
use Rattle.base_types.specs.Causes.{Rose, HasCause}
use Rattle.base_types.specs.Told.{added}
use Rattle.tree_model.specs.Entries.{Entries, makes_tree, bodies_fit}
use Rattle.job_words.specs.declared.job.Job.{Job}
use Rattle.job_frames.specs.declared.FrameError.{FrameError}
use Rattle.job_frames.specs.declared.FrameError.TheVariants as why
use Rattle.job_frames.specs.declared.answer.Answer.{Answer}
use Rattle.job_frames.specs.declared.answer.Answer.TheVariants as answer
use Rattle.job_frames.specs.Outcomes.{Left, going, done, number_of}
use Rattle.job_frames.specs.Request.{Got}
use Rattle.job_frames.specs.Spelling.{reply_bytes}
use Rattle.job_frames.specs.Daemon.{IsAnswerTo}
use Rattle.io_edges.specs.declared.sink.WriteFault as sink
use Rattle.io_edges.specs.declared.sink.WriteFault.TheVariants as fault
use Rattle.daemon_serve.specs.declared.reading.NoRequest.{NoRequest}
use Rattle.daemon_serve.specs.declared.reading.NoRequest.TheVariants as no
use Rattle.daemon_serve.specs.declared.serving.Served.{Served}
use Rattle.daemon_serve.specs.declared.serving.Served.TheVariants.{Replied, Refused, ReadFault, WriteFault, Memory}
use Rattle.daemon_serve.specs.Serving.{verdict_on, StopsInTime, IsReasonOf, IsCut, IsFrontOf}

-- While a request is read: nothing is wrong with the bytes read, and the reader says of each text that may come what is to
-- be said of all bytes.
pub record IsReading (left left' : Option (List ℕ)) (reads reads' : ℕ) (reader : Left Got) : Type 0 where
  pub read : List ℕ
  pub taken : left ≡ prepend_known read left'
  pub says : (more : List ℕ) → reader more ≡ verdict_on (read ++ more)
  pub due : verdict_on read ≡ going
  pub later : reads ≤ reads'

-- a whole request has come to a reader
abbrev pub HasWhole : Left Got → Type 0
HasWhole reader = (read : List ℕ) × (got : Got) × (reader [] ≡ verdict_on read) × (verdict_on read ≡ done got)

-- what was read where no request was: the source failed, or the bytes are refused
abbrev pub NoneTells : NoRequest → List ℕ → Option (List ℕ) → ℕ → ℕ → Type 0
NoneTells no.Fault read left reads reads' = (verdict_on read ≡ going) × Rose reads reads'
NoneTells (no.Refused e) read left reads reads' = (e ≡ why.Memory) ⊎ (IsReasonOf read (number_of e) ⊎ IsCut read left (number_of e))

-- what was read where a reader was fed until a request was whole, or there was none
abbrev pub FedTells : {A : Type 0} → Result A NoRequest → Left Got → List ℕ → Option (List ℕ) → ℕ → ℕ → Type 0
FedTells (Ok fed) reader read left reads reads' = (got : Got) × (reader [] ≡ verdict_on read) × (verdict_on read ≡ done got)
FedTells (Err e) reader read left reads reads' = NoneTells e read left reads reads'

pub record IsRequestFed {A : Type 0} (left left' : Option (List ℕ)) (reads reads' : ℕ) (reader : Left Got) (result : Result A NoRequest) : Type 0 where
  pub read : List ℕ
  pub taken : left ≡ prepend_known read left'
  pub in_time : StopsInTime read
  pub later : reads ≤ reads'
  pub tells : FedTells result reader read left' reads reads'

-- what was read where a request, or none, was read
abbrev pub ReadTells : Result (Job × Entries) NoRequest → List ℕ → Option (List ℕ) → ℕ → ℕ → Type 0
ReadTells (Ok request) read left reads reads' = (verdict_on read ≡ done (record { job = Some request.0; entries = request.1 })) × IsTrue (makes_tree request.1) × IsTrue (bodies_fit request.1)
ReadTells (Err e) read left reads reads' = NoneTells e read left reads reads'

pub record IsRequestRead (left left' : Option (List ℕ)) (reads reads' : ℕ) (result : Result (Job × Entries) NoRequest) : Type 0 where
  pub read : List ℕ
  pub taken : left ≡ prepend_known read left'
  pub in_time : StopsInTime read
  pub later : reads ≤ reads'
  pub tells : ReadTells result read left' reads reads'

-- how serving ends where a refusal was put
abbrev pub refusal_served : FrameError → Served
refusal_served why.Memory = Memory
refusal_served why.Version = Refused 2
refusal_served why.Token = Refused 3
refusal_served why.Digits = Refused 4
refusal_served why.Limit = Refused 5
refusal_served why.Order = Refused 6
refusal_served why.Parent = Refused 7
refusal_served why.Words = Refused 8
refusal_served why.Cut = Refused 9

-- how serving ends where the sink doesn't take the reply
abbrev pub fault_served : sink.WriteFault → Served
fault_served fault.Fault = WriteFault
fault_served fault.Memory = Memory

-- the replies to a whole request, by how serving ends where they are put: an answer, or the refusal for want of memory
abbrev pub AnswersBy : (Job → Entries → Answer → Type 0) → Job → Entries → Served → List ℕ → Type 0
AnswersBy may job entries Replied bytes = IsAnswerTo may (Some job) entries bytes
AnswersBy may job entries Memory bytes = bytes ≡ reply_bytes (answer.Refused 1)
AnswersBy may job entries _ bytes = ⊥

-- the one reply that is put, and how serving ends then
abbrev pub OnlyReply : Served → List ℕ → Served → List ℕ → Type 0
OnlyReply whole reply served bytes = (served ≡ whole) × (bytes ≡ reply)

-- a reply was put whole; or, where the sink didn't take it, a front of one
abbrev pub PutTells : (Served → List ℕ → Type 0) → Result Served sink.WriteFault → List ℕ → Type 0
PutTells reply (Ok served) written = reply served written
PutTells reply (Err e) written = (served : Served) × (bytes : List ℕ) × reply served bytes × IsFrontOf written bytes

pub record IsReplyPut (reply : Served → List ℕ → Type 0) (held held' : Option (List ℕ)) (puts puts' : ℕ) (ended : Result Served sink.WriteFault) : Type 0 where
  pub written : List ℕ
  pub put : held' ≡ added written held
  pub cause : HasCause fault.Fault puts puts' ended
  pub tells : PutTells reply ended written

-- where no request was read: nothing is put where the source failed, else a refusal
abbrev pub IsUnserved : NoRequest → Option (List ℕ) → Option (List ℕ) → ℕ → ℕ → Result Served sink.WriteFault → Type 0
IsUnserved no.Fault held held' puts puts' ended = (ended ≡ Ok ReadFault) × (held' ≡ held) × (puts' ≡ puts)
IsUnserved (no.Refused e) held held' puts puts' ended = IsReplyPut (OnlyReply (refusal_served e) (reply_bytes (answer.Refused (number_of e)))) held held' puts puts' ended
