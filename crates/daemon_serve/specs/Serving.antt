-- What serving one request does: what was read and written, and what the answer tells of them.
use Rattle.std.specs.Prelude.{◌≡◌, ◌⊎◌, ◌≤◌, ℕ, List, [], ◌∷◌, ◌++◌, length, take, Option, Some, None, Result, Ok, Err, codes, bytes_eq, if◌then◌else◌}
use Rattle.std.specs.Io.KnownBytes.{prepend_known, IsAtEnd}
use Rattle.base_types.specs.Causes.{Rose}
use Rattle.base_types.specs.Told.{added}
use Rattle.tree_model.specs.Entries.{Entries}
use Rattle.job_words.specs.declared.job.Job.{Job}
use Rattle.io_edges.specs.declared.sink.WriteFault as sink
use Rattle.io_edges.specs.declared.sink.WriteFault.TheVariants as fault
use Rattle.job_frames.specs.declared.answer.Answer.{Answer}
use Rattle.job_frames.specs.declared.answer.Answer.TheVariants as answer
use Rattle.job_frames.specs.Outcomes.{Verdict, going, done, reason, whatever_follows}
use Rattle.job_frames.specs.Request.{Got, request_at}
use Rattle.job_frames.specs.Spelling.{reply_bytes}
use Rattle.job_frames.specs.Daemon.{IsAnswerTo, IsReply}
use Rattle.daemon_serve.specs.declared.serving.Served.{Served}
use Rattle.daemon_serve.specs.declared.serving.Served.TheVariants.{Replied, Refused, ReadFault, WriteFault, Memory}
use Rattle.daemon_serve.specs.declared.daemon.Serve.{Serve}
use Rattle.daemon_serve.specs.declared.daemon.Serve.TheVariants.{Inetd}

-- the greatest length of a piece that is read at once
abbrev pub piece_limit : ℕ
piece_limit = 65536

-- the verdict on what was read; whatever follows a request's end doesn't matter
abbrev pub verdict_on : List ℕ → Verdict Got
verdict_on read = whatever_follows (request_at read)

-- Reading goes on only while the request isn't whole and nothing is wrong: so it was before the last piece.
pub record StopsInTime (read : List ℕ) : Type 0 where
  pub before : List ℕ
  pub last : List ℕ
  pub parts : read ≡ before ++ last
  pub piece : length last ≤ piece_limit
  pub due : verdict_on before ≡ going

-- the verdict on these bytes is the verdict whatever follows
abbrev pub IsFirm : List ℕ → Type 0
IsFirm read = (verdict_on read ≡ going → ⊥) → (more : List ℕ) → verdict_on (read ++ more) ≡ verdict_on read

-- the reply to these bytes, by what may be answered to a whole request; that they are too few is replied only where the
-- source gave its end
abbrev pub IsReplyTo : (Job → Entries → Answer → Type 0) → List ℕ → Option (List ℕ) → List ℕ → Type 0
IsReplyTo may read left reply = IsReply may (verdict_on read) reply × (verdict_on read ≡ going → IsAtEnd left)

-- a front of a text
abbrev pub IsFrontOf : List ℕ → List ℕ → Type 0
IsFrontOf front whole = (k : ℕ) × (front ≡ take k whole)

-- a front of that reply, or of the refusal for want of memory
abbrev pub IsPartOfReply : (Job → Entries → Answer → Type 0) → List ℕ → Option (List ℕ) → List ℕ → Type 0
IsPartOfReply may read left written =
    ((reply : List ℕ) × IsReplyTo may read left reply × IsFrontOf written reply) ⊎ IsFrontOf written (reply_bytes (answer.Refused 1))

-- a reason of the bytes that were read
abbrev pub IsReasonOf : List ℕ → ℕ → Type 0
IsReasonOf read n = (verdict_on read ≡ reason n) × (2 ≤ n) × (n ≤ 8)

-- the bytes ended too early
abbrev pub IsCut : List ℕ → Option (List ℕ) → ℕ → Type 0
IsCut read left n = (n ≡ 9) × (verdict_on read ≡ going) × IsAtEnd left

-- what serving tells of the bytes read, of what the source has left, and of all the bytes written, where the sink took them
abbrev pub TellsWhole : (Job → Entries → Answer → Type 0) → Served → List ℕ → Option (List ℕ) → List ℕ → Type 0
TellsWhole may Replied read left written = (got : Got) × (verdict_on read ≡ done got) × IsAnswerTo may got.job got.entries written
TellsWhole may (Refused n) read left written = (written ≡ reply_bytes (answer.Refused n)) × (IsReasonOf read n ⊎ IsCut read left n)
TellsWhole may ReadFault read left written = (written ≡ []) × (verdict_on read ≡ going)
TellsWhole may WriteFault read left written = ⊥
TellsWhole may Memory read left written = written ≡ reply_bytes (answer.Refused 1)

-- where the sink didn't take them, a front of the reply may have been written
abbrev pub TellsExactly : (Job → Entries → Answer → Type 0) → Result Served sink.WriteFault → List ℕ → Option (List ℕ) → List ℕ → Type 0
TellsExactly may (Ok served) read left written = TellsWhole may served read left written
TellsExactly may (Err e) read left written = IsPartOfReply may read left written

-- what is told where the sink's want of memory is told as any other
abbrev pub TellsServed : (Job → Entries → Answer → Type 0) → Served → List ℕ → Option (List ℕ) → List ℕ → Type 0
TellsServed may WriteFault read left written = IsPartOfReply may read left written
TellsServed may Memory read left written = IsPartOfReply may read left written
TellsServed may served read left written = TellsWhole may served read left written

-- One request served, by what the source has left, what the sink holds and the counts of their faults, before and after; and
-- by an end that tells of the bytes read and written, and stands for a fault of the source or of the sink.
pub record Serves {E : Type 0} (tells_of : E → List ℕ → Option (List ℕ) → List ℕ → Type 0) (read_fault write_fault : E) (left left' : Option (List ℕ)) (reads reads' : ℕ) (held held' : Option (List ℕ)) (puts puts' : ℕ) (ended : E) : Type 0 where
  pub read : List ℕ
  pub written : List ℕ
  pub taken : left ≡ prepend_known read left'
  pub put : held' ≡ added written held
  pub in_time : StopsInTime read
  pub firm : IsFirm read
  pub tells : tells_of ended read left' written
  pub later_reads : reads ≤ reads'
  pub later_puts : puts ≤ puts'
  pub read_cause : ended ≡ read_fault → Rose reads reads'
  pub write_cause : ended ≡ write_fault → Rose puts puts'

-- One request served, where an end other than the sink's error says exactly what was written.
abbrev pub IsServedExactly : (Job → Entries → Answer → Type 0) → Option (List ℕ) → Option (List ℕ) → ℕ → ℕ → Option (List ℕ) → Option (List ℕ) → ℕ → ℕ → Result Served sink.WriteFault → Type 0
IsServedExactly may = Serves (TellsExactly may) (Ok ReadFault) (Err fault.Fault)

-- One request served, where the sink's errors are among the ends.
abbrev pub IsServed : (Job → Entries → Answer → Type 0) → Option (List ℕ) → Option (List ℕ) → ℕ → ℕ → Option (List ℕ) → Option (List ℕ) → ℕ → ℕ → Served → Type 0
IsServed may = Serves (TellsServed may) ReadFault WriteFault

-- the exit status of a program that served one request
abbrev pub status_of : Served → ℕ
status_of Replied = 0
status_of (Refused n) = 1
status_of ReadFault = 3
status_of WriteFault = 4
status_of Memory = 5

-- what a daemon's words ask for
abbrev pub serve_of : List (List ℕ) → Option Serve
serve_of [] = None
serve_of (word ∷ []) = if bytes_eq word (codes "--inetd") then Some Inetd else None
serve_of (word ∷ next ∷ words) = None
