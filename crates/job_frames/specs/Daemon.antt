-- What a daemon answers to the bytes that it was sent, by what it may answer to a whole request.
use Rattle.std.specs.Prelude.{◌≡◌, ◌⊎◌, ℕ, List, Option, Some, None}
use Rattle.tree_model.specs.Entries.{Entries}
use Rattle.job_words.specs.declared.job.Job.{Job}
use Rattle.job_frames.specs.declared.answer.Answer.{Answer}
use Rattle.job_frames.specs.declared.answer.Answer.TheVariants.{Refused}
use Rattle.job_frames.specs.Outcomes.{Verdict, going, done, reason, whatever_follows}
use Rattle.job_frames.specs.Request.{Got, request_at}
use Rattle.job_frames.specs.Spelling.{IsAnswer, reply_bytes}

-- one of the answers to a job and its entries, spelled; every request has a job
abbrev pub IsAnswerTo : (Job → Entries → Answer → Type 0) → Option Job → Entries → List ℕ → Type 0
IsAnswerTo answer None es received = ⊥
IsAnswerTo answer (Some job) es received = (a : Answer) × answer job es a × IsAnswer a × (received ≡ reply_bytes a)

-- the reply by the verdict on all bytes that came: bytes that ended too early are refused by reason 9
abbrev pub IsReply : (Job → Entries → Answer → Type 0) → Verdict Got → List ℕ → Type 0
IsReply answer going received = received ≡ reply_bytes (Refused 9)
IsReply answer (reason n) received = received ≡ reply_bytes (Refused n)
IsReply answer (done got) received = IsAnswerTo answer got.job got.entries received

-- a daemon's reply; want of memory is refused by reason 1
abbrev pub Daemon : (Job → Entries → Answer → Type 0) → List ℕ → List ℕ → Type 0
Daemon answer sent received = IsReply answer (whatever_follows (request_at sent)) received ⊎ (received ≡ reply_bytes (Refused 1))
