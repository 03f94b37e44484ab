-- The reply to a request, for those who cite `Daemon` at answers of their own.
use Rattle.std.proofs.Common.{◌≡◌, ℕ, List, subst}
use Rattle.std.specs.Prelude.{◌⊎◌}
use Rattle.tree_model.specs.Entries.{Entries}
use Rattle.job_words.specs.declared.job.Job.{Job}
use Rattle.job_frames.specs.declared.answer.Answer.{Answer}
use Rattle.job_frames.specs.declared.answer.Answer.TheVariants.{Refused}
use Rattle.job_frames.specs.Outcomes.{Verdict}
use Rattle.job_frames.specs.Spelling.{IsRequest, request_bytes, IsAnswer, reply_bytes}
use Rattle.job_frames.specs.Request.{Got}
use Rattle.job_frames.specs.Daemon.{IsReply, Daemon}
use Rattle.job_frames.proofs.SpellingLemmas.{request_whole}

-- a request's spelling has one reply: one of its answers, or that memory was wanting
pub replied : (answer : Job → Entries → Answer → Type 0) (job : Job) (es : Entries) (sent received : List ℕ) → IsRequest job es → sent ≡ request_bytes job es → Daemon answer sent received
    → ((a : Answer) × answer job es a × IsAnswer a × (received ≡ reply_bytes a)) ⊎ (received ≡ reply_bytes (Refused 1))
replied answer job es sent received is e daemon =
    subst (λ (v : Verdict Got). IsReply answer v received ⊎ (received ≡ reply_bytes (Refused 1))) (request_whole job es sent is e) daemon
