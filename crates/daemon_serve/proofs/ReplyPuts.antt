-- Replies that were put, and the refusals' spellings.
use Rattle.std.proofs.Common.{◌≡◌, ℕ, List, length, refl, sym, ◌∙◌, ap, subst, Option, Some, Result, Ok, Err}
use Rattle.std.specs.Prelude.{codes}
use Rattle.std.proofs.Math.Seq.{take-length}
use Rattle.tree_model.specs.Entries.{Entries}
use Rattle.job_words.specs.declared.job.Job.{Job}
use Rattle.io_edges.specs.declared.sink.WriteFault.{WriteFault}
use Rattle.job_frames.specs.declared.FrameError.{FrameError}
use Rattle.job_frames.specs.declared.FrameError.TheVariants as why
use Rattle.job_frames.specs.declared.answer.Answer.{Answer}
use Rattle.job_frames.specs.declared.answer.Answer.TheVariants as answer
use Rattle.job_frames.specs.Spelling.{digits, reply_bytes}
use Rattle.job_frames.specs.Outcomes.{number_of}
use Rattle.job_frames.specs.Daemon.{IsAnswerTo}
use Rattle.daemon_serve.specs.declared.serving.Served.{Served}
use Rattle.daemon_serve.specs.declared.serving.Served.TheVariants.{Replied, Memory}
use Rattle.daemon_serve.specs.Serving.{IsFrontOf}
use Rattle.daemon_serve.specs.parts.Parts.{AnswersBy, OnlyReply, PutTells, IsReplyPut}

abbrev pub refusal_text : FrameError → List ℕ
refusal_text why.Memory = codes "RFSE00000001"
refusal_text why.Version = codes "RFSE00000002"
refusal_text why.Token = codes "RFSE00000003"
refusal_text why.Digits = codes "RFSE00000004"
refusal_text why.Limit = codes "RFSE00000005"
refusal_text why.Order = codes "RFSE00000006"
refusal_text why.Parent = codes "RFSE00000007"
refusal_text why.Words = codes "RFSE00000008"
refusal_text why.Cut = codes "RFSE00000009"

pub refusal-spelled : (e : FrameError) → refusal_text e ≡ reply_bytes (answer.Refused (number_of e))
unfolding reply_bytes digits
refusal-spelled why.Memory = refl
refusal-spelled why.Version = refl
refusal-spelled why.Token = refl
refusal-spelled why.Digits = refl
refusal-spelled why.Limit = refl
refusal-spelled why.Order = refl
refusal-spelled why.Parent = refl
refusal-spelled why.Words = refl
refusal-spelled why.Cut = refl

pub refusal-of : (e f : FrameError) → e ≡ f → refusal_text f ≡ reply_bytes (answer.Refused (number_of e))
refusal-of e f is = refusal-spelled f ∙ ap (λ (x : FrameError). reply_bytes (answer.Refused (number_of x))) (sym is)

-- all of a text is a front of it
pub whole-front : (front whole : List ℕ) → front ≡ whole → IsFrontOf front whole
whole-front front whole is = (length whole, is ∙ sym (take-length whole))

tells-as : (P Q : Served → List ℕ → Type 0) → ((served : Served) (bytes : List ℕ) → P served bytes → Q served bytes) → (ended : Result Served WriteFault) (written : List ℕ) → PutTells P ended written → PutTells Q ended written
tells-as P Q gives (Ok served) written t = gives served written t
tells-as P Q gives (Err e) written t = (t.0, t.1, gives t.0 t.1 t.2, t.3)

-- a reply of some is a reply of more
put-as : (P Q : Served → List ℕ → Type 0) → ((served : Served) (bytes : List ℕ) → P served bytes → Q served bytes) → {held held' : Option (List ℕ)} {puts puts' : ℕ} {ended : Result Served WriteFault} → IsReplyPut P held held' puts puts' ended
    → IsReplyPut Q held held' puts puts' ended
put-as P Q gives {ended = ended} p = record { written = p.written; put = p.put; cause = p.cause; tells = tells-as P Q gives ended p.written p.tells }

module _ (may : Job → Entries → Answer → Type 0) (job : Job) (entries : Entries) {held held' : Option (List ℕ)} {puts puts' : ℕ} {ended : Result Served WriteFault} where
  -- an answer was put
  pub put-answer : (reply : List ℕ) → IsAnswerTo may (Some job) entries reply → IsReplyPut (OnlyReply Replied reply) held held' puts puts' ended → IsReplyPut (AnswersBy may job entries) held held' puts puts' ended
  put-answer reply a p =
      put-as (OnlyReply Replied reply) (AnswersBy may job entries)
      (λ served bytes is. subst (λ (s : Served). AnswersBy may job entries s bytes) (sym is.0) (subst (IsAnswerTo may (Some job) entries) (sym is.1) a)) p

  -- the refusal for want of memory was put in the place of an answer
  pub put-no_memory : IsReplyPut (OnlyReply Memory (reply_bytes (answer.Refused 1))) held held' puts puts' ended → IsReplyPut (AnswersBy may job entries) held held' puts puts' ended
  put-no_memory p =
      put-as (OnlyReply Memory (reply_bytes (answer.Refused 1))) (AnswersBy may job entries)
      (λ served bytes is. subst (λ (s : Served). AnswersBy may job entries s bytes) (sym is.0) is.1) p
