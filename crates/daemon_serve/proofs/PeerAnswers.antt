-- What the daemon as the other side of a wire answers, from what serving tells.
use Rattle.std.proofs.Common.{◌≡◌, ℕ, List, [], ◌++◌, sym, ◌∙◌, ap, subst, append-nil, inl, inr, Option, None, Some}
use Rattle.std.specs.Prelude.{◌⊎◌}
use Rattle.std.specs.Io.KnownBytes.{prepend_known, IsAtEnd}
use Rattle.base_types.specs.Told.{added}
use Rattle.job_frames.specs.declared.answer.Answer.TheVariants as answer
use Rattle.job_frames.specs.Outcomes.{Verdict, going, done, reason}
use Rattle.job_frames.specs.Request.{Got}
use Rattle.job_frames.specs.Spelling.{reply_bytes}
use Rattle.job_frames.specs.Daemon.{IsReply, Daemon}
use Rattle.daemon_serve.specs.declared.serving.Served.{Served}
use Rattle.daemon_serve.specs.declared.serving.Served.TheVariants.{Replied, Refused}
use Rattle.daemon_answers.specs.Answers.{Answers}
use Rattle.daemon_serve.specs.Serving.{verdict_on, IsFirm, IsReasonOf, IsCut, TellsServed, IsServed}

-- what was sent is what was read, and what is left
sent-parts : (sent read : List ℕ) (left : Option (List ℕ)) → Some sent ≡ prepend_known read left → (rest : List ℕ) × (left ≡ Some rest) × (sent ≡ read ++ rest)
sent-parts sent read None e = absurd (cc)
sent-parts sent read (Some rest) e = let same : sent ≡ read ++ rest = cc in (rest, cc, same)

-- the verdict on what was read is that on all that was sent
on-sent : (sent read : List ℕ) (left : Option (List ℕ)) → Some sent ≡ prepend_known read left → IsFirm read → (verdict_on read ≡ going → ⊥) → verdict_on sent ≡ verdict_on read
on-sent sent read left e firm due = let parts = sent-parts sent read left e in ap verdict_on parts.2 ∙ firm due parts.0

at-end : (sent read : List ℕ) (left : Option (List ℕ)) → Some sent ≡ prepend_known read left → IsAtEnd left → sent ≡ read
at-end sent read None e end = absurd (cc)
at-end sent read (Some rest) e end = let same : sent ≡ read ++ rest = cc in same ∙ ap (λ (x : List ℕ). read ++ x) end ∙ append-nil read

done-due : (v : Verdict Got) (got : Got) → v ≡ done got → v ≡ going → ⊥
done-due v got is e = cc

reason-due : (v : Verdict Got) (n : ℕ) → v ≡ reason n → v ≡ going → ⊥
reason-due v n is e = cc

replied : (sent read written : List ℕ) (left : Option (List ℕ)) → Some sent ≡ prepend_known read left → IsFirm read → TellsServed Answers Replied read left written → IsReply Answers (verdict_on sent) written
replied sent read written left e firm t =
    subst (λ (v : Verdict Got). IsReply Answers v written) (sym (on-sent sent read left e firm (done-due (verdict_on read) t.0 t.1) ∙ t.1)) t.2

refused-by : (n : ℕ) (sent read written : List ℕ) (left : Option (List ℕ)) → Some sent ≡ prepend_known read left → IsFirm read → written ≡ reply_bytes (answer.Refused n) → IsReasonOf read n ⊎ IsCut read left n
    → IsReply Answers (verdict_on sent) written
refused-by n sent read written left e firm w (inl is) = subst (λ (v : Verdict Got). IsReply Answers v written) (sym (on-sent sent read left e firm (reason-due (verdict_on read) n is.0) ∙ is.0)) w
refused-by n sent read written left e firm w (inr is) =
    subst (λ (v : Verdict Got). IsReply Answers v written) (sym (ap verdict_on (at-end sent read left e is.2) ∙ is.1)) (w ∙ ap (λ (k : ℕ). reply_bytes (answer.Refused k)) is.0)

all-put : (held held' : Option (List ℕ)) (written bytes : List ℕ) → held ≡ Some [] → held' ≡ added written held → held' ≡ Some bytes → written ≡ bytes
all-put held held' written bytes none put is =
    let same : Some written ≡ Some bytes = ap (added written) (sym none) ∙ sym put ∙ is in
    cc

module _ {left left' held held' : Option (List ℕ)} {reads reads' puts puts' : ℕ} {served : Served} (s : IsServed Answers left left' reads reads' held held' puts puts' served) (sent bytes : List ℕ) (told : left ≡ Some sent) (none : held ≡ Some []) (is : held' ≡ Some bytes) where
  taken : Some sent ≡ prepend_known s.read left'
  taken = sym told ∙ s.taken

  pub peer-replied : served ≡ Replied → Daemon Answers sent bytes
  peer-replied e =
      inl (subst (IsReply Answers (verdict_on sent)) (all-put held held' s.written bytes none s.put is)
      (replied sent s.read s.written left' taken s.firm (subst (λ (x : Served). TellsServed Answers x s.read left' s.written) e s.tells)))

  pub peer-refused : (n : ℕ) → served ≡ Refused n → Daemon Answers sent bytes
  peer-refused n e =
      let t : TellsServed Answers (Refused n) s.read left' s.written = subst (λ (x : Served). TellsServed Answers x s.read left' s.written) e s.tells in
      inl (subst (IsReply Answers (verdict_on sent)) (all-put held held' s.written bytes none s.put is) (refused-by n sent s.read s.written left' taken s.firm t.0 t.1))
