-- One request served: what was read, and the reply that was put.
use Rattle.std.proofs.Common.{◌≡◌, ℕ, List, [], refl, sym, ◌∙◌, ap, subst, arith, append-nil, inl, inr, Option, None, Some, Result, Ok, Err}
use Rattle.std.specs.Prelude.{◌⊎◌}
use Rattle.base_types.specs.Told.{added}
use Rattle.tree_model.specs.Entries.{Entries}
use Rattle.job_words.specs.declared.job.Job.{Job}
use Rattle.io_edges.specs.declared.sink.WriteFault as sink
use Rattle.io_edges.specs.declared.sink.WriteFault.TheVariants as fault
use Rattle.job_frames.specs.declared.FrameError.{FrameError}
use Rattle.job_frames.specs.declared.FrameError.TheVariants as why
use Rattle.job_frames.specs.declared.answer.Answer.{Answer}
use Rattle.job_frames.specs.declared.answer.Answer.TheVariants as answer
use Rattle.job_frames.specs.Outcomes.{Verdict, going, done, reason, number_of}
use Rattle.job_frames.specs.Request.{Got}
use Rattle.job_frames.specs.Spelling.{reply_bytes}
use Rattle.job_frames.specs.Daemon.{IsReply}
use Rattle.job_frames.specs.Laws.{RequestsAreFirm}
use Rattle.daemon_serve.specs.declared.reading.NoRequest.{NoRequest}
use Rattle.daemon_serve.specs.declared.reading.NoRequest.TheVariants as no
use Rattle.daemon_serve.specs.declared.serving.Served.{Served}
use Rattle.daemon_serve.specs.declared.serving.Served.TheVariants.{Replied, Refused, ReadFault, WriteFault, Memory}
use Rattle.daemon_serve.specs.Serving.{verdict_on, IsReplyTo, IsFrontOf, IsPartOfReply, IsReasonOf, IsCut, TellsWhole, TellsExactly, TellsServed, IsServedExactly, IsServed}
use Rattle.daemon_serve.specs.parts.Parts.{AnswersBy, OnlyReply, PutTells, refusal_served, fault_served, IsReplyPut, IsRequestRead, IsUnserved}
use Rattle.daemon_serve.proofs.ReplyPuts.{whole-front}
use Rattle.daemon_serve.proofs.WholeRequests.{got_of}

added-nothing : (held : Option (List ℕ)) → held ≡ added [] held
added-nothing None = refl
added-nothing (Some bytes) = ap Some (sym (append-nil bytes))

-- the bytes were refused by a reason
abbrev Reasoned : FrameError → List ℕ → Option (List ℕ) → Type 0
Reasoned e read left = (e ≡ why.Memory) ⊎ (IsReasonOf read (number_of e) ⊎ IsCut read left (number_of e))

refusal-reads : (e : FrameError) → ReadFault ≡ refusal_served e → ⊥
refusal-reads why.Memory is = cc
refusal-reads why.Version is = cc
refusal-reads why.Token is = cc
refusal-reads why.Digits is = cc
refusal-reads why.Limit is = cc
refusal-reads why.Order is = cc
refusal-reads why.Parent is = cc
refusal-reads why.Words is = cc
refusal-reads why.Cut is = cc

not-one : (read : List ℕ) (left : Option (List ℕ)) → IsReasonOf read 1 ⊎ IsCut read left 1 → ⊥
not-one read left (inl is) = omega (arith, is.1)
not-one read left (inr is) = omega (arith, is.0)

module _ (may : Job → Entries → Answer → Type 0) (firm : RequestsAreFirm) where
  -- A REQUEST WAS READ

  answer-whole : (job : Job) (entries : Entries) (read : List ℕ) (left : Option (List ℕ)) (written : List ℕ) → verdict_on read ≡ done (got_of job entries) → (served : Served) → AnswersBy may job entries served written → TellsWhole may served read left written
  answer-whole job entries read left written is Replied a = (got_of job entries, is, a)
  answer-whole job entries read left written is (Refused n) a = absurd a
  answer-whole job entries read left written is ReadFault a = absurd a
  answer-whole job entries read left written is WriteFault a = a
  answer-whole job entries read left written is Memory a = a

  answer-part : (job : Job) (entries : Entries) (read : List ℕ) (left : Option (List ℕ)) (written bytes : List ℕ) → verdict_on read ≡ done (got_of job entries) → IsFrontOf written bytes → (served : Served) → AnswersBy may job entries served bytes → IsPartOfReply may read left written
  answer-part job entries read left written bytes is front Replied a =
      inl (bytes, (subst (λ (v : Verdict Got). IsReply may v bytes) (sym is) a, λ e. absurd (let never : done (got_of job entries) ≡ going = sym is ∙ e in cc)), front)
  answer-part job entries read left written bytes is front (Refused n) a = absurd a
  answer-part job entries read left written bytes is front ReadFault a = absurd a
  answer-part job entries read left written bytes is front WriteFault a = absurd a
  answer-part job entries read left written bytes is front Memory a = inr (subst (IsFrontOf written) a front)

  answer-tells : (job : Job) (entries : Entries) (read : List ℕ) (left : Option (List ℕ)) (written : List ℕ) → verdict_on read ≡ done (got_of job entries) → (ended : Result Served sink.WriteFault) → PutTells (AnswersBy may job entries) ended written → TellsExactly may ended read left written
  answer-tells job entries read left written is (Ok served) t = answer-whole job entries read left written is served t
  answer-tells job entries read left written is (Err e) t = answer-part job entries read left written t.1 is t.3 t.0 t.2

  pub served-reply : {left left' held held' : Option (List ℕ)} {reads reads' puts puts' : ℕ} {ended : Result Served sink.WriteFault} (job : Job) (entries : Entries) → IsRequestRead left left' reads reads' (Ok (job, entries))
      → IsReplyPut (AnswersBy may job entries) held held' puts puts' ended → IsServedExactly may left left' reads reads' held held' puts puts' ended
  served-reply {left' = left'} {ended = ended} job entries r p = record {
    read = r.read;
    written = p.written;
    taken = r.taken;
    put = p.put;
    in_time = r.in_time;
    firm = λ due more. firm r.read more due;
    tells = answer-tells job entries r.read left' p.written r.tells.0 ended p.tells;
    later_reads = r.later;
    later_puts = p.cause.later;
    read_cause = λ is. absurd (subst (λ (x : Result Served sink.WriteFault). PutTells (AnswersBy may job entries) x p.written) is p.tells);
    write_cause = p.cause.rose;
  }

  -- THE SOURCE FAILED

  served-fault : {left left' : Option (List ℕ)} {reads reads' : ℕ} → IsRequestRead left left' reads reads' (Err no.Fault) → (held : Option (List ℕ)) (puts : ℕ) → IsServedExactly may left left' reads reads' held held puts puts (Ok ReadFault)
  served-fault r held puts = record {
    read = r.read;
    written = [];
    taken = r.taken;
    put = added-nothing held;
    in_time = r.in_time;
    firm = λ due more. firm r.read more due;
    tells = (refl, r.tells.0);
    later_reads = r.later;
    later_puts = omega arith;
    read_cause = λ is. r.tells.1;
    write_cause = λ (is : ◌≡◌ {A = Result Served sink.WriteFault} (Ok ReadFault) (Err fault.Fault)). absurd (cc);
  }

  -- THE BYTES WERE REFUSED

  -- the refusal of a reason of the bytes
  refusal-tells : (e : FrameError) (read : List ℕ) (left : Option (List ℕ)) (written : List ℕ) → IsReasonOf read (number_of e) ⊎ IsCut read left (number_of e) → written ≡ reply_bytes (answer.Refused (number_of e)) → TellsWhole may (refusal_served e) read left written
  refusal-tells why.Memory read left written is w = absurd (not-one read left is)
  refusal-tells why.Version read left written is w = (w, is)
  refusal-tells why.Token read left written is w = (w, is)
  refusal-tells why.Digits read left written is w = (w, is)
  refusal-tells why.Limit read left written is w = (w, is)
  refusal-tells why.Order read left written is w = (w, is)
  refusal-tells why.Parent read left written is w = (w, is)
  refusal-tells why.Words read left written is w = (w, is)
  refusal-tells why.Cut read left written is w = (w, is)

  refusal-whole : (e : FrameError) (read : List ℕ) (left : Option (List ℕ)) (written : List ℕ) → Reasoned e read left → written ≡ reply_bytes (answer.Refused (number_of e)) → TellsWhole may (refusal_served e) read left written
  refusal-whole e read left written (inl memory) w =
      subst (λ (x : FrameError). TellsWhole may (refusal_served x) read left written) (sym memory) (w ∙ ap (λ (x : FrameError). reply_bytes (answer.Refused (number_of x))) memory)
  refusal-whole e read left written (inr is) w = refusal-tells e read left written is w

  refusal-reply : (n : ℕ) (read : List ℕ) (left : Option (List ℕ)) (bytes : List ℕ) → IsReasonOf read n ⊎ IsCut read left n → bytes ≡ reply_bytes (answer.Refused n) → IsReplyTo may read left bytes
  refusal-reply n read left bytes (inl is) b = (subst (λ (v : Verdict Got). IsReply may v bytes) (sym is.0) b, λ e. absurd (let never : reason n ≡ going = sym is.0 ∙ e in cc))
  refusal-reply n read left bytes (inr is) b = (subst (λ (v : Verdict Got). IsReply may v bytes) (sym is.1) (b ∙ ap (λ (k : ℕ). reply_bytes (answer.Refused k)) is.0), λ e. is.2)

  refusal-part : (e : FrameError) (read : List ℕ) (left : Option (List ℕ)) (written bytes : List ℕ) → Reasoned e read left → bytes ≡ reply_bytes (answer.Refused (number_of e)) → IsFrontOf written bytes → IsPartOfReply may read left written
  refusal-part e read left written bytes (inl memory) b front = inr (subst (IsFrontOf written) (b ∙ ap (λ (x : FrameError). reply_bytes (answer.Refused (number_of x))) memory) front)
  refusal-part e read left written bytes (inr is) b front = inl (bytes, refusal-reply (number_of e) read left bytes is b, front)

  refused-tells : (e : FrameError) (read : List ℕ) (left : Option (List ℕ)) (written : List ℕ) → Reasoned e read left → (ended : Result Served sink.WriteFault) → PutTells (OnlyReply (refusal_served e) (reply_bytes (answer.Refused (number_of e)))) ended written
      → TellsExactly may ended read left written
  refused-tells e read left written is (Ok served) t = subst (λ (s : Served). TellsWhole may s read left written) (sym t.0) (refusal-whole e read left written is t.1)
  refused-tells e read left written is (Err x) t = refusal-part e read left written t.1 is t.2.1 t.3

  served-refusal : {left left' held held' : Option (List ℕ)} {reads reads' puts puts' : ℕ} {ended : Result Served sink.WriteFault} (e : FrameError) → IsRequestRead left left' reads reads' (Err (no.Refused e))
      → IsReplyPut (OnlyReply (refusal_served e) (reply_bytes (answer.Refused (number_of e)))) held held' puts puts' ended → IsServedExactly may left left' reads reads' held held' puts puts' ended
  served-refusal {left' = left'} {ended = ended} e r p = record {
    read = r.read;
    written = p.written;
    taken = r.taken;
    put = p.put;
    in_time = r.in_time;
    firm = λ due more. firm r.read more due;
    tells = refused-tells e r.read left' p.written r.tells ended p.tells;
    later_reads = r.later;
    later_puts = p.cause.later;
    read_cause = λ is. absurd (refusal-reads e ((subst (λ (x : Result Served sink.WriteFault). PutTells (OnlyReply (refusal_served e) (reply_bytes (answer.Refused (number_of e)))) x p.written) is p.tells).0));
    write_cause = p.cause.rose;
  }

  pub served-none : {left left' held held' : Option (List ℕ)} {reads reads' puts puts' : ℕ} {ended : Result Served sink.WriteFault} (e : NoRequest) → IsRequestRead left left' reads reads' (Err e) → IsUnserved e held held' puts puts' ended
      → IsServedExactly may left left' reads reads' held held' puts puts' ended
  served-none {left} {left'} {held} {held'} {reads} {reads'} {puts} {puts'} no.Fault r u =
      subst (λ (x : Result Served sink.WriteFault). IsServedExactly may left left' reads reads' held held' puts puts' x) (sym u.0)
      (subst (λ (h : Option (List ℕ)). IsServedExactly may left left' reads reads' held h puts puts' (Ok ReadFault)) (sym u.1)
      (subst (λ (p : ℕ). IsServedExactly may left left' reads reads' held held puts p (Ok ReadFault)) (sym u.2) (served-fault r held puts)))
  served-none (no.Refused e) r u = served-refusal e r u

-- WHERE THE SINK'S ERRORS ARE AMONG THE ENDS

front-reads : (e : sink.WriteFault) → fault_served e ≡ ReadFault → ⊥
front-reads fault.Fault is = cc
front-reads fault.Memory is = cc

front-writes : (e : sink.WriteFault) → fault_served e ≡ WriteFault → e ≡ fault.Fault
front-writes fault.Fault is = refl
front-writes fault.Memory is = absurd (cc)

module _ (may : Job → Entries → Answer → Type 0) where
  whole-tells : (served : Served) (read : List ℕ) (left : Option (List ℕ)) (written : List ℕ) → TellsWhole may served read left written → TellsServed may served read left written
  whole-tells Replied read left written t = t
  whole-tells (Refused n) read left written t = t
  whole-tells ReadFault read left written t = t
  whole-tells WriteFault read left written t = absurd t
  whole-tells Memory read left written t = inr (whole-front written (reply_bytes (answer.Refused 1)) t)

  front-tells : (e : sink.WriteFault) (read : List ℕ) (left : Option (List ℕ)) (written : List ℕ) → IsPartOfReply may read left written → TellsServed may (fault_served e) read left written
  front-tells fault.Fault read left written t = t
  front-tells fault.Memory read left written t = t

  pub whole-served : {left left' held held' : Option (List ℕ)} {reads reads' puts puts' : ℕ} (served : Served) → IsServedExactly may left left' reads reads' held held' puts puts' (Ok served) → IsServed may left left' reads reads' held held' puts puts' served
  whole-served {left' = left'} served s = record {
    read = s.read;
    written = s.written;
    taken = s.taken;
    put = s.put;
    in_time = s.in_time;
    firm = s.firm;
    tells = whole-tells served s.read left' s.written s.tells;
    later_reads = s.later_reads;
    later_puts = s.later_puts;
    read_cause = λ is. s.read_cause (ap Ok is);
    write_cause = λ is. absurd (subst (λ (x : Served). TellsWhole may x s.read left' s.written) is s.tells);
  }

  pub front-served : {left left' held held' : Option (List ℕ)} {reads reads' puts puts' : ℕ} (e : sink.WriteFault) → IsServedExactly may left left' reads reads' held held' puts puts' (Err e) → IsServed may left left' reads reads' held held' puts puts' (fault_served e)
  front-served {left' = left'} e s = record {
    read = s.read;
    written = s.written;
    taken = s.taken;
    put = s.put;
    in_time = s.in_time;
    firm = s.firm;
    tells = front-tells e s.read left' s.written s.tells;
    later_reads = s.later_reads;
    later_puts = s.later_puts;
    read_cause = λ is. absurd (front-reads e is);
    write_cause = λ is. s.write_cause (ap Err (front-writes e is));
  }
