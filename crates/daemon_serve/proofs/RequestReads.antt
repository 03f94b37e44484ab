-- Reading a request, piece by piece.
use Rattle.std.proofs.Common.{◌≡◌, ℕ, ◌≤◌, List, [], ◌++◌, length, refl, sym, ◌∙◌, ap, subst, arith, append_assoc, inl, inr, Option, None, Some, Ok, Err}
use Rattle.std.specs.Prelude.{◌⊎◌}
use Rattle.std.specs.Io.KnownBytes.{prepend_known, IsAtEnd}
use Rattle.std.proofs.lemmas.List.{append-nil}
use Rattle.base_types.specs.Causes.{Rose}
use Rattle.io_edges.specs.declared.source.ReadFault.{ReadFault}
use Rattle.io_edges.specs.declared.source.ReadFault.TheVariants.{Fault}
use Rattle.tree_model.specs.Entries.{Entries}
use Rattle.job_words.specs.declared.job.Job.{Job}
use Rattle.job_frames.specs.declared.Fed.{Fed}
use Rattle.job_frames.specs.declared.Fed.TheVariants as fed
use Rattle.job_frames.specs.declared.FrameError.{FrameError}
use Rattle.job_frames.specs.declared.FrameError.TheVariants as why
use Rattle.job_frames.specs.Fields.{letters_at, number_at}
use Rattle.job_frames.specs.Outcomes.{going, done, reason, Left, IsFed, Tells, number_of}
use Rattle.job_frames.specs.parts.Readers.{request_of}
use Rattle.job_frames.specs.Request.{Got, request_from}
use Rattle.job_frames.specs.Laws.{RequestsAreSpelled, RequestsMakeTrees, RequestsHaveSmallBodies, RequestsHaveReasons}
use Rattle.daemon_serve.specs.declared.reading.NoRequest.{NoRequest}
use Rattle.daemon_serve.specs.declared.reading.NoRequest.TheVariants as no
use Rattle.daemon_serve.specs.Serving.{piece_limit, verdict_on, StopsInTime, IsReasonOf, IsCut}
use Rattle.daemon_serve.specs.parts.Parts.{HasWhole, IsReading, IsRequestFed, IsRequestRead}
use Rattle.daemon_serve.proofs.WholeRequests.{got_of, given-by, request-of}

prepend-nil : (told : Option (List ℕ)) → told ≡ prepend_known [] told
prepend-nil None = refl
prepend-nil (Some bytes) = refl

prepend-both : (a b : List ℕ) (told : Option (List ℕ)) → prepend_known a (prepend_known b told) ≡ prepend_known (a ++ b) told
prepend-both a b None = refl
prepend-both a b (Some bytes) = ap Some (sym (append_assoc a b bytes))

-- a failed read has one cause
pub only-fault : (e : ReadFault) → e ≡ Fault
only-fault Fault = refl

nothing-read : verdict_on [] ≡ going
unfolding request_from number_at letters_at
nothing-read = refl

pub begun : (told : Option (List ℕ)) (faults : ℕ) (reader : Left Got) → ((bytes : List ℕ) → reader bytes ≡ verdict_on bytes) → IsReading told told faults faults reader
begun told faults reader says = record { read = []; taken = prepend-nil told; says = says; due = nothing-read; later = omega arith }

module _ {told left : Option (List ℕ)} {reads reads' : ℕ} {reader : Left Got} (r : IsReading told left reads reads' reader) (left' : Option (List ℕ)) (faults : ℕ) (later : reads' ≤ faults) where
  -- what was read with one more piece
  taken-more : (piece : List ℕ) → left ≡ prepend_known piece left' → told ≡ prepend_known (r.read ++ piece) left'
  taken-more piece e = r.taken ∙ ap (prepend_known r.read) e ∙ prepend-both r.read piece left'

  in-time : (piece : List ℕ) → length piece ≤ piece_limit → StopsInTime (r.read ++ piece)
  in-time piece size = record { before = r.read; last = piece; parts = refl; piece = size; due = r.due }

  still : StopsInTime r.read
  still = record { before = r.read; last = []; parts = sym (append-nil r.read); piece = omega arith; due = r.due }

  -- the source failed
  pub read-fault : {A : Type 0} → left' ≡ left → Rose reads' faults → IsRequestFed {A = A} told left' reads faults reader (Err no.Fault)
  read-fault same rose = record { read = r.read; taken = r.taken ∙ ap (prepend_known r.read) (sym same); in_time = still; later = omega arith; tells = (r.due, omega (arith, rose)) }

  -- the source gave its end
  pub read-end : {A : Type 0} → left ≡ prepend_known [] left' → IsAtEnd left' → IsRequestFed {A = A} told left' reads faults reader (Err (no.Refused why.Cut))
  read-end e end = record {
    read = r.read;
    taken = r.taken ∙ ap (prepend_known r.read) (e ∙ sym (prepend-nil left'));
    in_time = still;
    later = omega arith;
    tells = inr (inr (refl, r.due, end));
  }

  -- nothing is wrong yet
  pub read-on : (piece : List ℕ) (after : Left Got) (answer : Fed) → left ≡ prepend_known piece left' → IsFed reader piece after answer → answer ≡ fed.More → IsReading told left' reads faults after
  read-on piece after answer e (inl f) is = record {
    read = r.read ++ piece;
    taken = taken-more piece e;
    says = λ more. f.1 more ∙ r.says (piece ++ more) ∙ ap verdict_on (sym (append_assoc r.read piece more));
    due = sym (r.says piece) ∙ subst (λ (a : Fed). Tells a (reader piece)) is f.0;
    later = omega arith;
  }
  read-on piece after answer e (inr f) is = absurd (cc)

  -- the bytes are refused
  pub read-refused : {A : Type 0} → RequestsHaveReasons → (piece : List ℕ) (after : Left Got) (answer : Fed) (error : FrameError) → length piece ≤ piece_limit → left ≡ prepend_known piece left' → IsFed reader piece after answer
      → answer ≡ fed.Refused error → IsRequestFed {A = A} told left' reads faults after (Err (no.Refused error))
  read-refused reasons piece after answer error size e f is = record {
    read = r.read ++ piece;
    taken = taken-more piece e;
    in_time = in-time piece size;
    later = omega arith;
    tells = by_fed f;
  }
    where
      by_fed : IsFed reader piece after answer → (error ≡ why.Memory) ⊎ (IsReasonOf (r.read ++ piece) (number_of error) ⊎ IsCut (r.read ++ piece) left' (number_of error))
      by_fed (inl g) =
          let is_reason : verdict_on (r.read ++ piece) ≡ reason (number_of error) = sym (r.says piece) ∙ subst (λ (a : Fed). Tells a (reader piece)) is g.0 in
          let within = reasons (r.read ++ piece) (number_of error) is_reason in
          inr (inl (is_reason, within.0, within.1))
      by_fed (inr g) = inl (cc)

  -- a whole request has come
  pub read-whole : {A : Type 0} → (piece : List ℕ) (after : Left Got) (answer : Fed) (x : A) → length piece ≤ piece_limit → left ≡ prepend_known piece left' → IsFed reader piece after answer → answer ≡ fed.Done
      → IsRequestFed told left' reads faults after (Ok x)
  read-whole piece after answer x size e (inl f) is =
      let tells : (a : Got) × (reader piece ≡ done a) = subst (λ (a : Fed). Tells a (reader piece)) is f.0 in
      record {
        read = r.read ++ piece;
        taken = taken-more piece e;
        in_time = in-time piece size;
        later = omega arith;
        tells = (tells.0, f.1 [] ∙ ap reader (append-nil piece) ∙ r.says piece, sym (r.says piece) ∙ tells.1);
      }
  read-whole piece after answer x size e (inr f) is = absurd (cc)

-- the turns ran out
pub read-out : {A : Type 0} {told left : Option (List ℕ)} {reads reads' : ℕ} {reader : Left Got} → IsReading told left reads reads' reader → IsRequestFed {A = A} told left reads reads' reader (Err (no.Refused why.Memory))
read-out r = record { read = r.read; taken = r.taken; in_time = record { before = r.read; last = []; parts = sym (append-nil r.read); piece = omega arith; due = r.due }; later = r.later; tells = inl refl }

-- a reader that was fed a whole request, the request, and none
pub has-whole : {A : Type 0} {told left : Option (List ℕ)} {reads reads' : ℕ} {reader : Left Got} (x : A) → IsRequestFed told left reads reads' reader (Ok x) → HasWhole reader
has-whole x r = (r.read, r.tells.0, r.tells.1, r.tells.2)

pub whole-read : {A : Type 0} {told left : Option (List ℕ)} {reads reads' : ℕ} {reader : Left Got} (x : A) → RequestsAreSpelled → RequestsMakeTrees → RequestsHaveSmallBodies → IsRequestFed told left reads reads' reader (Ok x) → (job : Job) (entries : Entries) → request_of (reader []) ≡ Some (job, entries)
    → IsRequestRead told left reads reads' (Ok (job, entries))
whole-read {reader = reader} x spelled trees bodies r job entries given =
    let whole : verdict_on r.read ≡ done (got_of job entries) = sym r.tells.1 ∙ given-by (reader []) job entries given in
    let request = request-of spelled r.read (got_of job entries) whole in
    record { read = r.read; taken = r.taken; in_time = r.in_time; later = r.later; tells = (whole, trees request.0 entries request.1, bodies request.0 entries request.1) }

pub none_read : {A : Type 0} {told left : Option (List ℕ)} {reads reads' : ℕ} {reader : Left Got} (e : NoRequest) → IsRequestFed {A = A} told left reads reads' reader (Err e) → IsRequestRead told left reads reads' (Err e)
none_read e r = record { read = r.read; taken = r.taken; in_time = r.in_time; later = r.later; tells = r.tells }
