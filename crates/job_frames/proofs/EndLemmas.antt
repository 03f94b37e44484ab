-- Where the readers of requests, images and replies begin, and what they give in the end.
use Rattle.std.proofs.Common.{◌≡◌, ℕ, List, [], refl, sym, ◌∙◌, ap, subst, inl, inr, Option, Some, None, Bool, true, false}
use Rattle.std.specs.Prelude.{◌⊎◌}
use Rattle.std.specs.Option.{option_map}
use Rattle.std.proofs.lemmas.List.{append-nil}
use Rattle.job_words.specs.declared.job.Job.{Job}
use Rattle.job_frames.specs.declared.FrameError.{FrameError}
use Rattle.job_frames.specs.declared.FrameError.TheVariants.{Memory}
use Rattle.job_frames.specs.declared.Fed.TheVariants as fed
use Rattle.job_frames.specs.declared.answer.Answer.{Answer}
use Rattle.job_frames.specs.declared.machine.Machine.{Machine}
use Rattle.job_frames.specs.declared.request_due.Due.{Due}
use Rattle.job_frames.specs.declared.request_due.Due.TheVariants as due
use Rattle.job_frames.specs.declared.request_due.Token.TheVariants as token
use Rattle.job_frames.specs.declared.request_frame.Read.{Read}
use Rattle.job_frames.specs.declared.request_frame.RequestFrame.{RequestFrame}
use Rattle.job_frames.specs.declared.reply_frame.ReplyDue.{ReplyDue}
use Rattle.job_frames.specs.declared.reply_frame.ReplyDue.TheVariants as reply
use Rattle.job_frames.specs.declared.reply_frame.ReplyFrame.{ReplyFrame}
use Rattle.job_frames.specs.Fields.{short, number_at, letters_at}
use Rattle.job_frames.specs.Formats.{Format, gives, reading}
use Rattle.job_frames.specs.Outcomes.{Verdict, done, reason, Left, IsFed, frame_ended, number_of, value_of}
use Rattle.base_types.specs.Limits.{request_limit}
use Rattle.job_frames.specs.Request.{Got, request_from, image_from}
use Rattle.job_frames.specs.Reply.{reply_from}
use Rattle.job_frames.specs.parts.Machines.{left_verdict, KeepsReader, IsWholeFrame}
use Rattle.job_frames.specs.parts.Readers.{Standing, left, request_of}
use Rattle.job_frames.specs.parts.Stages.{format_of, token_format, Keeps, Ready, Begins}
use Rattle.job_frames.specs.parts.ReplyReaders.{reply_left}
use Rattle.job_frames.specs.parts.ReplyStages as replies
use Rattle.job_frames.specs.parts.ReplyStages.{given_answer, Present}
use Rattle.job_frames.proofs.ReaderLemmas.{value_is}
use Rattle.job_frames.proofs.StageLemmas.{field_is, only_whole}
use Rattle.job_frames.proofs.ReplyStageLemmas as reply_lemmas

-- BEGINNINGS

version_format : (d : Due) (r : Read) → d ≡ due.Token token.Version → r.version ≡ 0x103 → r.room ≡ request_limit → format_of d r ≡ request_from 0x103 request_limit
unfolding token_format
version_format d r e v h = ap (λ (x : Due). format_of x r) e ∙ ap (λ (n : ℕ). request_from n r.room) v ∙ ap (request_from 0x103) h

pub begins_request : (f : RequestFrame) → Begins token.Version f → format_of f.due f.read ≡ request_from 0x103 request_limit
begins_request f b = version_format f.due f.read b.due_is b.version b.room

count_format : (d : Due) (r : Read) → d ≡ due.Token token.Count → r.job ≡ None → r.room ≡ request_limit → format_of d r ≡ image_from None request_limit
unfolding token_format
count_format d r e j h = ap (λ (x : Due). format_of x r) e ∙ ap (λ (o : Option Job). image_from o r.room) j ∙ ap (image_from None) h

pub begins_image : (f : RequestFrame) → Begins token.Count f → format_of f.due f.read ≡ image_from None request_limit
begins_image f b = count_format f.due f.read b.due_is b.job b.room

pub begins_reply : (f : ReplyFrame) → f.due ≡ reply.Start → f.version ≡ 0x103 → f.greatest ≡ 9 → replies.format_of f.due f.version f.greatest f.answer ≡ reply_from 0x103 9
begins_reply f e v g = ap (λ (d : ReplyDue). replies.format_of d f.version f.greatest f.answer) e ∙ ap (λ (n : ℕ). reply_from n f.greatest) v ∙ ap (reply_from 0x103) g

request_waits : reading (request_from 0x103 request_limit) [] ≡ short
unfolding request_from number_at letters_at
request_waits = refl

image_waits : reading (image_from None request_limit) [] ≡ short
unfolding image_from number_at letters_at
image_waits = refl

reply_waits : reading (reply_from 0x103 9) [] ≡ short
unfolding reply_from
reply_waits = refl

pub waits_request : (f : Format Got) → f ≡ request_from 0x103 request_limit → reading f [] ≡ short
waits_request f e = ap (λ (x : Format Got). reading x []) e ∙ request_waits

pub waits_image : (f : Format Got) → f ≡ image_from None request_limit → reading f [] ≡ short
waits_image f e = ap (λ (x : Format Got). reading x []) e ∙ image_waits

pub waits_reply : (f : Format Answer) → f ≡ reply_from 0x103 9 → reading f [] ≡ short
waits_reply f e = ap (λ (x : Format Answer). reading x []) e ∙ reply_waits

-- ENDS

abbrev pub got : Read → Got
got r = record { job = r.job; entries = r.entries }

one_value : {A : Type 0} (a v : A) → gives a ≡ gives v → v ≡ a
one_value a v h = cc

pub gives_got : (d : Due) (r : Read) (v : Got) → Ready d r → IsWholeFrame (format_of d r) → format_of d r ≡ gives v → v ≡ got r
gives_got d r v ready is h = one_value (got r) v (sym (ap (λ (x : Due). format_of x r) (only_whole d _ (field_is d r ready) is)) ∙ h)

given_is : (o : Option Answer) (v : Answer) → given_answer o ≡ gives v → Some v ≡ o
given_is None v h = absurd (cc)
given_is (Some a) v h = ap Some (one_value a v h)

pub gives_answer : (d : ReplyDue) (v g : ℕ) (o : Option Answer) (a : Answer) → replies.Ready d o → IsWholeFrame (replies.format_of d v g o) → replies.format_of d v g o ≡ gives a → Some a ≡ o
gives_answer d v g o a ready is h = given_is o a (sym (ap (λ (x : ReplyDue). replies.format_of x v g o) (reply_lemmas.only_whole d _ (reply_lemmas.field_is d v g o ready) is)) ∙ h)

abbrev request_format : RequestFrame → Format Got
request_format f = format_of f.due f.read

abbrev request_keeps : RequestFrame → Type 0
request_keeps f = Keeps f.due f.read

-- where all of a request or an image has come
pub whole_got : (follows : Bool) (o : Option FrameError) (m : Machine RequestFrame) → KeepsReader request_format request_keeps o m → o ≡ None → IsWholeFrame (request_format m.frame)
    → left_verdict follows o (request_format m.frame) m.pending.items [] ≡ done (got m.frame.read)
whole_got follows (Some e) m kept none is = absurd (cc)
whole_got follows None m kept none is = value_is request_format request_keeps follows None m (got m.frame.read) kept none is (λ v h. gives_got m.frame.due m.frame.read v kept.0.kept.ready is h)

-- what finish gives of a request
pub request_says : (o : Option FrameError) (m : Machine RequestFrame) (s : Standing) (job : Option Job) → (o, m.frame.due, m.pending.items, m.frame.read) ≡ s → KeepsReader request_format request_keeps o m → o ≡ None → IsWholeFrame (request_format m.frame)
    → m.frame.read.job ≡ job → option_map (λ (j : Job). (j, m.frame.read.entries)) job ≡ request_of (left s [])
request_says o m s job view kept none is e =
    ap (λ (x : Option Job). option_map (λ (j : Job). (j, m.frame.read.entries)) x) (sym e)
    ∙ ap request_of (sym (whole_got true o m kept none is)) ∙ ap (λ (x : Standing). request_of (left x [])) view

-- what finish gives of a reply
pub reply_says : (o : Option FrameError) (m : Machine ReplyFrame) → KeepsReader (λ (f : ReplyFrame). replies.format_of f.due f.version f.greatest f.answer) replies.Keeps o m → o ≡ None
    → IsWholeFrame (replies.format_of m.frame.due m.frame.version m.frame.greatest m.frame.answer) → m.frame.answer ≡ value_of (reply_left (o, m.frame.due, m.pending.items, (m.frame.version, m.frame.greatest, m.frame.answer)) [])
reply_says (Some e) m kept none is = absurd (cc)
reply_says None m kept none is = by_answer m.frame.answer refl
  where
    by_answer : (a : Option Answer) → m.frame.answer ≡ a → m.frame.answer ≡ value_of (reply_left (None, m.frame.due, m.pending.items, (m.frame.version, m.frame.greatest, m.frame.answer)) [])
    by_answer None e = absurd (subst Present e (subst (λ (d : ReplyDue). replies.Ready d m.frame.answer) (reply_lemmas.only_whole m.frame.due _ (reply_lemmas.field_is m.frame.due m.frame.version m.frame.greatest m.frame.answer kept.0.kept.ready) is) kept.0.kept.ready))
    by_answer (Some a) e =
        e ∙ ap value_of (sym (value_is (λ (f : ReplyFrame). replies.format_of f.due f.version f.greatest f.answer) replies.Keeps false None m a kept none is
        (λ v h. some_one v a (gives_answer m.frame.due m.frame.version m.frame.greatest m.frame.answer v kept.0.kept.ready is h ∙ e))))
      where
        some_one : (v a : Answer) → Some v ≡ Some a → v ≡ a
        some_one v a h = cc

-- IMAGES

pub image_refused : (before after : Left Got) (image : List ℕ) (e : FrameError) (v : Verdict Got) → before image ≡ v → IsFed before image after (fed.Refused e) → (e ≡ Memory) ⊎ (frame_ended v ≡ reason (number_of e))
image_refused before after image e v is (inl h) = inr (ap frame_ended (sym is ∙ h.0))
image_refused before after image e v is (inr h) = inl (same e Memory h.1)
  where
    same : (x y : FrameError) → fed.Refused x ≡ fed.Refused y → x ≡ y
    same x y h = cc

pub image_more : (before after : Left Got) (image : List ℕ) (v : Verdict Got) → before image ≡ v → IsFed before image after fed.More → frame_ended v ≡ reason 9
image_more before after image v is (inl h) = ap frame_ended (sym is ∙ h.0)
image_more before after image v is (inr h) = absurd (never h.1)
  where
    never : fed.More ≡ fed.Refused Memory → ⊥
    never h = cc

pub image_done : (before after : Left Got) (image : List ℕ) (v : Verdict Got) (is_whole : Bool) (g : Got) → before image ≡ v → IsFed before image after fed.Done → (is_whole ≡ false → value_of (after []) ≡ None) → (is_whole ≡ true → after [] ≡ done g)
    → option_map (λ (x : Got). x.entries) (value_of v) ≡ Some g.entries
image_done before after image v b g is (inr h) other whole = absurd (never h.1)
  where
    never : fed.Done ≡ fed.Refused Memory → ⊥
    never h = cc
image_done before after image v true g is (inl h) other whole =
    ap (λ (x : Verdict Got). option_map (λ (y : Got). y.entries) (value_of x)) (sym is ∙ ap before (sym (append-nil image)) ∙ sym (h.1 []) ∙ whole refl)
image_done before after image v false g is (inl h) other whole =
    absurd (never h.0.0 (sym (ap value_of (h.1 [] ∙ ap before (append-nil image) ∙ h.0.1)) ∙ other refl))
  where
    never : (a : Got) → Some a ≡ None → ⊥
    never a h = cc
