-- What a field of a reply that is due, and what is due behind it, are.
use Rattle.std.proofs.Common.{◌≡◌, ℕ, ◌<◌, ◌≤◌, refl, arith, Option, Some, None, cond, true, false, Bool}
use Rattle.std.specs.Prelude.{◌==◌}
use Rattle.job_frames.specs.declared.answer.Answer.{Answer}
use Rattle.job_frames.specs.declared.field.Field.{Field}
use Rattle.job_frames.specs.declared.field.Field.TheVariants as field
use Rattle.job_frames.specs.declared.reply_frame.ReplyToken.{ReplyToken}
use Rattle.job_frames.specs.declared.reply_frame.ReplyToken.TheVariants.{Refusal, Version, Status, NoWords, Words, NoText, Text}
use Rattle.job_frames.specs.declared.reply_frame.ReplyBody.{ReplyBody}
use Rattle.job_frames.specs.declared.reply_frame.ReplyBody.TheVariants as body
use Rattle.job_frames.specs.declared.reply_frame.ReplyDue.{ReplyDue}
use Rattle.job_frames.specs.declared.reply_frame.ReplyDue.TheVariants as due
use Rattle.job_frames.specs.Formats.{Format}
use Rattle.job_frames.specs.Reply.{text_body_from, text_from, no_diagnostic_from, diagnostic_body_from, diagnostic_from, status_from, done_from, refusal_from, reply_from}
use Rattle.job_frames.specs.parts.Dues.{due_of, is_token_due, passed, behind_token, at_letter}
use Rattle.job_frames.specs.parts.ReplyStages.{given_answer, token_format, body_format, format_of, letters_of, judge_of, next_of, answer_of, answer_fits, first_of, field_of, rank, token_rank, Present, Ready}
use Rattle.job_frames.proofs.ReplySpelled.{within_passes}

given_whole : (o : Option Answer) → Present o → due_of (given_answer o) ≡ Some (field_of due.Whole)
given_whole None h = absurd h
given_whole (Some a) h = refl

pub field_is : (d : ReplyDue) (v g : ℕ) (o : Option Answer) → Ready d o → due_of (format_of d v g o) ≡ Some (field_of d)
unfolding token_format body_format letters_of reply_from refusal_from done_from status_from no_diagnostic_from diagnostic_from text_from diagnostic_body_from text_body_from
field_is due.Start v g o ready = refl
field_is (due.Token Refusal) v g o ready = refl
field_is (due.Token Version) v g o ready = refl
field_is (due.Token Status) v g o ready = refl
field_is (due.Token NoWords) v g o ready = refl
field_is (due.Token Words) v g o ready = refl
field_is (due.Token NoText) v g o ready = refl
field_is (due.Token Text) v g o ready = refl
field_is (due.Body body.Words n) v g o ready = refl
field_is (due.Body body.Text n) v g o ready = refl
field_is due.Whole v g o ready = given_whole o ready

-- what is due behind a token's number
pub number_goes : (t : ReplyToken) (v g : ℕ) (o : Option Answer) (n : ℕ) → behind_token (token_format t v g o) n ≡ passed (judge_of t v g n) (format_of (next_of t n) v g (answer_of t n o))
unfolding token_format body_format judge_of next_of answer_of refusal_from done_from status_from no_diagnostic_from diagnostic_from text_from
number_goes Refusal v g o n = refl
number_goes Version v g o n = refl
number_goes Status v g o n = by_status (n == 0)
  where
    by_status : (b : Bool) → passed (judge_of Status v g n) (cond b no_diagnostic_from diagnostic_from) ≡ passed (judge_of Status v g n) (token_format (cond b NoWords Words) v g o)
    by_status true = refl
    by_status false = refl
number_goes NoWords v g o n = refl
number_goes Words v g o n = refl
number_goes NoText v g o n = refl
number_goes Text v g o n = refl

pub ready_next : (t : ReplyToken) (o : Option Answer) (n : ℕ) → Ready (due.Token t) o → Ready (next_of t n) (answer_of t n o)
unfolding next_of answer_of
ready_next Refusal o n h = tt
ready_next Version o n h = tt
ready_next Status o n h = by_status (n == 0)
  where
    by_status : (b : Bool) → Ready (due.Token (cond b NoWords Words)) o
    by_status true = tt
    by_status false = tt
ready_next NoWords o n h = tt
ready_next Words o n h = tt
ready_next NoText o n h = h
ready_next Text o n h = tt

pub rank_falls : (t : ReplyToken) (n : ℕ) → rank (next_of t n) < token_rank t
unfolding next_of token_rank
rank_falls Refusal n = omega arith
rank_falls Version n = omega arith
rank_falls Status n = by_status (n == 0)
  where
    by_status : (b : Bool) → token_rank (cond b NoWords Words) < 5
    by_status true = omega arith
    by_status false = omega arith
rank_falls NoWords n = omega arith
rank_falls Words n = omega arith
rank_falls NoText n = omega arith
rank_falls Text n = omega arith

-- a reason that passes is a byte
pub reason_fits : (t : ReplyToken) (v g n : ℕ) → g ≤ 255 → judge_of t v g n ≡ None → answer_fits t n
unfolding judge_of
reason_fits Refusal v g n small h = omega (arith, (within_passes 1 g n h).1)
reason_fits Version v g n small h = tt
reason_fits Status v g n small h = tt
reason_fits NoWords v g n small h = tt
reason_fits Words v g n small h = tt
reason_fits NoText v g n small h = tt
reason_fits Text v g n small h = tt

-- at the first letter
pub first_goes : (c v g : ℕ) (o : Option Answer) → at_letter (format_of due.Start v g o) c ≡ token_format (first_of c) v g o
unfolding reply_from token_format
first_goes c v g o = by_letter (c == 82)
  where
    by_letter : (b : Bool) → cond {A = Format Answer} b (refusal_from g) (done_from v) ≡ token_format (cond b Refusal Version) v g o
    by_letter true = refl
    by_letter false = refl

pub first_ready : (c : ℕ) (o : Option Answer) → Ready (due.Token (first_of c)) o
first_ready c o = by_letter (c == 82)
  where
    by_letter : (b : Bool) → Ready (due.Token (cond b Refusal Version)) o
    by_letter true = tt
    by_letter false = tt

pub first_falls : (c : ℕ) → token_rank (first_of c) < 7
unfolding token_rank
first_falls c = by_letter (c == 82)
  where
    by_letter : (b : Bool) → token_rank (cond b Refusal Version) < 7
    by_letter true = omega arith
    by_letter false = omega arith

-- which stage has a field
pub only_token : (d : ReplyDue) (o : Option Field) → o ≡ Some (field_of d) → is_token_due o ≡ true → ((t : ReplyToken) → d ≡ due.Token t → ⊥) → ⊥
only_token due.Start o e h none = absurd (cc)
only_token (due.Token t) o e h none = none t refl
only_token (due.Body b n) o e h none = absurd (cc)
only_token due.Whole o e h none = absurd (cc)

pub only_body : (d : ReplyDue) (o : Option Field) (n : ℕ) → o ≡ Some (field_of d) → o ≡ Some (field.Body n) → ((b : ReplyBody) (m : ℕ) → d ≡ due.Body b m → ⊥) → ⊥
only_body due.Start o n e h none = absurd (cc)
only_body (due.Token t) o n e h none = absurd (cc)
only_body (due.Body b m) o n e h none = none b m refl
only_body due.Whole o n e h none = absurd (cc)

pub only_start : (d : ReplyDue) (o : Option Field) → o ≡ Some (field_of d) → o ≡ Some field.Letter → d ≡ due.Start
only_start due.Start o e h = refl
only_start (due.Token t) o e h = absurd (cc)
only_start (due.Body b n) o e h = absurd (cc)
only_start due.Whole o e h = absurd (cc)

pub only_whole : (d : ReplyDue) (o : Option Field) → o ≡ Some (field_of d) → o ≡ Some field.Whole → d ≡ due.Whole
only_whole due.Start o e h = absurd (cc)
only_whole (due.Token t) o e h = absurd (cc)
only_whole (due.Body b n) o e h = absurd (cc)
only_whole due.Whole o e h = refl
