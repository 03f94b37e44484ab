-- Where a reader of replies stands: which field is due, and the format from there on.
use Rattle.std.specs.Prelude.{◌≤◌, ℕ, List, Option, Some, None, codes, ◌==◌, if◌then◌else◌, Result}
use Rattle.base_types.specs.Limits.{diagnostic_limit, text_limit}
use Rattle.base_types.specs.Ascii as ascii
use Rattle.job_frames.specs.declared.FrameError.{FrameError}
use Rattle.job_frames.specs.declared.answer.Answer.{Answer}
use Rattle.job_frames.specs.declared.field.Field.{Field}
use Rattle.job_frames.specs.declared.field.Field.TheVariants as field
use Rattle.job_frames.specs.declared.reply_frame.ReplyToken.{ReplyToken}
use Rattle.job_frames.specs.declared.reply_frame.ReplyToken.TheVariants.{Refusal, Version, Status, NoWords, Words, NoText, Text}
use Rattle.job_frames.specs.declared.reply_frame.ReplyBody.{ReplyBody}
use Rattle.job_frames.specs.declared.reply_frame.ReplyBody.TheVariants as body
use Rattle.job_frames.specs.declared.reply_frame.ReplyDue.{ReplyDue}
use Rattle.job_frames.specs.declared.reply_frame.ReplyDue.TheVariants as due
use Rattle.job_frames.specs.declared.reply_frame.ReplyFrame.{ReplyFrame}
use Rattle.job_frames.specs.declared.answer.Answer.TheVariants as said
use Rattle.job_frames.specs.Fields.{order_reason, version_reason, within, only}
use Rattle.job_frames.specs.Formats.{Format, gives, refuses, due_token}
use Rattle.job_frames.specs.Reply.{allowed, status_judge, text_body_from, text_from, no_diagnostic_from, diagnostic_body_from, diagnostic_from, status_from, done_from, refusal_from, reply_from}
use Rattle.job_frames.specs.parts.Dues.{Went}

-- the answer that was read, where there is one
abbrev pub given_answer : Option Answer → Format Answer
given_answer None = refuses order_reason
given_answer (Some a) = gives a

-- the format where a token is due, by the version and the greatest reason, with the answer so far
unfoldable pub token_format : ReplyToken → ℕ → ℕ → Option Answer → Format Answer
token_format Refusal v g o = refusal_from g
token_format Version v g o = done_from v
token_format Status v g o = status_from
token_format NoWords v g o = no_diagnostic_from
token_format Words v g o = diagnostic_from
token_format NoText v g o = due_token (codes "DOTI") (allowed text_limit 0 0) (λ n. given_answer o)
token_format Text v g o = text_from

unfoldable pub body_format : ReplyBody → ℕ → Format Answer
body_format body.Words n = diagnostic_body_from n
body_format body.Text n = text_body_from n

abbrev pub format_of : ReplyDue → ℕ → ℕ → Option Answer → Format Answer
format_of due.Start v g o = reply_from v g
format_of (due.Token t) v g o = token_format t v g o
format_of (due.Body b n) v g o = body_format b n
format_of due.Whole v g o = given_answer o

-- the letters of a token, and what its number may be
unfoldable pub letters_of : ReplyToken → List ℕ
letters_of Refusal = codes "RFSE"
letters_of Version = codes "DONE"
letters_of Status = codes "STAT"
letters_of NoWords = codes "SERR"
letters_of Words = codes "SERR"
letters_of NoText = codes "DOTI"
letters_of Text = codes "DOTI"

unfoldable pub judge_of : ReplyToken → ℕ → ℕ → ℕ → Option ℕ
judge_of Refusal v g n = within 1 g n
judge_of Version v g n = only v version_reason n
judge_of Status v g n = status_judge n
judge_of NoWords v g n = allowed diagnostic_limit 0 0 n
judge_of Words v g n = allowed diagnostic_limit 1 diagnostic_limit n
judge_of NoText v g n = allowed text_limit 0 0 n
judge_of Text v g n = allowed text_limit 0 text_limit n

-- the token of a reply, by its first letter
abbrev pub first_of : ℕ → ReplyToken
first_of c = if c == ascii.upper_r then Refusal else Version

-- the field that is due
abbrev pub field_of : ReplyDue → Field
field_of due.Start = field.Letter
field_of (due.Token t) = field.Token (letters_of t)
field_of (due.Body b n) = field.Body n
field_of due.Whole = field.Whole

-- the field behind a token
unfoldable pub next_of : ReplyToken → ℕ → ReplyDue
next_of Refusal n = due.Whole
next_of Version n = due.Token Status
next_of Status n = due.Token (if n == 0 then NoWords else Words)
next_of NoWords n = due.Token Text
next_of Words n = due.Body body.Words n
next_of NoText n = due.Whole
next_of Text n = due.Body body.Text n

-- the answer behind a token
unfoldable pub answer_of : ReplyToken → ℕ → Option Answer → Option Answer
answer_of Refusal n o = Some (said.Refused n)
answer_of _ n o = o

-- a reason is a byte
abbrev pub answer_fits : ReplyToken → ℕ → Type 0
answer_fits Refusal n = n ≤ 255
answer_fits _ n = Unit {0}

-- how many fields may be due yet
unfoldable pub token_rank : ReplyToken → ℕ
token_rank Refusal = 1
token_rank Version = 6
token_rank Status = 5
token_rank NoWords = 4
token_rank Words = 4
token_rank NoText = 1
token_rank Text = 3

abbrev pub rank : ReplyDue → ℕ
rank due.Start = 7
rank (due.Token t) = token_rank t
rank (due.Body b n) = 2
rank due.Whole = 0

-- an answer was read
abbrev pub Present : Option Answer → Type 0
Present None = ⊥
Present (Some a) = Unit {0}

-- how the answer is where this field is due
abbrev pub Ready : ReplyDue → Option Answer → Type 0
Ready (due.Token NoText) o = Present o
Ready due.Whole o = Present o
Ready _ o = Unit {0}

pub record Keeps (f : ReplyFrame) : Type 0 where
  pub small : f.greatest ≤ 255
  pub ready : Ready f.due f.answer

-- the frame went on to where this is due
abbrev pub Goes : Format Answer → ℕ → ReplyFrame → Result (Unit {0}) FrameError → Type 0
Goes next bound new result = Went (λ (f : ReplyFrame). format_of f.due f.version f.greatest f.answer) (λ (f : ReplyFrame). rank f.due) Keeps next bound new result
