-- Replies: their format, from its last field to its first.
use Rattle.std.specs.Prelude.{ℕ, ◌&&◌, ◌||◌, List, if◌then◌else◌, nat_lt, nat_le, ◌==◌, Option, Some, None, codes}
use Rattle.base_types.specs.Limits.{diagnostic_limit, text_limit}
use Rattle.base_types.specs.Ascii as ascii
use Rattle.job_frames.specs.declared.answer.Answer.{Answer}
use Rattle.job_frames.specs.declared.answer.Answer.TheVariants.{Text, Diag, Refused}
use Rattle.job_frames.specs.Fields.{Step, version_reason, limit_reason, order_reason, within, only}
use Rattle.job_frames.specs.Formats.{Format, gives, due_token, due_body, due_letter, reading}

-- a number above a limit is one reason, another that its status doesn't allow is another
abbrev pub allowed : ℕ → ℕ → ℕ → ℕ → Option ℕ
allowed limit low high n =
    if nat_lt limit n then Some limit_reason
    else (if nat_le low n && nat_le n high then None else Some order_reason)

abbrev pub status_judge : ℕ → Option ℕ
status_judge n = if (n == 0) || (n == 0x100) then None else Some limit_reason

unfoldable pub text_body_from : ℕ → Format Answer
text_body_from n = due_body n (λ text. gives (Text text))

unfoldable pub text_from : Format Answer
text_from = due_token (codes "DOTI") (allowed text_limit 0 text_limit) text_body_from

unfoldable pub no_diagnostic_from : Format Answer
no_diagnostic_from = due_token (codes "SERR") (allowed diagnostic_limit 0 0) (λ n. text_from)

unfoldable pub no_text_from : List ℕ → Format Answer
no_text_from words = due_token (codes "DOTI") (allowed text_limit 0 0) (λ n. gives (Diag words))

unfoldable pub diagnostic_body_from : ℕ → Format Answer
diagnostic_body_from n = due_body n no_text_from

unfoldable pub diagnostic_from : Format Answer
diagnostic_from = due_token (codes "SERR") (allowed diagnostic_limit 1 diagnostic_limit) diagnostic_body_from

unfoldable pub status_from : Format Answer
status_from = due_token (codes "STAT") status_judge (λ n. if n == 0 then no_diagnostic_from else diagnostic_from)

unfoldable pub done_from : ℕ → Format Answer
done_from version = due_token (codes "DONE") (only version version_reason) (λ n. status_from)

-- a refusal by a reason up to the greatest one
unfoldable pub refusal_from : ℕ → Format Answer
refusal_from greatest = due_token (codes "RFSE") (within 1 greatest) (λ n. gives (Refused n))

-- a reply of this version; its first letter tells which token is due
unfoldable pub reply_from : ℕ → ℕ → Format Answer
reply_from version greatest = due_letter (λ c. if c == ascii.upper_r then refusal_from greatest else done_from version)

-- a reply at the front of a text
abbrev pub reply_at : List ℕ → Step Answer
reply_at bytes = reading (reply_from 0x103 9) bytes
