use Rattle.std.proofs.Common.{sym, ap, ◌∙◌, Some}
use Rattle.job_frames.specs.Spelling.{reply_bytes}
use Rattle.job_frames.specs.declared.answer.Answer.TheVariants.{Text, Diag, Refused}
use Rattle.job_ends.proofs.Replies.{whole-reply, no-reply, refused-otherwise}
use Rattle.job_ends.proofs.asking.judge.Goals as goal

pub returns-in-Ok-Some-Text : goal.returns-in-Ok-Some-Text
returns-in-Ok-Some-Text c =
    let whole = whole-reply c.reply_spellings.ensures.spelled c.args.reply.bytes c.as_slice.result.now (Text c.in-Ok-Some-Text.text) c.as_slice.ensures (sym (c.in-Ok-Some-Text.field-0-is ∙ ap Some c.in-Ok-Some-Text.field-0-0-is) ∙ c.in-Ok-Some-Text.ensures) in
    (c.if-not-reply.false, whole.0, whole.1)

pub returns-in-Ok-Some-Diag : goal.returns-in-Ok-Some-Diag
returns-in-Ok-Some-Diag c =
    let whole = whole-reply c.reply_spellings.ensures.spelled c.args.reply.bytes c.as_slice.result.now (Diag c.in-Ok-Some-Diag.words) c.as_slice.ensures (sym (c.in-Ok-Some-Diag.field-0-is ∙ ap Some c.in-Ok-Some-Diag.field-0-0-is) ∙ c.in-Ok-Some-Diag.ensures) in
    (c.if-not-reply.false, whole.0, whole.1)

pub returns-then-reason-eq1 : goal.returns-then-reason-eq1
returns-then-reason-eq1 c =
    let whole = whole-reply c.reply_spellings.ensures.spelled c.args.reply.bytes c.as_slice.result.now (Refused c.in-Ok-Some-Refused.reason) c.as_slice.ensures (sym (c.in-Ok-Some-Refused.field-0-is ∙ ap Some c.in-Ok-Some-Refused.field-0-0-is) ∙ c.in-Ok-Some-Refused.ensures) in
    whole.1 ∙ ap (λ n. reply_bytes (Refused n)) c.if-reason-eq1.true

pub returns-in-Ok-Some-Refused : goal.returns-in-Ok-Some-Refused
returns-in-Ok-Some-Refused c =
    refused-otherwise c.reply_spellings.ensures.spelled c.args.reply.bytes c.as_slice.result.now c.args.reply.ended c.in-Ok-Some-Refused.reason c.as_slice.ensures (sym (c.in-Ok-Some-Refused.field-0-is ∙ ap Some c.in-Ok-Some-Refused.field-0-0-is) ∙ c.in-Ok-Some-Refused.ensures) c.if-reason-eq1.false

pub returns-in-Ok-None : goal.returns-in-Ok-None
returns-in-Ok-None c =
    no-reply c.replies_have_ends.ensures.whole c.args.reply.bytes c.as_slice.result.now c.args.reply.ended c.as_slice.ensures c.if-not-reply.false (sym c.in-Ok-None.field-0-is ∙ c.in-Ok-None.ensures)
