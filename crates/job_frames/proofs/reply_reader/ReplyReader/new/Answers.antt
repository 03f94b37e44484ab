use Rattle.std.proofs.Common.{◌∙◌, ap, false}
use Rattle.job_frames.specs.declared.answer.Answer.{Answer}
use Rattle.job_frames.specs.Formats.{Format, reading}
use Rattle.job_frames.specs.Outcomes.{nothing_follows}
use Rattle.job_frames.proofs.EndLemmas.{begins_reply, waits_reply}
use Rattle.job_frames.proofs.reply_reader.ReplyReader.new.Goals as goal

pub begin-requires-clause-waits : goal.begin-requires-clause-waits
begin-requires-clause-waits c = waits_reply _ (begins_reply c.begin_reply.result c.begin_reply.ensures.due c.begin_reply.ensures.version c.begin_reply.ensures.greatest)

pub returns : goal.returns
returns c = λ bytes. c.begin.ensures.reads false bytes ∙ ap (λ (f : Format Answer). nothing_follows (reading f bytes)) (begins_reply c.begin_reply.result c.begin_reply.ensures.due c.begin_reply.ensures.version c.begin_reply.ensures.greatest)
