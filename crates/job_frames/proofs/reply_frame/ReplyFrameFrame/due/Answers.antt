use Rattle.std.proofs.Common.{sym, ◌∙◌, ap, Some}
use Rattle.job_frames.proofs.ReplyStageLemmas.{field_is}
use Rattle.job_frames.proofs.reply_frame.ReplyFrameFrame.due.Goals as goal

pub returns : goal.returns
returns c = let f = c.args.self.now in field_is f.due f.version f.greatest f.answer c.requires.ready ∙ ap Some (sym c.field.ensures)
