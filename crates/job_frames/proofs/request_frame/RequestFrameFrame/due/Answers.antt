use Rattle.std.proofs.Common.{sym, ◌∙◌, ap, Some}
use Rattle.job_frames.proofs.StageLemmas.{field_is}
use Rattle.job_frames.proofs.request_frame.RequestFrameFrame.due.Goals as goal

pub returns : goal.returns
returns c = field_is c.args.self.now.due c.args.self.now.read c.requires.ready ∙ ap Some (sym c.field.ensures)
