use Rattle.job_frames.proofs.ReplyStageLemmas.{field_is, only_body}
use Rattle.job_frames.proofs.reply_frame.ReplyFrameFrame.take_body.Goals as goal

pub returns-in_default : goal.returns-in_default
returns-in_default c = let f = c.args.self.now in absurd (only_body f.due _ _ (field_is f.due f.version f.greatest f.answer c.requires.keeps.ready) c.requires.due c.in_default.not-Body)
