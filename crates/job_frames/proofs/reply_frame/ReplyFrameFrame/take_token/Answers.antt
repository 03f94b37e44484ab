use Rattle.job_frames.proofs.ReplyStageLemmas.{field_is, only_token}
use Rattle.job_frames.proofs.reply_frame.ReplyFrameFrame.take_token.Goals as goal

pub returns-in_default : goal.returns-in_default
returns-in_default c = let f = c.args.self.now in absurd (only_token f.due _ (field_is f.due f.version f.greatest f.answer c.requires.keeps.ready) c.requires.due c.in_default.not-Token)
