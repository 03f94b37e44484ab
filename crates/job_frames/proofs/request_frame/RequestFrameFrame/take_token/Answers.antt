use Rattle.job_frames.proofs.StageLemmas.{field_is, only_token}
use Rattle.job_frames.proofs.request_frame.RequestFrameFrame.take_token.Goals as goal

pub returns-in_default : goal.returns-in_default
returns-in_default c = absurd (only_token c.args.self.now.due _ (field_is c.args.self.now.due c.args.self.now.read c.requires.keeps.ready) c.requires.due c.in_default.not-Token)
