use Rattle.job_frames.proofs.ReplyEnds.{no_reply, reply_ends}
use Rattle.job_frames.proofs.laws.replies_have_ends.Goals as goal

pub returns : goal.returns
returns c = record { whole = no_reply; long = reply_ends }
