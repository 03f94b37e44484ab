-- What a reader of replies is seen as, and what it keeps.
use Rattle.std.specs.Prelude.{ℕ, List, Option, false}
use Rattle.job_frames.specs.declared.FrameError.{FrameError}
use Rattle.job_frames.specs.declared.answer.Answer.{Answer}
use Rattle.job_frames.specs.declared.frame_reader.FrameReader.{FrameReader}
use Rattle.job_frames.specs.declared.reply_frame.ReplyDue.{ReplyDue}
use Rattle.job_frames.specs.declared.reply_frame.ReplyFrame.{ReplyFrame}
use Rattle.job_frames.specs.Outcomes.{Left}
use Rattle.job_frames.specs.parts.Machines.{left_verdict, KeepsReader}
use Rattle.job_frames.specs.parts.ReplyStages.{format_of, Keeps}

-- What a reader of replies is seen as: why it stopped, if it did, the field that is due, what has come of that field,
-- and the answer read before it.
abbrev pub ReplyStanding : Type 0
ReplyStanding = Option FrameError × ReplyDue × List ℕ × (ℕ × ℕ × Option Answer)

abbrev pub reply_left : ReplyStanding → Left Answer
reply_left s = left_verdict false s.0 (format_of s.1 s.3.0 s.3.1 s.3.2) s.2

abbrev pub KeepsReply : FrameReader ReplyFrame → Type 0
KeepsReply r = KeepsReader (λ (f : ReplyFrame). format_of f.due f.version f.greatest f.answer) Keeps r.stopped r.machine

abbrev pub reply_stands : FrameReader ReplyFrame → ReplyStanding
reply_stands r = (r.stopped, r.machine.frame.due, r.machine.pending.items, (r.machine.frame.version, r.machine.frame.greatest, r.machine.frame.answer))
