use Rattle.std.proofs.Common.{[], ◌∙◌, ap}
use Rattle.job_frames.specs.declared.reply_frame.ReplyFrame.{ReplyFrame}
use Rattle.job_frames.specs.Outcomes.{value_of}
use Rattle.job_frames.specs.parts.ReplyReaders.{ReplyStanding, reply_left}
use Rattle.job_frames.proofs.EndLemmas.{reply_says}
use Rattle.job_frames.proofs.reply_reader.ReplyReader.finish.Goals as goal

pub returns-then-is_whole : goal.returns-then-is_whole
returns-then-is_whole c =
    let r = c.self.inside.reader in
    let told = c.is_whole-is_whole.ensures in
    c.into_answer-answer.ensures
    ∙ ap (λ (f : ReplyFrame). f.answer) c.into_frame.ensures
    ∙ reply_says r.stopped r.machine c.self.invariant (told.running c.if-is_whole.true) (told.whole c.if-is_whole.true)
    ∙ ap (λ (s : ReplyStanding). value_of (reply_left s [])) c.self.view_is
