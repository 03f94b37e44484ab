use Rattle.std.proofs.Common.{◌<◌, sym, ◌∙◌, ap, subst}
use Rattle.job_frames.specs.declared.reply_frame.ReplyDue.{ReplyDue}
use Rattle.job_frames.specs.declared.reply_frame.ReplyDue.TheVariants as due
use Rattle.job_frames.specs.declared.reply_frame.ReplyToken.{ReplyToken}
use Rattle.job_frames.specs.parts.Dues.{is_token_due, at_letter}
use Rattle.job_frames.specs.parts.ReplyStages.{token_format, format_of, token_rank, rank, Ready}
use Rattle.job_frames.proofs.ReplyStageLemmas.{field_is, only_start, first_goes, first_ready, first_falls}
use Rattle.job_frames.proofs.reply_frame.ReplyFrameFrame.choose.Goals as goal

pub returns : goal.returns
returns c =
    let f = c.args.self.now in
    let v = f.version in
    let g = f.greatest in
    let start = only_start f.due _ (field_is f.due v g f.answer c.requires.keeps.ready) c.requires.due in
    let chosen = c.first_token.ensures in
    let ready = subst (λ (t : ReplyToken). Ready (due.Token t) f.answer) (sym chosen) (first_ready c.args.letter f.answer) in
    record {
      went = (
        ap (λ (t : ReplyToken). token_format t v g f.answer) chosen ∙ sym (ap (λ (d : ReplyDue). at_letter (format_of d v g f.answer) c.args.letter) start ∙ first_goes c.args.letter v g f.answer),
        subst (λ (d : ReplyDue). token_rank c.first_token.result < rank d) (sym start) (subst (λ (t : ReplyToken). token_rank t < 7) (sym chosen) (first_falls c.args.letter)),
        record { small = c.requires.keeps.small; ready = ready },
      );
      token = ap is_token_due (field_is (due.Token c.first_token.result) v g f.answer ready);
    }
