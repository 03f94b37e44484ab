use Rattle.std.proofs.Common.{◌<◌, ℕ, sym, ◌∙◌, ap, subst, inr, Option}
use Rattle.job_frames.specs.declared.answer.Answer.{Answer}
use Rattle.job_frames.specs.declared.reply_frame.ReplyDue.{ReplyDue}
use Rattle.job_frames.specs.parts.Dues.{passed}
use Rattle.job_frames.specs.parts.ReplyStages.{format_of, next_of, answer_of, rank, token_rank, Ready}
use Rattle.job_frames.proofs.ReplyStageLemmas.{number_goes, ready_next, rank_falls, reason_fits}
use Rattle.job_frames.proofs.reply_frame.take_number.Goals as goal

pub returns-in-Some : goal.returns-in-Some
returns-in-Some c =
    let f = c.args.f.now in
    inr (number_goes c.args.token f.version f.greatest f.answer c.args.n
    ∙ ap (λ (o : Option ℕ). passed o (format_of (next_of c.args.token c.args.n) f.version f.greatest (answer_of c.args.token c.args.n f.answer))) (sym c.in-Some.ensures))

pub keep_reason-requires : goal.keep_reason-requires
keep_reason-requires c = reason_fits c.args.token c.args.f.now.version c.args.f.now.greatest c.args.n c.requires.keeps.small (sym c.in_default.ensures)

pub returns : goal.returns
returns c =
    let f = c.args.f.now in
    let t = c.args.token in
    let n = c.args.n in (
      ap (λ (d : ReplyDue). format_of d f.version f.greatest c.keep_reason.new.answer) c.after-f.ensures
          ∙ ap (λ (o : Option Answer). format_of (next_of t n) f.version f.greatest o) c.keep_reason.ensures
          ∙ ap (λ (o : Option ℕ). passed o (format_of (next_of t n) f.version f.greatest (answer_of t n f.answer))) c.in_default.ensures
          ∙ sym (number_goes t f.version f.greatest f.answer n),
      subst (λ (d : ReplyDue). rank d < token_rank t) (sym c.after-f.ensures) (rank_falls t n),
      record {
        small = c.requires.keeps.small;
        ready = subst (λ (d : ReplyDue). Ready d c.keep_reason.new.answer) (sym c.after-f.ensures) (subst (λ (o : Option Answer). Ready (next_of t n) o) (sym c.keep_reason.ensures)
            (ready_next t f.answer n (subst (λ (d : ReplyDue). Ready d f.answer) c.requires.due c.requires.keeps.ready)));
      },
    )
