use Rattle.std.proofs.Common.{◌<◌, ◌+◌, ◌*◌, sym, ◌∙◌, ap, subst}
use Rattle.job_frames.specs.declared.request_due.Due.{Due}
use Rattle.job_frames.specs.declared.request_due.Due.TheVariants as due
use Rattle.job_frames.specs.declared.request_due.Token.{Token}
use Rattle.job_frames.specs.parts.Dues.{is_token_due, at_letter}
use Rattle.job_frames.specs.parts.Stages.{token_format, format_of, token_rank, rank, TokenReady, Ready}
use Rattle.job_frames.proofs.StageLemmas.{field_is, only_kind, node_goes, node_ready, node_falls}
use Rattle.job_frames.proofs.request_frame.RequestFrameFrame.choose.Goals as goal

pub returns-in-Kind-clause-went : goal.returns-in-Kind-clause-went
returns-in-Kind-clause-went c =
    let r = c.args.self.now.read in
    let k = c.in-Kind.left in
    let ready = subst (λ (d : Due). Ready d r) c.in-Kind.is c.requires.keeps.ready in
    let chosen = c.node_token.ensures in (
      ap (λ (t : Token). token_format t r) chosen ∙ sym (ap (λ (d : Due). at_letter (format_of d r) c.args.letter) c.in-Kind.is ∙ node_goes k c.args.letter r ready),
      subst (λ (d : Due). token_rank c.node_token.result < rank d) (sym c.in-Kind.is) (subst (λ (t : Token). token_rank t < 4 + 6 * k) (sym chosen) (node_falls k c.args.letter)),
      record { ready = subst (λ (t : Token). TokenReady t r) (sym chosen) (node_ready k c.args.letter r ready); increasing = c.requires.keeps.increasing },
    )

pub returns-in-Kind-clause-token : goal.returns-in-Kind-clause-token
returns-in-Kind-clause-token c =
    let r = c.args.self.now.read in
    let ready = subst (λ (d : Due). Ready d r) c.in-Kind.is c.requires.keeps.ready in
    ap is_token_due (field_is (due.Token c.node_token.result) r (subst (λ (t : Token). TokenReady t r) (sym c.node_token.ensures) (node_ready c.in-Kind.left c.args.letter r ready)))

pub returns-in_default : goal.returns-in_default
returns-in_default c = absurd (only_kind c.args.self.now.due _ (field_is c.args.self.now.due c.args.self.now.read c.requires.keeps.ready) c.requires.due c.in_default.not-Kind)
