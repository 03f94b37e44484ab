use Rattle.std.proofs.Common.{◌+◌, ◌-◌, ℕ, sym, ◌∙◌, ap, subst, inr, Option}
use Rattle.job_frames.specs.Formats.{Format}
use Rattle.job_frames.specs.Request.{Got}
use Rattle.job_frames.specs.parts.Dues.{passed}
use Rattle.job_frames.specs.parts.Stages.{token_next, token_rank, length_of, Goes}
use Rattle.job_frames.proofs.StageLemmas.{number_goes}
use Rattle.job_frames.proofs.request_frame.take_number.Goals as goal

pub returns-in-Some : goal.returns-in-Some
returns-in-Some c =
    let r = c.args.f.now.read in
    inr (number_goes c.args.token r c.args.n c.requires.ready
    ∙ ap (λ (o : Option ℕ). passed o (token_next c.args.token (record r { room = r.room - (12 + length_of c.args.token c.args.n) }) c.args.n)) (sym c.in-Some.ensures.answer))

pub returns : goal.returns
returns c =
    let r = c.args.f.now.read in
    let t = c.args.token in
    let n = c.args.n in
    subst (λ (next : Format Got). Goes next (token_rank t) c.go_behind.new.f c.go_behind.result)
    (ap (λ (b : ℕ). token_next t (record r { room = r.room - (12 + b) }) n) c.body_length.ensures
    ∙ ap (λ (o : Option ℕ). passed o (token_next t (record r { room = r.room - (12 + length_of t n) }) n)) c.in_default.ensures.answer
    ∙ sym (number_goes t r n c.requires.ready))
    c.go_behind.ensures
