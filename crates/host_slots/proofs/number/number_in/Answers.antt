use Rattle.std.proofs.Common.{sym, ◌∙◌}
use Rattle.host_slots.proofs.Digits.{number-in, behind-some, behind-none}
use Rattle.host_slots.proofs.number.number_in.Goals as goal

pub returns-in_err-first-in-len1-up-clause-number : goal.returns-in_err-first-in-len1-up-clause-number
returns-in_err-first-in-len1-up-clause-number c =
    c.from_residual.ensures
    ∙ sym (
    number-in c.args.most 0 c.args.text.now c.in-len1-up.len_at_least c.if-first-ne48.true
    ∙ behind-none c.args.most 0 _ _ (sym c.in_err-first-in-len1-up.ensures.number)
    )

pub returns-in_ok-first-in-len1-up-clause-number : goal.returns-in_ok-first-in-len1-up-clause-number
returns-in_ok-first-in-len1-up-clause-number c =
    c.number_behind.ensures.number
    ∙ sym (
    number-in c.args.most 0 c.args.text.now c.in-len1-up.len_at_least c.if-first-ne48.true
    ∙ behind-some c.args.most 0 _ c.in_ok-first-in-len1-up.first _ (sym c.in_ok-first-in-len1-up.ensures.number)
    )
