use Rattle.std.proofs.Common.{sym, ◌∙◌, ap, inl, inr, get_or, drop, ◌+◌, true, false, Some}
use Rattle.pp_tokens.specs.Lines.{first_part}
use Rattle.pp_tokens.proofs.Closing.{rest_is}
use Rattle.pp_tokens.proofs.Opened.{unnamed_first, name_first}
use Rattle.pp_tokens.proofs.quoted.header_at.Goals as goal

pub returns-in_err-length-clause-other : goal.returns-in_err-length-clause-other
returns-in_err-length-clause-other c =
    let text = c.args.text.now in
    let here = rest_is text c.args.at c.requires.at in
    let found = sym c.delimiter_partner_at.ensures.partner ∙ c.in_err-length.was in
    λ _. (ap (first_part true) here ∙ unnamed_first (get_or text c.args.at 0) (drop (c.args.at + 1) text) c.requires.delimiter (inl found) ∙ ap (first_part false) (sym here))

pub returns-then-length-eq1-clause-other : goal.returns-then-length-eq1-clause-other
returns-then-length-eq1-clause-other c =
    let text = c.args.text.now in
    let here = rest_is text c.args.at c.requires.at in
    let found = sym c.delimiter_partner_at.ensures.partner ∙ c.in_ok-length.was ∙ ap Some c.if-length-eq1.true in
    λ _. (ap (first_part true) here ∙ unnamed_first (get_or text c.args.at 0) (drop (c.args.at + 1) text) c.requires.delimiter (inr found) ∙ ap (first_part false) (sym here))

pub returns-clause-header : goal.returns-clause-header
returns-clause-header c =
    let text = c.args.text.now in
    let found = sym c.delimiter_partner_at.ensures.partner ∙ c.in_ok-length.was in
    ap (first_part true) (rest_is text c.args.at c.requires.at)
    ∙ name_first (get_or text c.args.at 0) (drop (c.args.at + 1) text) c.in_ok-length.length c.requires.delimiter found c.if-length-eq1.false
