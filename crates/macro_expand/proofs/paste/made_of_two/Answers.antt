use Rattle.std.proofs.Common.{sym, ◌∙◌}
use Rattle.macro_expand.proofs.PasteLaws.{made_none, made_some}
use Rattle.macro_expand.proofs.paste.made_of_two.Goals as goal

pub returns-in_default-clause-made : goal.returns-in_default-clause-made
returns-in_default-clause-made c =
    made_none c.args.left.now c.args.right.now c.in_ok-text.text _ (rw (c.text.ensures, c.text-2.ensures) at c.in_ok-text.ensures) c.spelling_kind.ensures c.in_default.is

pub returns-clause-made : goal.returns-clause-made
returns-clause-made c =
    rw (c.in_ok-token.ensures, c.line.ensures, c.space.ensures)
    (made_some c.args.left.now c.args.right.now c.in_ok-text.text _ c.in-Some.kind c.in_ok-hidden.hidden (rw (c.text.ensures, c.text-2.ensures) at c.in_ok-text.ensures)
    c.spelling_kind.ensures c.in-Some.is c.in_ok-hidden.ensures)

pub returns-clause-one : goal.returns-clause-one
returns-clause-one c = rw c.in_ok-token.ensures (sym c.spelling_kind.ensures ∙ c.in-Some.is)
