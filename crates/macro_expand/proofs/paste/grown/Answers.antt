use Rattle.std.proofs.Common.{refl, Some, ◌++◌}
use Rattle.macro_expand.proofs.PasteLaws.{made_some}
use Rattle.macro_expand.proofs.paste.grown.Goals as goal

pub returns-clause-one : goal.returns-clause-one
returns-clause-one c = rw (c.in_ok-token.ensures, c.text.ensures) c.requires

pub returns-clause-made : goal.returns-clause-made
returns-clause-made c =
    rw (c.in_ok-token.ensures, c.text.ensures)
    (made_some c.args.left c.args.right.now (c.args.left.token.text ++ c.args.right.now.token.text) (Some c.args.left.token.kind) c.args.left.token.kind c.in_ok-hidden.hidden refl
    (rw c.requires refl) refl c.in_ok-hidden.ensures)
