use Rattle.std.proofs.Common.{sym, subst}
use Rattle.macro_expand.specs.parts.Stamps.{Alike, AllAlike}
use Rattle.macro_expand.proofs.StampLaws.{each-at}
use Rattle.macro_expand.proofs.pieces.argument_at.Goals as goal

pub returns-then-i-arguments-clause-alike : goal.returns-then-i-arguments-clause-alike
returns-then-i-arguments-clause-alike c t each =
    subst (AllAlike t) (sym c.deref.ensures.value) (each-at (Alike t) c.args.arguments.now c.args.i c.index-arguments-i.result c.if-i-arguments.true each c.index-arguments-i.is)
