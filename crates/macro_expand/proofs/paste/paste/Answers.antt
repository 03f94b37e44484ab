use Rattle.std.proofs.Common.{ap, Some}
use Rattle.macro_expand.specs.Replacement.{pasted}
use Rattle.macro_expand.specs.Seen.{marked_of, paste_operand}
use Rattle.macro_expand.proofs.paste.paste.Goals as goal

pub returns-in-None-clause-ok : goal.returns-in-None-clause-ok
unfolding pasted
returns-in-None-clause-ok c = ap (λ o. pasted (paste_operand o) (Some (marked_of c.args.right))) c.in-None.is
