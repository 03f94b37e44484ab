use Rattle.std.proofs.Common.{sym, ◌∙◌}
use Rattle.macro_defs.proofs.Bodies.{ends_so, ends_none}
use Rattle.macro_defs.proofs.Fronts.{empty_so, some_so}
use Rattle.macro_defs.proofs.replacement.ends_with_pasting.Goals as goal

pub returns-then-is_empty : goal.returns-then-is_empty
returns-then-is_empty c = sym (ends_none c.args.body.now (empty_so c.args.body.now c.if-is_empty.ensures))

pub returns : goal.returns
returns c = c.is_pasting.ensures ∙ ends_so c.args.body.now c.index-body-body.result (some_so c.args.body.now c.if-is_empty.ensures) c.index-body-body.is
