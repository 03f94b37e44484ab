use Rattle.std.proofs.Common.{sym, ◌∙◌}
use Rattle.macro_defs.specs.MacroDefinition.{without_line}
use Rattle.macro_expand.proofs.PartLemmas.{body_part-join, body_part-operand}
use Rattle.macro_expand.proofs.replace.unhashed_part.Goals as goal

pub returns-then-is_pasting : goal.returns-then-is_pasting
returns-then-is_pasting c =
    sym (body_part-join (without_line c.args.t.now) c.args.parameter (sym c.is_pasting.ensures ∙ c.if-is_pasting.true))

pub returns : goal.returns
returns c =
    c.operand_at.ensures ∙ sym (body_part-operand (without_line c.args.t.now) c.args.parameter (sym c.is_pasting.ensures ∙ c.if-is_pasting.false))
