use Rattle.std.proofs.Common.{sym, ◌∙◌}
use Rattle.macro_defs.specs.MacroDefinition.{without_line}
use Rattle.macro_expand.proofs.PartLemmas.{object_part-join, object_part-plain}
use Rattle.macro_expand.proofs.replace.object_part.Goals as goal

pub returns-then-is_pasting : goal.returns-then-is_pasting
returns-then-is_pasting c =
    sym (object_part-join (without_line c.args.t.now) (sym c.is_pasting.ensures ∙ c.if-is_pasting.true))

pub returns-else-is_pasting : goal.returns-else-is_pasting
returns-else-is_pasting c =
    sym (object_part-plain (without_line c.args.t.now) (sym c.is_pasting.ensures ∙ c.if-is_pasting.false))
