use Rattle.std.proofs.Common.{◌∙◌, sym}
use Rattle.pp_tokens.proofs.TextMarks.{text_mark_at}
use Rattle.pp_tokens.proofs.part.other_part.Goals as goal

pub returns-then-is_text_mark-clause-part : goal.returns-then-is_text_mark-clause-part
returns-then-is_text_mark-clause-part c =
    sym (text_mark_at c.args.text.now c.args.at c.requires.at (sym c.is_text_mark.ensures ∙ c.if-is_text_mark.true))
