use Rattle.std.proofs.Common.{◌∙◌, sym, refl, get_or}
use Rattle.pp_tokens.specs.Grammar.{is_identifier_start}
use Rattle.pp_tokens.specs.Plain.{is_text_mark}
use Rattle.pp_tokens.specs.parts.Text.{is_due}
use Rattle.pp_tokens.proofs.TextLemmas.{due_or_not, opens_none}
use Rattle.pp_tokens.proofs.TextMarks.{text_mark_at}
use Rattle.pp_tokens.proofs.lexer.put_first.Goals as goal

pub put_part-requires-clause-part : goal.put_part-requires-clause-part
put_part-requires-clause-part c =
    let text = c.args.text.now in
    let at = c.args.at in
    let starts = sym c.is_identifier_start.ensures ∙ c.if-is_identifier_start.true in
    c.word_at-word.ensures.part
    ∙ sym (due_or_not text at (is_due c.args.gathering.now.before) c.requires.at (opens_none is_identifier_start (get_or text at 0) starts refl refl))

pub put_part-requires-then-is_text_mark-clause-part : goal.put_part-requires-then-is_text_mark-clause-part
put_part-requires-then-is_text_mark-clause-part c =
    let text = c.args.text.now in
    let at = c.args.at in
    let is = sym c.is_text_mark.ensures ∙ c.if-is_text_mark.true in
    sym (text_mark_at text at c.requires.at is)
    ∙ sym (due_or_not text at (is_due c.args.gathering.now.before) c.requires.at (opens_none is_text_mark (get_or text at 0) is refl refl))
