use Rattle.std.proofs.Common.{sym, ◌∙◌, inl, refl}
use Rattle.pp_tokens.proofs.FirstTokens.{word_is_text}
use Rattle.pp_tokens.proofs.text_line.idle_from.Goals as goal

pub returns-then-is_identifier_start : goal.returns-then-is_identifier_start
returns-then-is_identifier_start c =
    inl (refl, word_is_text c.args.text.now c.args.at c.requires (sym c.is_identifier_start.ensures ∙ c.if-is_identifier_start.true))
