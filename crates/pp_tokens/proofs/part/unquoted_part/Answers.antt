use Rattle.std.proofs.Common.{sym, ◌∙◌}
use Rattle.pp_tokens.proofs.TextLemmas.{newline_first, white_first}
use Rattle.pp_tokens.proofs.part.unquoted_part.Goals as goal

pub returns-then-is_white : goal.returns-then-is_white
returns-then-is_white c = sym (white_first c.args.rest.now (sym c.is_white.ensures ∙ c.if-is_white.true))

pub returns-then-first-eq10 : goal.returns-then-first-eq10
returns-then-first-eq10 c = sym (newline_first c.args.rest.now c.if-first-eq10.true)
