use Rattle.std.proofs.Common.{sym, ap, ◌∙◌, map}
use Rattle.std.specs.List.{list_any}
use Rattle.macro_defs.specs.MacroDefinition.{without_line}
use Rattle.macro_defs.specs.Runs.{run_tokens}
use Rattle.macro_expand.specs.parts.Parts.{joins, parts_told}
use Rattle.macro_expand.specs.parts.Pieces.{arguments_seen, tokens_of_parts}
use Rattle.macro_expand.specs.Seen.{marked_of}
use Rattle.macro_expand.proofs.PieceLemmas.{tokens-made}
use Rattle.macro_expand.proofs.TokenPartLemmas.{from-unjoined}
use Rattle.macro_expand.proofs.replace.made_of.Goals as goal

pub returns-in_ok-made-in-Tokens-clause-ok : goal.returns-in_ok-made-in-Tokens-clause-ok
returns-in_ok-made-in-Tokens-clause-ok c =
    tokens-made (arguments_seen c.args.arguments.now) (parts_told c.args.parts.now) (map marked_of c.in_ok-made-in-Tokens.made.items)
    (ap (λ parts. list_any joins (parts_told parts)) c.in-Tokens.is
    ∙ from-unjoined c.in-Tokens.parts.definition.now 0 (map without_line (run_tokens c.in-Tokens.parts.tokens)))
    (c.in_ok-made-in-Tokens.ensures.tokens ∙ ap (λ parts. tokens_of_parts (arguments_seen c.args.arguments.now) (parts_told parts)) (sym c.in-Tokens.is))

pub returns-in_ok-made-in-Tokens-clause-alike : goal.returns-in_ok-made-in-Tokens-clause-alike
returns-in_ok-made-in-Tokens-clause-alike c apart each = c.in_ok-made-in-Tokens.ensures.alike c.args.t.now each
