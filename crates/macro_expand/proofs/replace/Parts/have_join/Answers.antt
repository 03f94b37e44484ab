use Rattle.std.proofs.Common.{sym, ap, ◌∙◌, map}
use Rattle.std.specs.List.{list_any}
use Rattle.macro_defs.specs.MacroDefinition.{without_line}
use Rattle.macro_defs.specs.Runs.{run_tokens}
use Rattle.macro_expand.specs.parts.Parts.{joins, parts_told}
use Rattle.macro_expand.proofs.TokenPartLemmas.{from-unjoined}
use Rattle.macro_expand.proofs.replace.Parts.have_join.Goals as goal

pub returns-in-Tokens : goal.returns-in-Tokens
returns-in-Tokens c =
    sym (ap (λ parts. list_any joins (parts_told parts)) c.in-Tokens.is
    ∙ from-unjoined c.in-Tokens.field-0.definition.now 0 (map without_line (run_tokens c.in-Tokens.field-0.tokens)))
