use Rattle.std.proofs.Common.{sym, ap, ◌∙◌, map}
use Rattle.std.specs.List.{list_any}
use Rattle.macro_defs.specs.MacroDefinition.{without_line}
use Rattle.macro_defs.specs.Runs.{run_tokens}
use Rattle.macro_expand.specs.parts.Parts.{takes_written, parts_told}
use Rattle.macro_expand.proofs.TokenPartLemmas.{from-unwritten}
use Rattle.macro_expand.proofs.replace.Parts.take_written.Goals as goal

pub returns-in-Tokens : goal.returns-in-Tokens
returns-in-Tokens c =
    sym (ap (λ parts. list_any takes_written (parts_told parts)) c.in-Tokens.is
    ∙ from-unwritten c.in-Tokens.field-0.definition.now 0 (map without_line (run_tokens c.in-Tokens.field-0.tokens)))
