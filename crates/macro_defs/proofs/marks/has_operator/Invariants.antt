use Rattle.std.proofs.Common.{◌≡◌, drop}
use Rattle.std.specs.List.{list_any}
use Rattle.macro_defs.specs.MacroDefinition.{is_operator}
use Rattle.macro_defs.proofs.marks.has_operator.Given as goal

abbrev pub invariant-loop-token : goal.invariant-loop-token
invariant-loop-token l = list_any is_operator l.tokens ≡ list_any is_operator (drop l.token-index l.tokens)
