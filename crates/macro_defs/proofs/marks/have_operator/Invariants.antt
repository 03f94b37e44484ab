use Rattle.std.proofs.Common.{◌≡◌}
use Rattle.std.specs.List.{list_any}
use Rattle.pp_tokens.specs.Tokens.{rest_of}
use Rattle.macro_defs.specs.MacroDefinition.{is_operator}
use Rattle.macro_defs.proofs.marks.have_operator.Given as goal

-- none among the tokens so far
abbrev pub invariant-loop-token : goal.invariant-loop-token
invariant-loop-token l = list_any is_operator (rest_of l.token-iterator) ≡ list_any is_operator (rest_of l.tokens)
