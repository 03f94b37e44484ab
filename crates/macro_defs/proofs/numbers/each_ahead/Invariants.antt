use Rattle.std.proofs.Common.{◌≡◌, ◌++◌, map}
use Rattle.pp_tokens.specs.Tokens.{rest_of}
use Rattle.macro_defs.specs.Arguments.{argument_named}
use Rattle.macro_defs.proofs.numbers.each_ahead.Given as goal

-- the numbers so far, and those of the tokens that are left
abbrev pub invariant-loop-token : goal.invariant-loop-token
invariant-loop-token l = l.named.items ++ map (argument_named l.params) (rest_of l.token-iterator) ≡ map (argument_named l.params) (rest_of l.fn.body)
