use Rattle.std.proofs.Common.{◌≡◌, map, take}
use Rattle.macro_defs.specs.Arguments.{argument_named}
use Rattle.macro_defs.proofs.numbers.each_compared.Given as goal

abbrev pub invariant-loop-token : goal.invariant-loop-token
invariant-loop-token l = l.named.items ≡ map (argument_named l.params) (take l.token-index l.body)
