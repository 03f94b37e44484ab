use Rattle.std.proofs.Common.{◌≡◌, map, take}
use Rattle.macro_defs.specs.parts.Stored.{number_named}
use Rattle.macro_defs.proofs.numbers.each_looked_up.Given as goal

abbrev pub invariant-loop-token : goal.invariant-loop-token
invariant-loop-token l = l.named.items ≡ map (number_named l.numbers) (take l.token-index l.body)
