use Rattle.std.proofs.Common.{◌≡◌, take}
use Rattle.macro_expand.proofs.call.copied.Given as goal

abbrev pub invariant-loop-t : goal.invariant-loop-t
invariant-loop-t l = l.copy.items ≡ take l.t-index l.ts
