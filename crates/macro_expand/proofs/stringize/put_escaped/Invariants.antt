use Rattle.std.proofs.Common.{◌≡◌, ◌++◌, drop}
use Rattle.macro_expand.specs.Replacement.{escaped}
use Rattle.macro_expand.proofs.stringize.put_escaped.Given as goal

abbrev pub invariant-loop-b : goal.invariant-loop-b
invariant-loop-b l = l.text.items ++ escaped (drop l.b-index l.literal) ≡ l.initial.text.items ++ escaped l.literal
