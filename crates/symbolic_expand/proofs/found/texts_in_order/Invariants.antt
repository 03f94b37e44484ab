use Rattle.std.proofs.Common.{◌≡◌, ◌++◌, length}
use Rattle.symbolic_expand.proofs.found.texts_in_order.Given as goal

abbrev pub invariant-loop-text : goal.invariant-loop-text
invariant-loop-text l = l.out.items ++ l.texts ≡ l.initial.texts

abbrev pub decreases-loop-text : goal.decreases-loop-text
decreases-loop-text l = length l.texts
