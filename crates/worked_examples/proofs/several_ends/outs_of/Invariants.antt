use Rattle.std.proofs.Common.{◌≡◌, map}
use Rattle.worked_examples.proofs.several_ends.outs_of.Given as goal

abbrev pub invariant-loop-end : goal.invariant-loop-end
invariant-loop-end g l = l.all.items ≡ map (λ end. end.outs) l.yielded
