use Rattle.std.proofs.Common.{◌≡◌, vec_len}
use Rattle.symbolic_expand.specs.parts.Enumeration.{next_numbers}
use Rattle.symbolic_expand.proofs.next.next_list.Given as goal

-- what was taken off the end can't rise
abbrev pub invariant-loop-last : goal.invariant-loop-last
invariant-loop-last l = next_numbers l.initial.taken.items ≡ next_numbers l.taken.items

abbrev pub decreases-loop-last : goal.decreases-loop-last
decreases-loop-last l = vec_len l.taken
