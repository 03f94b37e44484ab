use Rattle.std.proofs.Common.{◌≡◌, take}
use Rattle.worked_examples.proofs.several_ends.copy_entries.Given as goal

abbrev pub invariant-loop-path : goal.invariant-loop-path
invariant-loop-path l = l.copy.items ≡ take l.path-index l.entries
