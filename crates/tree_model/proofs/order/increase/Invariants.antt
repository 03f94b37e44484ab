use Rattle.std.proofs.Common.{◌≡◌, ◌-◌, drop}
use Rattle.tree_model.specs.Entries.{is_increasing}
use Rattle.tree_model.proofs.order.increase.Given as goal

abbrev pub invariant-loop-i : goal.invariant-loop-i
invariant-loop-i l = is_increasing l.entries ≡ is_increasing (drop (l.i - 1) l.entries)
