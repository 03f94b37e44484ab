use Rattle.std.proofs.Common.{◌≡◌, ◌≤◌, ◌-◌, length, take, drop, None}
use Rattle.tree_model.specs.Trees.{by_bytes}
use Rattle.tree_model.proofs.order.entry_spelled.Given as goal

abbrev pub invariant-loop-low : goal.invariant-loop-low
invariant-loop-low l = record {
  within : l.high ≤ length l.entries;
  before : by_bytes l.text (take l.low l.entries) ≡ None;
  behind : by_bytes l.text (drop l.high l.entries) ≡ None;
}

abbrev pub decreases-loop-low : goal.decreases-loop-low
decreases-loop-low l = l.high - l.low
