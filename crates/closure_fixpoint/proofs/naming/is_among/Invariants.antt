use Rattle.std.proofs.Common.{◌≤◌, ◌-◌, length}
use Rattle.closure_fixpoint.proofs.AmongLaws.{IsBetween}
use Rattle.closure_fixpoint.proofs.naming.is_among.Given as goal

-- the name stands nowhere else
abbrev pub invariant-loop-low : goal.invariant-loop-low
invariant-loop-low l = record {
  ordered : l.low ≤ l.high;
  within : l.high ≤ length l.names;
  between : IsBetween l.names l.name l.low l.high;
}

abbrev pub decreases-loop-low : goal.decreases-loop-low
decreases-loop-low l = l.high - l.low
