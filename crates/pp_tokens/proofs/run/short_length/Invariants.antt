use Rattle.std.proofs.Common.{◌≡◌, ◌≤◌, ◌+◌, ◌-◌, length, drop, take_while}
use Rattle.pp_tokens.proofs.run.short_length.Given as goal

abbrev pub invariant-loop-length : goal.invariant-loop-length
invariant-loop-length g l = record {
  within : l.length ≤ length l.bytes;
  run : length (take_while g.C.Class.holds l.bytes) ≡ l.length + length (take_while g.C.Class.holds (drop l.length l.bytes));
}

abbrev pub decreases-loop-length : goal.decreases-loop-length
decreases-loop-length g l = length l.bytes - l.length
