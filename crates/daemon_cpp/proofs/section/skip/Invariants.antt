use Rattle.std.proofs.Common.{◌≡◌, ◌≤◌, ◌-◌, length, drop}
use Rattle.daemon_cpp.specs.parts.Reading.{skipped}
use Rattle.daemon_cpp.proofs.section.skip.Given as goal

-- what is left to skip comes to the same line
abbrev pub invariant-loop-next : goal.invariant-loop-next
invariant-loop-next l = record {
  same : skipped l.depth (drop l.next l.pieces) ≡ skipped 0 (drop l.fn.from l.pieces);
  later : l.fn.from ≤ l.next;
  within : l.next ≤ length l.pieces;
  deep : l.depth ≤ l.next;
}

abbrev pub decreases-loop-next : goal.decreases-loop-next
decreases-loop-next l = length l.pieces - l.next
