use Rattle.std.proofs.Common.{◌≡◌, ◌≤◌, ◌-◌, length, drop}
use Rattle.daemon_cpp.specs.Prep.{World, Entering, State}
use Rattle.daemon_cpp.specs.parts.Reading.{run_flat, passing}
use Rattle.daemon_cpp.proofs.section.pass.Given as goal

-- what is left to pass over comes to the same
abbrev pub invariant-loop-from : goal.invariant-loop-from
invariant-loop-from l = record {
  same : (world : World) (entering : Entering) (state : State) →
      run_flat world entering (passing 0) (drop l.fn.from l.pieces) state ≡ run_flat world entering (passing 0) (drop l.next l.pieces) state;
  later : l.fn.from ≤ l.next;
  within : l.next ≤ length l.pieces;
}

abbrev pub decreases-loop-from : goal.decreases-loop-from
decreases-loop-from l = length l.pieces - l.next
