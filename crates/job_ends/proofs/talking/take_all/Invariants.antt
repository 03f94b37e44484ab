use Rattle.std.proofs.Common.{◌≡◌, ◌≤◌, ◌-◌, length}
use Rattle.io_edges.specs.declared.wire.LinkState.TheVariants.{Taking}
use Rattle.io_edges.specs.Talk.{taking, on_current, EachAnswered}
use Rattle.job_ends.proofs.talking.take_all.Given as goal

abbrev pub invariant-loop-room : goal.invariant-loop-room
invariant-loop-room g l =
    record {
      state : g.W.Wire.state l.wire ≡ Taking;
      talk : g.W.Wire.talk l.wire ≡ on_current (taking l.bytes) (g.W.Wire.talk l.fn.wire);
      answered : EachAnswered g.W.Wire.peer (g.W.Wire.talk l.fn.wire) → EachAnswered g.W.Wire.peer (g.W.Wire.talk l.wire);
      later : g.W.Wire.faults l.fn.wire ≤ g.W.Wire.faults l.wire;
    }

abbrev pub decreases-loop-room : goal.decreases-loop-room
decreases-loop-room g l = 67108913 - length l.bytes
