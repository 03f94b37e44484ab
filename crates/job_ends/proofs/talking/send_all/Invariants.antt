use Rattle.std.proofs.Common.{◌≡◌, ◌≤◌, ◌-◌, length, take}
use Rattle.io_edges.specs.declared.wire.LinkState.TheVariants.{Sending}
use Rattle.io_edges.specs.Talk.{sending, on_current, EachAnswered}
use Rattle.job_ends.proofs.talking.send_all.Given as goal

abbrev pub invariant-loop-at : goal.invariant-loop-at
invariant-loop-at g l =
    record {
      within : l.at ≤ length l.request;
      state : g.W.Wire.state l.wire ≡ Sending;
      talk : g.W.Wire.talk l.wire ≡ on_current (sending (take l.at l.request)) (g.W.Wire.talk l.fn.wire);
      answered : EachAnswered g.W.Wire.peer (g.W.Wire.talk l.fn.wire) → EachAnswered g.W.Wire.peer (g.W.Wire.talk l.wire);
      later : g.W.Wire.faults l.fn.wire ≤ g.W.Wire.faults l.wire;
    }

abbrev pub decreases-loop-at : goal.decreases-loop-at
decreases-loop-at g l = length l.request - l.at
