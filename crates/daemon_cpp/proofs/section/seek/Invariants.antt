use Rattle.std.proofs.Common.{◌≡◌, ◌≤◌, ◌-◌, length, drop}
use Rattle.std.specs.Option.{ForSome}
use Rattle.daemon_cpp.specs.Prep.{world_of}
use Rattle.daemon_cpp.specs.parts.Reading.{run_flat, seeking}
use Rattle.daemon_cpp.specs.parts.Showing.{GoesOnAt, here_seen}
use Rattle.daemon_cpp.proofs.section.seek.Given as goal

-- what is left to look for is the same, from a state that is shown now
abbrev pub invariant-loop-sought : goal.invariant-loop-sought
invariant-loop-sought g l = record {
  same : g.T.Tree.told l.tree ≡ g.T.Tree.told l.fn.tree;
  seeks : ForSome (g.T.Tree.told l.fn.tree) (λ told. GoesOnAt l.fn.kept l.kept l.places.source.now (here_seen l.places) (world_of told l.places.setup.now) l.pieces
      (λ entering state. run_flat (world_of told l.places.setup.now) entering (seeking 0) (drop l.fn.from l.pieces) state) (seeking 0) l.next);
  later : l.fn.from ≤ l.next;
  within : l.next ≤ length l.pieces;
  spends : l.kept.work.left ≤ l.fn.kept.work.left;
  faults : g.T.Tree.faults l.fn.tree ≤ g.T.Tree.faults l.tree;
}

abbrev pub decreases-loop-sought : goal.decreases-loop-sought
decreases-loop-sought g l = length l.pieces - l.next
