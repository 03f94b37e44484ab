use Rattle.std.proofs.Common.{◌≡◌, ◌++◌, All, length}
use Rattle.tree_model.specs.Paths.{IsCanonical}
use Rattle.closure_fixpoint.specs.Gathering.{upward}
use Rattle.closure_fixpoint.proofs.nodes.add_upward.Given as goal

abbrev pub invariant-loop-alloc : goal.invariant-loop-alloc
invariant-loop-alloc l = record {
  way : l.nodes.items ++ upward l.at ≡ l.fn.nodes.items ++ upward l.path;
  canonical : All IsCanonical l.fn.nodes.items → All IsCanonical l.nodes.items;
}

abbrev pub decreases-loop-alloc : goal.decreases-loop-alloc
decreases-loop-alloc l = length l.at
