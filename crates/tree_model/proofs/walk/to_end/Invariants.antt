use Rattle.std.proofs.Common.{◌≡◌, ◌≤◌, [], Some}
use Rattle.tree_model.specs.Trees.{FileTree, entry_at}
use Rattle.tree_model.specs.parts.Steps.{GoesOn, onward}
use Rattle.tree_model.proofs.walk.to_end.Given as goal

abbrev pub invariant-loop-step : goal.invariant-loop-step
invariant-loop-step g l = record {
  same : g.T.Tree.told l.tree ≡ g.T.Tree.told l.fn.tree;
  later : g.T.Tree.faults l.fn.tree ≤ g.T.Tree.faults l.tree;
  no_read : g.T.Tree.reads l.tree ≡ g.T.Tree.reads l.fn.tree;
  goes : (told : FileTree) → g.T.Tree.told l.fn.tree ≡ Some told
      → GoesOn l.fn.walked (onward (entry_at told) l.fn.links [] l.fn.step)
      l.walked (onward (entry_at told) l.links [] l.step);
}

abbrev pub decreases-loop-step : goal.decreases-loop-step
decreases-loop-step g l = l.links
