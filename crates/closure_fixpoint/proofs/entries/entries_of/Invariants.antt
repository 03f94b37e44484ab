use Rattle.std.proofs.Common.{◌≡◌, ◌≤◌, ◌+◌, ◌⊎◌, [], All, take, drop, Some}
use Rattle.base_types.specs.Members.{Member}
use Rattle.tree_model.specs.Paths.{Path}
use Rattle.tree_model.specs.Trees.{FileTree}
use Rattle.job_frames.specs.Spelling.{HasSpelling}
use Rattle.closure_fixpoint.specs.Gathering.{gathered_from, unknown_among, AreKept}
use Rattle.closure_fixpoint.specs.parts.Bodies.{bodies_known, AreBodiesOf}
use Rattle.closure_fixpoint.proofs.entries.entries_of.Given as goal

abbrev pub invariant-loop-path : goal.invariant-loop-path
invariant-loop-path g l = record {
  same : g.T.Tree.told l.tree ≡ g.T.Tree.told l.fn.tree;
  later : g.T.Tree.faults l.fn.tree ≤ g.T.Tree.faults l.tree;
  bodies : AreBodiesOf (g.T.Tree.told l.tree) (bodies_known l.bodies);
  left : (path : Path) → (bodies_known l.bodies path ≡ bodies_known l.fn.bodies path) ⊎ Member path (take l.path-index l.nodes);
  reads : g.T.Tree.reads l.tree ≤ g.T.Tree.reads l.fn.tree + unknown_among (bodies_known l.fn.bodies) l.entries.items;
  kept : AreKept (take l.path-index l.nodes) l.entries.items;
  spellable : All HasSpelling l.entries.items;
  entries : (told : FileTree) → g.T.Tree.told l.fn.tree ≡ Some told → gathered_from told l.entries.items (drop l.path-index l.nodes) ≡ gathered_from told [] l.nodes;
}
