use Rattle.std.proofs.Common.{◌≡◌, ◌≤◌, Some}
use Rattle.tree_model.specs.Trees.{FileTree}
use Rattle.closure_fixpoint.specs.Driving.{IsOfTreeUnlessBroken}
use Rattle.closure_fixpoint.specs.parts.Bodies.{bodies_known, AreBodiesOf}
use Rattle.closure_fixpoint.proofs.job_analysis.ending_of.Given as goal

abbrev pub invariant-loop : goal.invariant-loop
invariant-loop g l = record {
  same : g.T.Tree.told l.tree ≡ g.T.Tree.told l.fn.tree;
  later : g.T.Tree.faults l.fn.tree ≤ g.T.Tree.faults l.tree;
  bodies : AreBodiesOf (g.T.Tree.told l.tree) (bodies_known l.bodies);
  goes : (told : FileTree) → g.T.Tree.told l.fn.tree ≡ Some told → IsOfTreeUnlessBroken told l.job l.budget l.analysis;
}
