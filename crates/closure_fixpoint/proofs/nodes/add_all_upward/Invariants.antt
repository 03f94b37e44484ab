use Rattle.std.proofs.Common.{◌≡◌, ◌++◌, All, drop}
use Rattle.tree_model.specs.Paths.{IsCanonical}
use Rattle.closure_fixpoint.specs.parts.Walked.{all_upward_from}
use Rattle.closure_fixpoint.proofs.nodes.add_all_upward.Given as goal

abbrev pub invariant-loop-number : goal.invariant-loop-number
invariant-loop-number l = record {
  nodes : l.nodes.items ++ all_upward_from l.walked (drop l.number l.walked) ≡ l.fn.nodes.items ++ all_upward_from l.walked l.walked;
  canonical : All IsCanonical l.fn.nodes.items → All IsCanonical l.nodes.items;
}
