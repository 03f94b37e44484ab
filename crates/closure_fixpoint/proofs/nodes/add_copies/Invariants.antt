use Rattle.std.proofs.Common.{◌≡◌, ◌++◌, All, drop}
use Rattle.tree_model.specs.Paths.{IsCanonical}
use Rattle.closure_fixpoint.proofs.nodes.add_copies.Given as goal

abbrev pub invariant-loop-path : goal.invariant-loop-path
invariant-loop-path l = record {
  items : l.copies.items ++ drop l.path-index l.paths ≡ l.fn.copies.items ++ l.paths;
  canonical : All IsCanonical l.fn.copies.items → All IsCanonical l.copies.items;
}
