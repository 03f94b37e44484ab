use Rattle.std.proofs.Common.{◌≡◌, ◌≤◌, ℕ, Some, length}
use Rattle.std.specs.Option.{option_map}
use Rattle.tree_model.specs.Trees.{FileTree, entry_at}
use Rattle.tree_model.specs.Walk.{walk}
use Rattle.tree_model.specs.parts.Steps.{GoesOn, components_left}
use Rattle.tree_model.proofs.walk.until_link.Given as goal

abbrev pub invariant-loop-rest : goal.invariant-loop-rest
invariant-loop-rest g l = record {
  same : g.T.Tree.told l.tree ≡ g.T.Tree.told l.fn.tree;
  later : g.T.Tree.faults l.fn.tree ≤ g.T.Tree.faults l.tree;
  no_read : g.T.Tree.reads l.tree ≡ g.T.Tree.reads l.fn.tree;
  goes : (told : FileTree) → g.T.Tree.told l.fn.tree ≡ Some told → (links : ℕ)
      → GoesOn l.fn.walked (walk (entry_at told) links l.fn.dir (components_left (option_map (λ t. t.now) l.fn.rest)))
      l.walked (walk (entry_at told) links l.dir (components_left (option_map (λ t. t.now) l.rest)));
}

abbrev pub decreases-loop-rest : goal.decreases-loop-rest
decreases-loop-rest g l = length (components_left (option_map (λ t. t.now) l.rest))
