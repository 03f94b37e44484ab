use Rattle.std.proofs.Common.{◌≡◌, ◌≤◌}
use Rattle.tree_model.specs.Trees.{FileTree}
use Rattle.tree_model.specs.Trees.{FileTree}
use Rattle.std.specs.Prelude.{Some}
use Rattle.search_path.specs.Search.{chain_from, first_located}
use Rattle.search_path.proofs.searching.search_chain.Given as goal

abbrev pub invariant-loop-number : goal.invariant-loop-number
invariant-loop-number g l =
    record {
      same : g.T.Tree.told l.tree ≡ g.T.Tree.told l.fn.tree;
      later : g.T.Tree.faults l.fn.tree ≤ g.T.Tree.faults l.tree;
      no_read : g.T.Tree.reads l.tree ≡ g.T.Tree.reads l.fn.tree;
      found : (told : FileTree) → g.T.Tree.told l.fn.tree ≡ Some told → first_located told (chain_from l.setup l.number l.name) ≡ first_located told (chain_from l.setup l.first l.name);
    }
