use Rattle.tree_model.proofs.TreeLemmas.{tree_made}
use Rattle.tree_model.proofs.laws.lists_make_trees.Goals as goal

pub returns : goal.returns
returns c = tree_made
