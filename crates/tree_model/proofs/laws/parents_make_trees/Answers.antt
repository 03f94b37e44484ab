use Rattle.tree_model.proofs.TreeLemmas.{made_from}
use Rattle.tree_model.proofs.laws.parents_make_trees.Goals as goal

pub returns : goal.returns
returns c = made_from
