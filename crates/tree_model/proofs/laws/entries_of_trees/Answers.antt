use Rattle.tree_model.proofs.TreeLemmas.{entries_are_nodes, nodes_are_entries}
use Rattle.tree_model.proofs.laws.entries_of_trees.Goals as goal

pub returns : goal.returns
returns c = record { entries = entries_are_nodes; nodes = nodes_are_entries }
