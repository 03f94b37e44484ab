use Rattle.tree_model.proofs.TreeLemmas.{looked_up_each}
use Rattle.tree_model.proofs.laws.looked_up_by_bytes.Goals as goal

pub returns : goal.returns
returns c = looked_up_each
