use Rattle.tree_model.proofs.TreeLemmas.{small_bodies}
use Rattle.tree_model.proofs.laws.fitting_bodies_are_small.Goals as goal

pub returns : goal.returns
returns c = small_bodies
