-- The law is a lemma of `WalkNodes`.
use Rattle.tree_model.proofs.WalkNodes.{locate-holds}
use Rattle.tree_model.proofs.frame.walked_law.Goals as goal

pub returns : goal.returns
returns c tree dir text l is d e = locate-holds tree is dir text l d e
