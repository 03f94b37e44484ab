-- Each law is a lemma of `FrameLooked`.
use Rattle.tree_model.proofs.FrameLooked.{walk-looked, locate-looked}
use Rattle.tree_model.proofs.frame.looked_law.Goals as goal

pub returns-clause-walks : goal.returns-clause-walks
returns-clause-walks c old new links dir list same = walk-looked old new links dir list same

pub returns-clause-located : goal.returns-clause-located
returns-clause-located c old new dir text same = locate-looked old new dir text same
