use Rattle.job_frames.proofs.TreeLemmas.{request_tree, request_bodies, tree_request, tree_written}
use Rattle.job_frames.proofs.laws.request_trees.Goals as goal

pub returns : goal.returns
returns c = record { trees = request_tree c.judging_makes_trees.ensures.made; bodies = request_bodies; requests = tree_request c.judging_makes_trees.ensures.judged; written = tree_written }
