use Rattle.tree_model.specs.Trees.{entry_at}
use Rattle.tree_model.proofs.StepLemmas.{at_dir}
use Rattle.tree_model.proofs.walk.to_end.Goals as goal

pub returns-in-Dir-clause-stop : goal.returns-in-Dir-clause-stop
returns-in-Dir-clause-stop g c told is =
    at_dir (entry_at told) c.loop-step.links c.args.walked.now c.loop-step.walked _ c.loop-step.step c.in-Dir.path c.in-Dir.is (c.loop-step.invariant.goes told is)
