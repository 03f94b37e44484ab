-- The law is a lemma of `WalkLeads`.
use Rattle.tree_model.proofs.WalkLeads.{locate-leads}
use Rattle.tree_model.proofs.frame.leads_law.Goals as goal

pub returns : goal.returns
returns c look dir text l e = locate-leads look dir text l e
