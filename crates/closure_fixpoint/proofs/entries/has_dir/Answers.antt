use Rattle.std.proofs.Common.{◌∙◌, ap}
use Rattle.tree_model.proofs.OrderLemmas.{is_dir_there, dir_there}
use Rattle.closure_fixpoint.proofs.entries.has_dir.Goals as goal

pub returns-in-None : goal.returns-in-None
returns-in-None c = ap is_dir_there c.in-None.ensures ∙ dir_there c.args.entries.now c.args.text.now c.requires

pub returns-in-Some : goal.returns-in-Some
returns-in-Some c = c.is_dir.ensures ∙ ap is_dir_there c.in-Some.ensures ∙ dir_there c.args.entries.now c.args.text.now c.requires
