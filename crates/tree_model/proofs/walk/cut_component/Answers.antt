use Rattle.tree_model.proofs.CutLemmas.{first_cut, no_cut}
use Rattle.tree_model.proofs.walk.cut_component.Goals as goal

pub returns-in-Some : goal.returns-in-Some
returns-in-Some c = first_cut c.args.text.now c.in-Some.i c.in-Some.ensures

pub returns-in-None : goal.returns-in-None
returns-in-None c = no_cut c.args.text.now c.in-None.ensures
