use Rattle.tree_model.proofs.PathLemmas.{spelled-same, names_of-spelled}
use Rattle.tree_model.proofs.laws.spellings_are_apart.Goals as goal

pub returns : goal.returns
returns c = record { apart = spelled-same; back = names_of-spelled }
