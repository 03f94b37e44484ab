use Rattle.tree_model.proofs.PathLemmas.{canonical_from_test, test_from_canonical}
use Rattle.tree_model.proofs.laws.tests_decide.Goals as goal

pub returns : goal.returns
returns c path = (canonical_from_test path, test_from_canonical path)
