use Rattle.search_path.specs.Keys.{is_same_setup-Decides, is_same_visit-Decides}
use Rattle.search_path.proofs.laws.equal_are_same.Goals as goal

pub returns-clause-setups : goal.returns-clause-setups
returns-clause-setups c = is_same_setup-Decides

pub returns-clause-visits : goal.returns-clause-visits
returns-clause-visits c = is_same_visit-Decides
