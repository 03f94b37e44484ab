use Rattle.directive_scan.proofs.Whole.{whole_told}
use Rattle.directive_scan.proofs.law.nesting_told.Goals as goal

pub returns : goal.returns
returns c = whole_told
