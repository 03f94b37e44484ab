use Rattle.directive_scan.proofs.TextLines.{directives_alone}
use Rattle.directive_scan.proofs.law.directives_stand_alone.Goals as goal

pub returns : goal.returns
returns c = directives_alone
