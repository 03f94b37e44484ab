use Rattle.directive_scan.proofs.DirectiveNames.{others_single}
use Rattle.directive_scan.proofs.role.nesting_of.Goals as goal

pub returns-in_default : goal.returns-in_default
returns-in_default c ts = others_single c.args.name ts c.in_default.not-If c.in_default.not-Ifdef c.in_default.not-Ifndef c.in_default.not-Elif c.in_default.not-Else c.in_default.not-Endif
