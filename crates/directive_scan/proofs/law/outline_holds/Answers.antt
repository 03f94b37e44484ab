use Rattle.directive_scan.proofs.Outlines.{has_outline}
use Rattle.directive_scan.proofs.law.outline_holds.Goals as goal

pub returns : goal.returns
returns c = has_outline
