use Rattle.directive_scan.proofs.PartSteps.{probeless}
use Rattle.directive_scan.proofs.law.parts_without_probe.Goals as goal

pub returns : goal.returns
returns c = probeless
