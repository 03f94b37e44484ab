use Rattle.directive_scan.proofs.OneOutline.{only_outline}
use Rattle.directive_scan.proofs.law.one_outline.Goals as goal

pub returns : goal.returns
returns c = only_outline
