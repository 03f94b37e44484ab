use Rattle.symbolic_expand.proofs.MiddleLaws.{support_decides}
use Rattle.symbolic_expand.proofs.laws.support_decides.Goals as goal

pub returns : goal.returns
returns g c = support_decides
