use Rattle.macro_expand.proofs.OutcomeLaws.{choice_fact}
use Rattle.macro_expand.proofs.laws.choice_fact.Goals as goal

pub returns : goal.returns
returns c = choice_fact
