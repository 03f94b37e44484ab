use Rattle.directive_scan.proofs.StackSteps.{unended_none, unended_some}
use Rattle.directive_scan.proofs.outline.last_unended.Goals as goal

pub returns-in-Some : goal.returns-in-Some
returns-in-Some c = unended_some c.args.stack.now c.in-Some.open.now c.in-Some.ensures.value

pub returns-in-None : goal.returns-in-None
returns-in-None c = unended_none c.args.stack.now c.in-None.ensures.value
