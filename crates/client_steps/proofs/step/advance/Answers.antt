use Rattle.job_ends.specs.Record.{known}
use Rattle.client_steps.proofs.Worked.{current-by}
use Rattle.client_steps.proofs.step.advance.Goals as goal

pub returns-in-Begins-clause-keeps : goal.returns-in-Begins-clause-keeps
returns-in-Begins-clause-keeps g c = λ calls from h. c.begin.ensures.keeps calls from (current-by (known g.T.Of.Frozen.named c.args.budget) c.args.jobs.now c.args.hosts.now _ _ calls from _ c.in-Begins.is h)

pub returns-in-Goes-clause-keeps : goal.returns-in-Goes-clause-keeps
returns-in-Goes-clause-keeps g c = λ calls from h. c.go.ensures.keeps calls from (current-by (known g.T.Of.Frozen.named c.args.budget) c.args.jobs.now c.args.hosts.now _ _ calls from _ c.in-Goes.is h)

pub returns-in-Finds-clause-keeps : goal.returns-in-Finds-clause-keeps
returns-in-Finds-clause-keeps g c = λ calls from h. c.find.ensures.keeps calls from (current-by (known g.T.Of.Frozen.named c.args.budget) c.args.jobs.now c.args.hosts.now _ _ calls from _ c.in-Finds.is h)

pub returns-in-Misses-clause-keeps : goal.returns-in-Misses-clause-keeps
returns-in-Misses-clause-keeps g c = λ calls from h. c.miss.ensures.keeps calls from (current-by (known g.T.Of.Frozen.named c.args.budget) c.args.jobs.now c.args.hosts.now _ _ calls from _ c.in-Misses.is h)

pub returns-in-Calls-clause-keeps : goal.returns-in-Calls-clause-keeps
returns-in-Calls-clause-keeps g c = λ calls from h. c.call.ensures.keeps calls from (current-by (known g.T.Of.Frozen.named c.args.budget) c.args.jobs.now c.args.hosts.now _ _ calls from _ c.in-Calls.is h)

pub returns-in-Concludes-clause-keeps : goal.returns-in-Concludes-clause-keeps
returns-in-Concludes-clause-keeps g c = λ calls from h. c.conclude.ensures.keeps calls from (current-by (known g.T.Of.Frozen.named c.args.budget) c.args.jobs.now c.args.hosts.now _ _ calls from _ c.in-Concludes.is h)
