use Rattle.std.proofs.Common.{ap, ◌∙◌, subst, Some}
use Rattle.job_words.specs.declared.job.Job.{Job}
use Rattle.job_ends.specs.Record.{known}
use Rattle.client_steps.specs.Phases.{WayIsSettled}
use Rattle.client_steps.proofs.Ends.{of-index}
use Rattle.client_steps.proofs.Judged.{ended}
use Rattle.client_steps.proofs.ending.conclude.Goals as goal

pub returns-clause-keeps : goal.returns-clause-keeps
returns-clause-keeps g c = λ calls from h.
    let K = known g.T.Of.Frozen.named c.args.budget in
    let of = c.index-jobs-job.result in
    let same = of-index c.args.jobs.now c.args.job h.0 of h.1 c.requires c.index-jobs-job.is in
    let was = subst (λ (j : Job). WayIsSettled K j c.args.hosts.now c.args.replied calls from _) same h.2 in
    let e = c.conclude-done.ensures in
    ended g.T.Of.Frozen.named c.args.budget of c.args.jobs.now c.args.hosts.now c.args.job c.args.client c.args.replied c.conclude-done.result calls from _ _ (h.1 ∙ ap Some same) e.number e.client was e.way e.did (λ remote. ap g.T.Tree.reads (e.tree remote))
