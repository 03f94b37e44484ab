use Rattle.std.proofs.Common.{◌∙◌, ap, Some}
use Rattle.job_ends.specs.Record.{known}
use Rattle.job_ends.specs.declared.record.Cause.TheVariants as cause
use Rattle.client_steps.proofs.Ends.{of-index, some-host}
use Rattle.client_steps.proofs.Going.{settled-so, begun-at, starved-at-once}
use Rattle.client_steps.proofs.analysing.begin.Goals as goal

pub returns-in-Ok-clause-keeps : goal.returns-in-Ok-clause-keeps
returns-in-Ok-clause-keeps g c = λ calls from h.
    let K = known g.T.Of.Frozen.named c.args.budget in
    let of = c.index-jobs-job.result in
    let same = of-index c.args.jobs.now c.args.job h.0 of h.1 c.requires.job c.index-jobs-job.is in (
      of,
      h.1 ∙ ap Some same,
      begun-at K of c.in-Ok.fixpoint calls from _ h.2.0 h.2.1 c.in-Ok.ensures,
    )

pub returns-in-Err-clause-keeps : goal.returns-in-Err-clause-keeps
returns-in-Err-clause-keeps g c = λ calls from h.
    let K = known g.T.Of.Frozen.named c.args.budget in
    let some = some-host c.args.hosts.now c.requires.some_host in
    settled-so K _ _ _ c.args.job cause.Memory h.0 calls from _ _ c.settled.ensures h.1 (starved-at-once K h.0 calls from _ h.2.0 h.2.1 c.args.hosts.now some.0 some.1)
