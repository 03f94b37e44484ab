use Rattle.std.proofs.Common.{rules, refl, ap, Err}
use Rattle.job_ends.specs.Record.{known}
use Rattle.job_ends.specs.declared.record.Cause.TheVariants as cause
use Rattle.client_steps.proofs.Ends.{used-by, some-host}
use Rattle.client_steps.proofs.Going.{settled-so, broken-so, phase_after-at, going-starved, going-fault, ready, gathered-refused}
use Rattle.client_steps.proofs.analysing.gathered.Goals as goal

pub returns-in-Ok-Request-clause-keeps : goal.returns-in-Ok-Request-clause-keeps
returns-in-Ok-Request-clause-keeps g c = λ was now calls from h.
    let K = known g.T.Of.Frozen.named c.args.budget in
    let of = c.index-jobs-job.result in
    let at = phase_after-at K c.args.jobs.now c.args.job of was now _ calls from _ c.requires.job c.index-jobs-job.is h in (
      of,
      at.0,
      ready K of was now c.args.closure.visits c.args.closure.nodes c.in-Ok-Request.request calls from _ _ at.1 h.whole h.means
          (λ tree named. rw c.in-Ok-Request.field-0-is at c.in-Ok-Request.ensures.answer tree (g.met.T.Tree.tells _ tree named)) (used-by _ _ _ _ c.request_of.ensures.same c.request_of.ensures.cause.later)
          (λ tree named. rw c.in-Ok-Request.field-0-is at c.in-Ok-Request.ensures.reads tree (g.met.T.Tree.tells _ tree named)),
    )

pub returns-in-Ok-Refused-clause-keeps : goal.returns-in-Ok-Refused-clause-keeps
returns-in-Ok-Refused-clause-keeps g c = λ was now calls from h.
    let K = known g.T.Of.Frozen.named c.args.budget in
    let of = c.index-jobs-job.result in
    let at = phase_after-at K c.args.jobs.now c.args.job of was now _ calls from _ c.requires.job c.index-jobs-job.is h in
    let some = some-host c.args.hosts.now c.requires.some_host in
    settled-so K _ _ _ c.args.job (cause.Analysis c.in-Ok-Refused.refusal) of calls from _ _ c.settled.ensures at.0
    (gathered-refused K of was now c.args.closure.visits c.args.closure.nodes c.in-Ok-Refused.refusal calls from _ _ at.1 h.whole h.means
    (λ tree named. rw c.in-Ok-Refused.field-0-is at c.in-Ok-Refused.ensures.answer tree (g.met.T.Tree.tells _ tree named)) (used-by _ _ _ _ c.request_of.ensures.same c.request_of.ensures.cause.later) c.args.hosts.now some.0 some.1)

pub returns-in-Err-Fault-clause-keeps : goal.returns-in-Err-Fault-clause-keeps
returns-in-Err-Fault-clause-keeps g c = λ was now calls from h.
    let K = known g.T.Of.Frozen.named c.args.budget in
    let some = some-host c.args.hosts.now c.requires.some_host in
    broken-so K _ _ c.args.job c.args.client calls from _ _ c.broken.ensures
    (going-fault K h.job c.args.jobs.now c.args.hosts.now c.args.job c.args.client was calls from _ _ h.listed h.going (used-by _ _ _ _ c.request_of.ensures.same c.request_of.ensures.cause.later) (c.in-Err-Fault.ensures.cause.rose (ap Err c.in-Err-Fault.field-0-is)) some.0 some.1)

pub returns-in-Err-Large : goal.returns-in-Err-Large
returns-in-Err-Large g c = record {
  advances = search rules;
  wire = refl;
  right = search rules;
  keeps = λ was now calls from h.
      let K = known g.T.Of.Frozen.named c.args.budget in
      let some = some-host c.args.hosts.now c.requires.some_host in
      settled-so K _ _ _ c.args.job cause.Memory h.job calls from _ _ c.settled-in-Err-Large.ensures h.listed (going-starved K h.job was calls from _ _ h.going (used-by _ _ _ _ c.request_of.ensures.same c.request_of.ensures.cause.later) c.args.hosts.now some.0 some.1);
}
