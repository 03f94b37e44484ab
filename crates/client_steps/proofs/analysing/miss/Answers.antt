use Rattle.std.proofs.Common.{ap, Err}
use Rattle.job_ends.specs.Record.{known}
use Rattle.job_ends.specs.declared.record.Cause.TheVariants as cause
use Rattle.client_steps.proofs.Ends.{used-by, some-host}
use Rattle.client_steps.proofs.Going.{settled-so, broken-so, built-right, copied-right, published-next, was-large, missed-starved, missed-fault}
use Rattle.client_steps.proofs.analysing.miss.Goals as goal

pub returns-in-Ok-two_copies-clause-right : goal.returns-in-Ok-two_copies-clause-right
returns-in-Ok-two_copies-clause-right g c = λ tree named.
    copied-right tree c.args.key c.in-Ok-two_copies.same_key c.in-Ok.sheet c.in-Ok-two_copies.same_sheet c.in-Ok-two_copies.ensures.0 c.in-Ok-two_copies.ensures.1
    (built-right tree c.args.key c.in-Ok.sheet (c.in-Ok.ensures.sheet tree (g.met.T.Tree.tells _ tree named)))

pub returns-in-Ok-two_copies-clause-keeps : goal.returns-in-Ok-two_copies-clause-keeps
returns-in-Ok-two_copies-clause-keeps g c = λ calls from h.
    let K = known g.T.Of.Frozen.named c.args.budget in (
      h.0,
      h.1,
      published-next K h.0 c.args.fixpoint c.put_sheet.new.self c.args.key c.in-Ok.sheet calls from _ _ h.2 c.put_sheet.ensures.told
          (λ tree named. built-right tree c.args.key c.in-Ok.sheet (c.in-Ok.ensures.sheet tree (g.met.T.Tree.tells _ tree named))) (used-by _ _ _ _ c.sheet.ensures.same c.sheet.ensures.cause.later) c.sheet.ensures.one_read,
    )

pub returns-in-Err-clause-keeps : goal.returns-in-Err-clause-keeps
returns-in-Err-clause-keeps g c = λ calls from h.
    let K = known g.T.Of.Frozen.named c.args.budget in
    let some = some-host c.args.hosts.now c.requires.some_host in
    settled-so K _ _ _ c.args.job cause.Memory h.0 calls from _ _ c.settled.ensures h.1 (missed-starved K h.0 c.args.fixpoint c.args.key calls from _ _ h.2 (used-by _ _ _ _ c.sheet.ensures.same c.sheet.ensures.cause.later) c.args.hosts.now some.0 some.1)

pub returns-in-Err-Large-clause-keeps : goal.returns-in-Err-Large-clause-keeps
returns-in-Err-Large-clause-keeps g c = λ calls from h.
    let K = known g.T.Of.Frozen.named c.args.budget in (
      h.0,
      h.1,
      was-large K h.0 c.args.fixpoint c.put_large.new.self c.args.key calls from _ _ h.2 c.put_large.ensures.told
          (λ tree named. c.in-Err-Large.ensures.large tree (g.met.T.Tree.tells _ tree named) (ap Err c.in-Err-Large.field-0-is)) (used-by _ _ _ _ c.sheet.ensures.same c.sheet.ensures.cause.later) c.sheet.ensures.one_read,
    )

pub returns-in-Err-Fault-clause-keeps : goal.returns-in-Err-Fault-clause-keeps
returns-in-Err-Fault-clause-keeps g c = λ calls from h.
    let K = known g.T.Of.Frozen.named c.args.budget in
    let some = some-host c.args.hosts.now c.requires.some_host in
    broken-so K _ _ c.args.job c.args.client calls from _ _ c.broken.ensures
    (missed-fault K h.0 c.args.jobs.now c.args.hosts.now c.args.job c.args.client c.args.fixpoint c.args.key calls from _ _ h.1 h.2 (used-by _ _ _ _ c.sheet.ensures.same c.sheet.ensures.cause.later) (c.in-Err-Fault.ensures.cause.rose (ap Err c.in-Err-Fault.field-0-is)) some.0 some.1)

pub returns-in-Err-Memory-clause-keeps : goal.returns-in-Err-Memory-clause-keeps
returns-in-Err-Memory-clause-keeps g c = λ calls from h.
    let K = known g.T.Of.Frozen.named c.args.budget in
    let some = some-host c.args.hosts.now c.requires.some_host in
    settled-so K _ _ _ c.args.job cause.Memory h.0 calls from _ _ c.settled-in-Err-Memory.ensures h.1 (missed-starved K h.0 c.args.fixpoint c.args.key calls from _ _ h.2 (used-by _ _ _ _ c.sheet.ensures.same c.sheet.ensures.cause.later) c.args.hosts.now some.0 some.1)
