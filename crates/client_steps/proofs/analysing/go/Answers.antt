use Rattle.std.proofs.Common.{arith}
use Rattle.job_ends.specs.Record.{known}
use Rattle.closure_fixpoint.specs.declared.fixpoint.Next.TheVariants as next
use Rattle.job_ends.specs.declared.record.Cause.TheVariants as cause
use Rattle.client_steps.proofs.Ends.{unused, some-host}
use Rattle.client_steps.proofs.Going.{settled-so, goes-below, has-answered, going-starved, not-search, not-sheet, not-done, not-refused}
use Rattle.client_steps.proofs.analysing.go.Goals as goal

pub returns-then-left-eq0-clause-keeps : goal.returns-then-left-eq0-clause-keeps
returns-then-left-eq0-clause-keeps g c = λ calls from h.
    let K = known g.T.Of.Frozen.named c.args.budget in
    let some = some-host c.args.hosts.now c.requires.some_host in
    settled-so K _ _ _ c.args.job cause.Memory h.0 calls from _ _ c.settled.ensures h.1 (going-starved K h.0 c.args.fixpoint calls from _ _ h.2 (unused _) c.args.hosts.now some.0 some.1)

pub returns-in-Search-clause-advances : goal.returns-in-Search-clause-advances
returns-in-Search-clause-advances g c = goes-below _ _ c.args.job _ c.args.left c.args.fixpoint _ (omega arith) c.searched.ensures.advances

pub returns-in-Search-clause-keeps : goal.returns-in-Search-clause-keeps
returns-in-Search-clause-keeps g c = λ calls from h.
    c.searched.ensures.keeps c.args.fixpoint calls from
    (has-answered (known g.T.Of.Frozen.named c.args.budget) c.args.jobs.now c.args.job c.args.fixpoint c.next.new.self c.next.result (next.Search c.in-Search.ask) calls from _ c.in-Search.is (not-search c.in-Search.ask) c.in-Search.ensures.means c.next.ensures.large c.next.ensures.broken h)

pub returns-in-Sheet-clause-advances : goal.returns-in-Sheet-clause-advances
returns-in-Sheet-clause-advances g c = goes-below _ _ c.args.job _ c.args.left c.args.fixpoint _ (omega arith) c.asked.ensures.advances

pub returns-in-Sheet-clause-keeps : goal.returns-in-Sheet-clause-keeps
returns-in-Sheet-clause-keeps g c = λ calls from h.
    c.asked.ensures.keeps c.args.fixpoint calls from
    (has-answered (known g.T.Of.Frozen.named c.args.budget) c.args.jobs.now c.args.job c.args.fixpoint c.next.new.self c.next.result (next.Sheet c.in-Sheet.visit) calls from _ c.in-Sheet.is (not-sheet c.in-Sheet.visit) c.in-Sheet.ensures.means c.next.ensures.large c.next.ensures.broken h)

pub returns-in-Done-clause-advances : goal.returns-in-Done-clause-advances
returns-in-Done-clause-advances g c = goes-below _ _ c.args.job 11 c.args.left c.args.fixpoint _ (omega arith) c.gathered.ensures.advances

pub returns-in-Done-clause-keeps : goal.returns-in-Done-clause-keeps
returns-in-Done-clause-keeps g c = λ calls from h.
    c.gathered.ensures.keeps c.args.fixpoint c.next.new.self calls from
    (has-answered (known g.T.Of.Frozen.named c.args.budget) c.args.jobs.now c.args.job c.args.fixpoint c.next.new.self c.next.result (next.Done c.in-Done.closure) calls from _ c.in-Done.is (not-done c.in-Done.closure) c.in-Done.ensures.means c.next.ensures.large c.next.ensures.broken h)

pub returns-in-Refused-clause-advances : goal.returns-in-Refused-clause-advances
returns-in-Refused-clause-advances g c = goes-below _ _ c.args.job 11 c.args.left c.args.fixpoint _ (omega arith) c.refused.ensures.advances

pub returns-in-Refused-clause-keeps : goal.returns-in-Refused-clause-keeps
returns-in-Refused-clause-keeps g c = λ calls from h.
    c.refused.ensures.keeps c.args.fixpoint c.next.new.self calls from
    (has-answered (known g.T.Of.Frozen.named c.args.budget) c.args.jobs.now c.args.job c.args.fixpoint c.next.new.self c.next.result (next.Refused c.in-Refused.refusal) calls from _ c.in-Refused.is (not-refused c.in-Refused.refusal) c.in-Refused.ensures.means c.next.ensures.large c.next.ensures.broken h)

pub returns-in-Memory-clause-keeps : goal.returns-in-Memory-clause-keeps
returns-in-Memory-clause-keeps g c = λ calls from h.
    let K = known g.T.Of.Frozen.named c.args.budget in
    let some = some-host c.args.hosts.now c.requires.some_host in
    settled-so K _ _ _ c.args.job cause.Memory h.0 calls from _ _ c.settled-in-Memory.ensures h.1 (going-starved K h.0 c.args.fixpoint calls from _ _ h.2 (unused _) c.args.hosts.now some.0 some.1)
