use Rattle.tree_model.specs.Trees.{IsTree}
use Rattle.job_ends.specs.Record.{known, OfTree}
use Rattle.job_ends.specs.declared.record.Cause.TheVariants as cause
use Rattle.client_steps.proofs.Ends.{unused, some-host}
use Rattle.client_steps.proofs.Going.{settled-so, phase_after-at, going-starved, asked-sheet}
use Rattle.client_steps.proofs.analysing.asked.Goals as goal

pub returns-in-Ok-clause-keeps : goal.returns-in-Ok-clause-keeps
returns-in-Ok-clause-keeps g c = λ was calls from h.
    let K = known g.T.Of.Frozen.named c.args.budget in
    let of = c.index-jobs-job.result in
    let at = phase_after-at K c.args.jobs.now c.args.job of was c.args.fixpoint _ calls from _ c.requires.job c.index-jobs-job.is h in
    let trees : OfTree K IsTree = λ tree named. g.met.T.Tree.whole c.args.end.now.tree tree (g.met.T.Tree.tells c.args.end.now.tree tree named) in (
      of,
      at.0,
      asked-sheet K of was c.args.fixpoint c.args.visit c.in-Ok.key calls from _ c.closures.ensures.exist trees at.1 h.whole h.large h.means c.in-Ok.ensures.0,
    )

pub returns-in-Err-clause-keeps : goal.returns-in-Err-clause-keeps
returns-in-Err-clause-keeps g c = λ was calls from h.
    let K = known g.T.Of.Frozen.named c.args.budget in
    let some = some-host c.args.hosts.now c.requires.some_host in
    settled-so K _ _ _ c.args.job cause.Memory h.job calls from _ _ c.settled.ensures h.listed (going-starved K h.job was calls from _ _ h.going (unused _) c.args.hosts.now some.0 some.1)
