use Rattle.tree_model.specs.Trees.{IsTree}
use Rattle.job_ends.specs.Record.{known, OfTree}
use Rattle.job_ends.specs.declared.record.Cause.TheVariants as cause
use Rattle.client_steps.proofs.Ends.{some-host}
use Rattle.client_steps.proofs.Going.{settled-so, refused}
use Rattle.client_steps.proofs.analysing.refused.Goals as goal

pub returns-clause-keeps : goal.returns-clause-keeps
returns-clause-keeps g c = λ was now calls from h.
    let K = known g.T.Of.Frozen.named c.args.budget in
    let some = some-host c.args.hosts.now c.requires.some_host in
    let trees : OfTree K IsTree = λ tree named. g.met.T.Tree.whole c.args.end.now.tree tree (g.met.T.Tree.tells c.args.end.now.tree tree named) in
    settled-so K _ _ _ c.args.job (cause.Analysis c.args.refusal) h.job calls from _ _ c.settled.ensures h.listed
    (refused K h.job was now c.args.refusal calls from _ c.refusals_hold.ensures trees h.going h.whole h.large h.means c.args.hosts.now some.0 some.1)
