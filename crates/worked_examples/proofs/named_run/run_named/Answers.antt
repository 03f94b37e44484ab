use Rattle.std.proofs.Common.{refl, arith}
use Rattle.tree_model.specs.Trees.{tree_of}
use Rattle.worked_examples.proofs.OneRan.{one_left, ran_at, text_put, diagnostic_told}
use Rattle.worked_examples.proofs.named_run.run_named.Goals as goal

pub only-wire-requires : goal.only-wire-requires
only-wire-requires g c =
    one_left _ _ _ c.in-Ok.end c.in-Ok.end _ _ _ _ _ _ c.pump-status.ensures.run refl refl c.in_ok-ends.ensures.items

pub returns-clause-text : goal.returns-clause-text
returns-clause-text g c zero_is job listed =
    let ran = ran_at _ _ _ c.in-Ok.end c.only-wire.result _ _ _ _ _ _ c.pump-status.ensures.run refl refl c.in_ok-ends.ensures.items (tree_of c.args.entries.items) job c.args.list
    c.only-wire.ensures c.requires.named c.served_by_daemon.ensures (λ sent received may. may) refl c.in-Ok.ensures.kept c.new-source.ensures.told (omega (arith, zero_is)) listed in
    text_put _ _ _ _ _ _ zero_is ran

pub returns-clause-diagnostic : goal.returns-clause-diagnostic
returns-clause-diagnostic g c one_is job listed =
    let ran = ran_at _ _ _ c.in-Ok.end c.only-wire.result _ _ _ _ _ _ c.pump-status.ensures.run refl refl c.in_ok-ends.ensures.items (tree_of c.args.entries.items) job c.args.list
    c.only-wire.ensures c.requires.named c.served_by_daemon.ensures (λ sent received may. may) refl c.in-Ok.ensures.kept c.new-source.ensures.told (omega (arith, one_is)) listed in
    diagnostic_told _ _ _ _ _ _ one_is c.new-report.ensures.told ran
