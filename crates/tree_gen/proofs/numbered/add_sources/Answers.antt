use Rattle.std.proofs.Common.{sym}
use Rattle.tree_gen.specs.Generated as made
use Rattle.tree_gen.proofs.Counted.{members_more}
use Rattle.tree_gen.proofs.numbered.add_sources.Goals as goal

pub loop-number-preserved : goal.loop-number-preserved
loop-number-preserved c =
    rw (c.in_ok-push.ensures.items, c.loop-number.invariant, c.in_ok-source.ensures) (sym (members_more c.args.nodes.now.items made.source c.loop-number.number))
