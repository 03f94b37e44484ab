use Rattle.std.proofs.Common.{sym}
use Rattle.tree_gen.specs.Generated as made
use Rattle.tree_gen.proofs.Counted.{members_more}
use Rattle.tree_gen.proofs.numbered.add_headers.Goals as goal

pub loop-number-preserved : goal.loop-number-preserved
loop-number-preserved c =
    rw (c.in_ok-push.ensures.items, c.loop-number.invariant, c.in_ok-header.ensures) (sym (members_more c.args.nodes.now.items made.header c.loop-number.number))
