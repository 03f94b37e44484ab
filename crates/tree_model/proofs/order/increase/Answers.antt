use Rattle.std.proofs.Common.{◌-◌, arith, sym, ◌∙◌}
use Rattle.tree_model.proofs.OrderLemmas.{increase_turn, no_neighbours}
use Rattle.tree_model.proofs.order.increase.Goals as goal

pub loop-i-preserved : goal.loop-i-preserved
loop-i-preserved c =
    c.loop-i.invariant
    ∙ increase_turn c.args.entries.now c.loop-i.i c.index-entries-i.result c.index-entries-i-in-loop-i.result c.bytes.result.now c.bytes-in-loop-i.result.now
    c.loop-i.auto.i c.loop-i-test.true c.index-entries-i.is c.index-entries-i-in-loop-i.is c.bytes.ensures.value c.bytes-in-loop-i.ensures.value (sym c.if-not-comes_before.ensures)

pub returns : goal.returns
returns c = sym (c.loop-i.invariant ∙ no_neighbours c.args.entries.now (c.loop-i.i - 1) (omega (arith, c.loop-i.auto.i, c.loop-i-test.false)))
