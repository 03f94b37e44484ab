use Rattle.std.proofs.Common.{arith, ◌+◌, ◌-◌, ◌/◌, sym, ◌∙◌, ap, Some}
use Rattle.tree_model.specs.Paths.{Path}
use Rattle.tree_model.specs.declared.entry.Entry.{Entry}
use Rattle.tree_model.proofs.OrderLemmas.{none_before, none_behind, found_at, none_left, at_middle}
use Rattle.tree_model.proofs.order.entry_spelled.Goals as goal

pub loop-low-preserved-in-Less : goal.loop-low-preserved-in-Less
loop-low-preserved-in-Less c = record {
  within = c.loop-low.invariant.within;
  before = none_before c.args.entries.now c.args.text.now (c.loop-low.low + (c.loop-low.high - c.loop-low.low) / 2) c.index-entries-middle.result c.requires (omega (arith, c.loop-low.invariant.within, c.loop-low-test.true))
      (at_middle c.args.entries.now _ _ _ _ _ c.index-entries-middle.is c.bytes.ensures.value c.in-Less.ensures);
  behind = c.loop-low.invariant.behind;
}

pub loop-low-preserved : goal.loop-low-preserved
loop-low-preserved c = record {
  within = omega (arith, c.loop-low.invariant.within, c.loop-low-test.true);
  before = c.loop-low.invariant.before;
  behind = none_behind c.args.entries.now c.args.text.now (c.loop-low.low + (c.loop-low.high - c.loop-low.low) / 2) c.index-entries-middle.result c.requires (omega (arith, c.loop-low.invariant.within, c.loop-low-test.true))
      (at_middle c.args.entries.now _ _ _ _ _ c.index-entries-middle.is c.bytes.ensures.value c.in-Greater.ensures);
}

pub returns-in-Equal : goal.returns-in-Equal
returns-in-Equal c =
    let m = c.loop-low.low + (c.loop-low.high - c.loop-low.low) / 2 in
    ap (λ (x : Path × Entry). Some x.1) c.index-entries-middle.is
    ∙ sym (found_at c.args.entries.now c.args.text.now m c.index-entries-middle.result c.requires (omega (arith, c.loop-low.invariant.within, c.loop-low-test.true))
    (at_middle c.args.entries.now _ _ _ _ _ c.index-entries-middle.is c.bytes.ensures.value c.in-Equal.ensures))

pub returns : goal.returns
returns c = none_left c.args.entries.now c.args.text.now c.loop-low.low c.loop-low.high c.loop-low-test.false c.loop-low.invariant.before c.loop-low.invariant.behind
