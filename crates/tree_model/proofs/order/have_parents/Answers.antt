use Rattle.std.proofs.Common.{sym}
use Rattle.tree_model.specs.Entries.{has_parent}
use Rattle.tree_model.specs.Paths.{is_canonical}
use Rattle.tree_model.proofs.PathLemmas.{test_from_canonical}
use Rattle.tree_model.proofs.OrderLemmas.{one_more}
use Rattle.tree_model.proofs.order.have_parents.Goals as goal

pub loop-entry-preserved : goal.loop-entry-preserved
loop-entry-preserved c = record {
  parents = one_more (λ e. has_parent c.args.entries.now e.0) c.args.entries.now c.loop-entry.entry-index c.entry-item.result c.loop-entry-test.true c.loop-entry.invariant.parents c.entry-item.is (sym c.if-not-has_parent.ensures.value);
  canonical = one_more (λ e. is_canonical e.0) c.args.entries.now c.loop-entry.entry-index c.entry-item.result c.loop-entry-test.true c.loop-entry.invariant.canonical c.entry-item.is (test_from_canonical c.entry-item.result.0 c.if-not-has_parent.ensures.canonical);
}
