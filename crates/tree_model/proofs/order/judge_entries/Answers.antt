use Rattle.std.proofs.Common.{sym}
use Rattle.tree_model.proofs.TreeLemmas.{order_first, parent_next, no_error, made_from}
use Rattle.tree_model.proofs.order.judge_entries.Goals as goal

pub returns-then-not-increase-clause-error : goal.returns-then-not-increase-clause-error
returns-then-not-increase-clause-error c = sym (order_first c.args.entries.now (sym c.if-not-increase.ensures))

pub returns-then-have_parents-clause-error : goal.returns-then-have_parents-clause-error
returns-then-have_parents-clause-error c =
    sym (no_error c.args.entries.now (sym c.if-not-increase.ensures) (sym c.if-have_parents.ensures.value))

pub returns-then-have_parents-clause-made : goal.returns-then-have_parents-clause-made
returns-then-have_parents-clause-made c none links =
    made_from c.args.entries.now (sym c.if-not-increase.ensures) (sym c.if-have_parents.ensures.value)
    (c.have_parents.ensures.canonical c.if-have_parents.true) links

pub returns-clause-error : goal.returns-clause-error
returns-clause-error c =
    sym (parent_next c.args.entries.now (sym c.if-not-increase.ensures) (sym c.if-have_parents.ensures.value))
