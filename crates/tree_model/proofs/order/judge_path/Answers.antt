use Rattle.std.proofs.Common.{sym, ◌∙◌, ap}
use Rattle.tree_model.specs.Entries.{comes_behind, with_parent}
use Rattle.tree_model.proofs.OrderLemmas.{not_behind, judged, good_parent, bad_parent}
use Rattle.tree_model.proofs.order.judge_path.Goals as goal

pub returns-then-not-is_behind : goal.returns-then-not-is_behind
returns-then-not-is_behind c =
    not_behind c.args.entries.now c.args.text.items (sym (c.if-not-is_behind.ensures ∙ ap (comes_behind c.args.entries.now) c.as_slice.ensures.value))

pub returns-in-None : goal.returns-in-None
returns-in-None c =
    ap (with_parent c.args.entries.now) (sym c.in-None.is ∙ c.in_ok-of.ensures)
    ∙ judged c.args.entries.now c.args.text.items (sym (c.if-not-is_behind.ensures ∙ ap (comes_behind c.args.entries.now) c.as_slice.ensures.value))

pub returns-then-has_parent : goal.returns-then-has_parent
returns-then-has_parent c =
    good_parent c.args.entries.now c.in-Some.path (sym c.if-has_parent.ensures.value)
    ∙ ap (with_parent c.args.entries.now) (sym c.in-Some.is ∙ c.in_ok-of.ensures)
    ∙ judged c.args.entries.now c.args.text.items (sym (c.if-not-is_behind.ensures ∙ ap (comes_behind c.args.entries.now) c.as_slice.ensures.value))

pub returns-else-has_parent : goal.returns-else-has_parent
returns-else-has_parent c =
    bad_parent c.args.entries.now c.in-Some.path (sym c.if-has_parent.ensures.value)
    ∙ ap (with_parent c.args.entries.now) (sym c.in-Some.is ∙ c.in_ok-of.ensures)
    ∙ judged c.args.entries.now c.args.text.items (sym (c.if-not-is_behind.ensures ∙ ap (comes_behind c.args.entries.now) c.as_slice.ensures.value))
