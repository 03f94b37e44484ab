use Rattle.std.proofs.Common.{sym, ◌∙◌}
use Rattle.std.proofs.lemmas.Result.{IfOk-weaker}
use Rattle.tree_model.specs.Paths.{parent}
use Rattle.tree_model.proofs.PathLemmas.{parent_above, parent-canonical, spelling_of, names_are, root_parent, parent_spelled, below_slash}
use Rattle.tree_model.proofs.path.CanonPath.parent.Goals as goal

pub returns-then-is_empty : goal.returns-then-is_empty
returns-then-is_empty c =
    let above = parent_above c.args.self.now c.bytes.result.now c.before_last-above.result.now c.bytes.ensures.canonical c.bytes.ensures.value c.before_last-above.ensures in
    c.the_root.ensures ∙ root_parent (parent c.args.self.now) c.before_last-above.result.now above (sym c.if-is_empty.ensures)

pub below_root-requires-clause-spelling : goal.below_root-requires-clause-spelling
below_root-requires-clause-spelling c =
    let same = c.in_ok-spelling.ensures in
    let above = parent_above c.args.self.now c.bytes.result.now c.before_last-above.result.now c.bytes.ensures.canonical c.bytes.ensures.value c.before_last-above.ensures in
    spelling_of (parent c.args.self.now) c.in_ok-spelling.spelling (parent-canonical c.args.self.now c.bytes.ensures.canonical)
    (same ∙ parent_spelled (parent c.args.self.now) c.before_last-above.result.now above (sym c.if-is_empty.ensures))

pub below_root-requires-clause-below : goal.below_root-requires-clause-below
below_root-requires-clause-below c is =
    let same = c.in_ok-spelling.ensures in
    let above = parent_above c.args.self.now c.bytes.result.now c.before_last-above.result.now c.bytes.ensures.canonical c.bytes.ensures.value c.before_last-above.ensures in
    below_slash (parent c.args.self.now) (parent-canonical c.args.self.now c.bytes.ensures.canonical).names (sym above ∙ sym same ∙ is)

pub returns : goal.returns
returns c =
    let same = c.in_ok-spelling.ensures in
    let above = parent_above c.args.self.now c.bytes.result.now c.before_last-above.result.now c.bytes.ensures.canonical c.bytes.ensures.value c.before_last-above.ensures in
    let is = names_are (parent c.args.self.now) c.in_ok-spelling.spelling (parent-canonical c.args.self.now c.bytes.ensures.canonical)
    (same ∙ parent_spelled (parent c.args.self.now) c.before_last-above.result.now above (sym c.if-is_empty.ensures)) in
    IfOk-weaker c.below_root.result _ _ (λ path h. h ∙ is) c.below_root.ensures
