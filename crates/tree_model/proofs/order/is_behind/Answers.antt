use Rattle.std.proofs.Common.{arith, ◌∙◌, ap, ◌<◌, length, List, ℕ, false-eqb}
use Rattle.tree_model.specs.Paths.{Path, spelled}
use Rattle.tree_model.specs.declared.entry.Entry.{Entry}
use Rattle.tree_model.specs.Entries.{below}
use Rattle.tree_model.proofs.OrderLemmas.{last_decides}
use Rattle.tree_model.proofs.order.is_behind.Goals as goal

pub returns : goal.returns
returns c =
    let some : 0 < length c.args.entries.now = omega (arith, false-eqb _ 0 c.if-is_empty.ensures) in
    c.comes_before.ensures
    ∙ ap (λ (b : List ℕ). below b c.args.text.now) c.bytes.ensures.value
    ∙ ap (λ (x : Path × Entry). below (spelled x.0) c.args.text.now) c.index-entries-entries.is
    ∙ last_decides c.args.entries.now c.args.text.now c.index-entries-entries.result c.requires some
