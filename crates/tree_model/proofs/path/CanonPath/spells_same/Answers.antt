use Rattle.std.proofs.Common.{◌≡◌, sym, ◌∙◌, ap, List, ℕ}
use Rattle.std.specs.Prelude.{nat_eq}
use lib.Pointwise.{pointwise}
use Rattle.tree_model.specs.Paths.{spelled}
use Rattle.tree_model.proofs.PathLemmas.{spelled-same, text_same, text_itself}
use Rattle.tree_model.proofs.path.CanonPath.spells_same.Goals as goal

pub returns : goal.returns
returns c =
    let left : c.bytes.result.now ≡ spelled c.args.self.now = c.bytes.ensures.value in
    let right : c.bytes-2.result.now ≡ spelled c.args.other.now = c.bytes-2.ensures.value in (
      λ e. spelled-same c.args.self.now c.args.other.now c.bytes.ensures.canonical c.bytes-2.ensures.canonical
          (sym left ∙ text_same c.bytes.result.now c.bytes-2.result.now (sym c.eq.ensures ∙ e) ∙ right),
      λ e. c.eq.ensures ∙ ap (λ (t : List ℕ). pointwise nat_eq c.bytes.result.now t) (right ∙ sym (ap spelled e) ∙ sym left) ∙ text_itself c.bytes.result.now,
    )
