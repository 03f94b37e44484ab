use Rattle.std.proofs.Common.{◌++◌, ◌∷◌, List, ℕ, ◌∙◌, ap}
use Rattle.std.proofs.lemmas.Result.{IfOk-weaker}
use Rattle.base_types.specs.Ascii.{slash}
use Rattle.tree_model.proofs.LinkFronts.{from_root}
use Rattle.tree_model.proofs.walk.text_from_root.Goals as goal

pub returns : goal.returns
returns c =
    IfOk-weaker c.extended.result _ _
    (λ whole is. from_root c.args.dir.now c.args.text.now whole.items c.stem.ensures.canonical.names (is ∙ ap (λ (stem : List ℕ). stem ++ slash ∷ c.args.text.now) c.stem.ensures.value))
    c.extended.ensures
