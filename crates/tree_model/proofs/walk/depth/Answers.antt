use Rattle.std.proofs.Common.{◌∙◌, ap, arith, ◌==◌}
use Rattle.std.specs.List.{count_by}
use Rattle.std.proofs.lemmas.List.{take_all}
use Rattle.base_types.specs.Ascii.{slash}
use Rattle.tree_model.proofs.LinkFronts.{slashes}
use Rattle.tree_model.proofs.walk.depth.Goals as goal

pub returns-clause-value : goal.returns-clause-value
returns-clause-value c =
    c.loop-b.invariant
    ∙ ap (count_by (λ b. b == slash)) (take_all c.loop-b.b-index c.stem-stem.result.now (omega (arith, c.loop-b-test.false)) ∙ c.stem-stem.ensures.value)
    ∙ slashes c.args.path.now c.stem-stem.ensures.canonical.names
