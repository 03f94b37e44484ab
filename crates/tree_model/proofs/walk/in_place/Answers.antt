use Rattle.std.proofs.Common.{◌∙◌, ◌++◌, ap, sym}
use Rattle.std.specs.Option.{option_map}
use Rattle.tree_model.specs.Walk.{components}
use Rattle.tree_model.specs.parts.Steps.{components_left}
use Rattle.tree_model.proofs.CutLemmas.{joined_as}
use Rattle.tree_model.proofs.walk.in_place.Goals as goal

pub returns : goal.returns
returns c =
    joined_as c.args.link c.in-Some.behind.now c.extend.new.self c.extend-2.new.self c.in_ok-extend.ensures.ok c.in_ok-extend-2.ensures.ok
    ∙ ap (λ rest. components c.args.link ++ components_left (option_map (λ t. t.now) rest)) (sym c.in-Some.is)
