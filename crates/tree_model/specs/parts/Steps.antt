-- How the steps of a program go on as a walk does.
use Rattle.std.specs.Prelude.{◌≡◌, ℕ, zero, suc, List, [], ◌++◌, Option, Some, None}
use Rattle.tree_model.specs.Paths.{Text, Path}
use Rattle.tree_model.specs.Walk.{Look, components, Component, Stay, Up, Down, End, Nowhere, AtDir, AtFile, Walked, walk_ended, file_end, walk}
use Rattle.tree_model.specs.declared.walk.Step.{Step}
use Rattle.tree_model.specs.declared.walk.Step.TheVariants as step
use Rattle.tree_model.specs.declared.walk.Stop.{Stop}
use Rattle.tree_model.specs.declared.walk.Stop.TheVariants as stop
use Rattle.tree_model.specs.declared.walk.Move.{Move}
use Rattle.tree_model.specs.declared.walk.Move.TheVariants as move

-- the components of the text that is left, if some is
abbrev pub components_left : Option Text → List Text
components_left None = []
components_left (Some text) = components text

-- what a move asks for, with the component's name
abbrev pub asked : Move → Text → Component
asked move.Stay name = Stay
asked move.Up name = Up
asked move.Down name = Down name

-- a walk that notes more nodes has as its end that of the walk that is left, and as its nodes those noted since and
-- then those of the walk that is left
pub record GoesOn (before : List Path) (whole : Walked) (noted : List Path) (left : Walked) : Type 0 where
  pub end : whole.end ≡ left.end
  pub nodes : before ++ whole.nodes ≡ noted ++ left.nodes

-- the walk from where a link's text begins, with a link less
abbrev pub followed : Look → ℕ → Path → List Text → Walked
followed look zero dir list = walk_ended Nowhere
followed look (suc links) dir list = walk look links dir list

-- the walk that is left behind a step, with so many links and the components left
abbrev pub onward : Look → ℕ → List Text → Step → Walked
onward look links rest step.Nowhere = walk_ended Nowhere
onward look links rest (step.Dir path) = walk look links path rest
onward look links rest (step.File path) = walk_ended (file_end path rest)
onward look links rest (step.Link dir text) = followed look links dir (components text ++ rest)

-- the end of a walk that stopped
abbrev pub end_of : Stop → End
end_of stop.Nowhere = Nowhere
end_of (stop.Dir path links) = AtDir path links
end_of (stop.File path) = AtFile path
