-- Where the walk of a text from the root ends, as far as a file that is located below it is concerned.
use Rattle.std.specs.Prelude.{List, []}
use Rattle.base_types.specs.Limits.{link_limit}
use Rattle.tree_model.specs.Paths.{Text, Path}
use Rattle.tree_model.specs.Trees.{FileTree, entry_at}
use Rattle.tree_model.specs.Walk.{End, Nowhere, AtDir, AtFile, Walked, walk, components}
use Rattle.tree_model.specs.declared.reached.Reached.{Reached}
use Rattle.tree_model.specs.declared.reached.Reached.TheVariants as reach

abbrev pub reached_at : List Path → End → Reached
reached_at nodes Nowhere = reach.Nowhere
reached_at nodes (AtDir path links) = reach.Dir path nodes links
reached_at nodes (AtFile real) = reach.Nowhere

abbrev pub reached_by : Walked → Reached
reached_by walked = reached_at walked.nodes walked.end

-- what the walk of a text's components from the root reaches
abbrev pub reached : FileTree → Text → Reached
reached tree text = reached_by (walk (entry_at tree) link_limit [] (components text))
