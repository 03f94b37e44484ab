-- The list of the nodes that were walked, each once, in order.
use Rattle.std.specs.Prelude.{List, [], ◌∷◌, ◌++◌, cond}
use Rattle.std.specs.List.{list_any, flat_map}
use Rattle.tree_model.specs.Paths.{Path, is_same_path}
use Rattle.closure_fixpoint.specs.Gathering.{upward}

-- a path more, where it isn't there yet
abbrev pub with_path : List Path → Path → List Path
with_path paths path = cond (list_any (is_same_path path) paths) paths (paths ++ path ∷ [])

unfoldable pub with_paths : List Path → List Path → List Path
with_paths paths [] = paths
with_paths paths (path ∷ others) = with_paths (with_path paths path) others

-- a path, and those above it where the one right above it wasn't walked
abbrev pub upward_from : List Path → Path → List Path
upward_from walked [] = []
upward_from walked (name ∷ path) = cond (list_any (is_same_path path) walked) ((name ∷ path) ∷ []) (upward (name ∷ path))

abbrev pub all_upward_from : List Path → List Path → List Path
all_upward_from walked paths = flat_map (upward_from walked) paths
