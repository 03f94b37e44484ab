-- What is remembered of a directory, and a look at a name in it, tell of a text.
use Rattle.std.specs.Prelude.{◌≡◌, ℕ, List, [], ◌∷◌, ◌++◌, Option, Some, None}
use Rattle.base_types.specs.Limits.{link_limit}
use Rattle.tree_model.specs.Paths.{Text, Path, child_of}
use Rattle.tree_model.specs.Trees.{FileTree, entry_at}
use Rattle.tree_model.specs.Walk.{Look, AtDir, Walked, walk, components, last_looked_up}
use Rattle.tree_model.specs.Reached.{reached_by}
use Rattle.tree_model.specs.declared.glance.Glance.{Glance}
use Rattle.tree_model.specs.declared.glance.Glance.TheVariants as glance
use Rattle.tree_model.specs.declared.glance.Glanced.{Glanced}
use Rattle.tree_model.specs.declared.glance.Glanced.TheVariants as glanced
use Rattle.tree_model.specs.declared.glance.Recalled.{Recalled}
use Rattle.tree_model.specs.declared.glance.Recalled.TheVariants as recalled
use Rattle.tree_model.specs.declared.reached.Reached.{Reached}
use Rattle.tree_model.specs.declared.reached.Reached.TheVariants as reach
use Rattle.tree_model.specs.declared.walk.Located.{Located}

-- what is known of a name by what the walk before it reached
abbrev pub Recalls : Reached → Text → Recalled → Type 0
Recalls it name recalled.Unknown = Unit {0}
Recalls it name recalled.Nowhere = it ≡ reach.Nowhere
Recalls it name (recalled.Child path) = (dir : Path) × (nodes : List Path) × (links : ℕ) × ((it ≡ reach.Dir dir nodes links) × (Some path ≡ child_of dir name))

-- a walk that ended at a directory, with this path behind its nodes and so many links left
abbrev pub EndsInFrontOf : Walked → Path → List Path × ℕ → Type 0
EndsInFrontOf walked path seen = (seen.0 ≡ walked.nodes ++ path ∷ []) × ((dir : Path) × (walked.end ≡ AtDir dir seen.1))

-- what is told of the file that a last component leads to, behind these nodes
abbrev pub Tells : List Path → Glance → Option Located → Type 0
Tells nodes glance.Unsure found = Unit {0}
Tells nodes glance.Missing found = None ≡ found
Tells nodes (glance.File path) found = Some (record { place = path; real = path; walked = nodes ++ path ∷ [] }) ≡ found

-- the same of a text
abbrev pub TellsLocated : Glanced → Option Located → Type 0
TellsLocated glanced.Unsure found = Unit {0}
TellsLocated glanced.Missing found = None ≡ found
TellsLocated (glanced.File located) found = Some located ≡ found

-- the file that a last component leads to behind the walk of these components from the root, before which these nodes are walked
abbrev pub located_below : Look → List Path → List Text → Text → Option Located
located_below look before list name =
    let walked = walk look link_limit [] list in
    last_looked_up look name (before ++ walked.nodes) walked.end

-- what the walk of a text's components and one more from the root reaches
abbrev pub reached_below : FileTree → Text → Text → Reached
reached_below tree text name = reached_by (walk (entry_at tree) link_limit [] (components text ++ name ∷ []))
