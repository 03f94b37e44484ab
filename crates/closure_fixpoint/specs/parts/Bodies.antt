-- The bytes of files that an analysis read.
use Rattle.std.specs.Prelude.{◌≡◌, ◌≤◌, ◌⊎◌, length, Option, None, Some}
use Rattle.std.specs.HashMap.{get}
use Rattle.base_types.specs.Limits.{body_limit}
use Rattle.tree_model.specs.Paths.{Text, Path, is_same_path}
use Rattle.tree_model.specs.Bodies.{body_at_path}
use Rattle.tree_model.specs.Trees.{FileTree}
use Rattle.closure_fixpoint.specs.declared.bodies.Bodies.{Bodies}

-- those of each file, where they are known
abbrev pub bodies_known : Bodies → Path → Option Text
bodies_known bodies = get is_same_path bodies.known

-- none are too many, and where a tree is told they are those of the file there
pub record AreBodiesOf (told : Option FileTree) (known : Path → Option Text) : Type 0 where
  pub small : (path : Path) (body : Text) → known path ≡ Some body → length body ≤ body_limit
  pub same : (path : Path) (body : Text) → known path ≡ Some body → (tree : FileTree) → told ≡ Some tree → body ≡ body_at_path tree path

-- those of one file may have been taken, and all others are left
abbrev pub TakesAt : Path → (Path → Option Text) → (Path → Option Text) → Type 0
TakesAt path before now = (other : Path) → (now other ≡ before other) ⊎ ((other ≡ path) × (now other ≡ None))
