-- A place leads to its file.
use Rattle.std.specs.Prelude.{◌≡◌, [], Some}
use Rattle.tree_model.specs.Paths.{Path, Text, spelled}
use Rattle.tree_model.specs.Trees.{FileTree, IsTree, entry_at}
use Rattle.tree_model.specs.Walk.{locate}
use Rattle.tree_model.specs.declared.walk.Located.{Located}
use Rattle.tree_model.specs.declared.entry.Entry.TheVariants.{Dir}

-- the place of a located file locates it from the root
abbrev pub PlacesLocate : Type 0
PlacesLocate = (tree : FileTree) (dir : Path) (text : Text) (l : Located) → IsTree tree → entry_at tree dir ≡ Some Dir → locate tree dir text ≡ Some l
    → (again : Located) × (locate tree [] (spelled l.place) ≡ Some again) × (again.real ≡ l.real)
