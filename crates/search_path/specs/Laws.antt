-- Laws of searches.
use Rattle.std.specs.Prelude.{◌≡◌, ◌⊎◌, [], None, Some}
use Rattle.base_types.specs.Members.{Member}
use Rattle.tree_model.specs.Paths.{Text, Path, parent}
use Rattle.tree_model.specs.Trees.{FileTree, entry_at, Sub}
use Rattle.tree_model.specs.Walk.{locate}
use Rattle.search_path.specs.SetupOf.{SetupData}
use Rattle.search_path.specs.Search.{Hit, search}
use Rattle.search_path.specs.declared.asking.Visit.{Visit}
use Rattle.search_path.specs.declared.asking.Ask.{Ask}

-- a directory from which a search locates: the root, or that of the file that asks
abbrev pub IsStart : Ask → Path → Type 0
IsStart ask dir = (dir ≡ []) ⊎ ((visit : Visit) × (ask.from ≡ Some visit) × (dir ≡ parent visit.place))

-- a file that was found is located by some text from such a directory, and the visit's place is where it was located
pub record HitIsLocated (tree : FileTree) (ask : Ask) (hit : Hit) : Type 0 where
  pub dir : Path
  pub text : Text
  pub start : IsStart ask dir
  pub located : locate tree dir text ≡ Some hit.1
  pub place : hit.0.place ≡ hit.1.place

abbrev pub SearchesLocate : Type 0
SearchesLocate = (tree : FileTree) (setup : SetupData) (ask : Ask) (hit : Hit) → search tree setup ask ≡ Some hit → HitIsLocated tree ask hit

-- a part of a tree that has the nodes walked finds the file that the whole tree finds
abbrev pub IsFoundInPart : Type 0
IsFoundInPart = (part whole : FileTree) (setup : SetupData) (ask : Ask) (hit : Hit) → Sub part whole → search whole setup ask ≡ Some hit
    → ((path : Path) → Member path hit.1.walked → entry_at part path ≡ entry_at whole path)
    → search part setup ask ≡ Some hit

-- a part of a tree finds no file where the whole tree finds none
abbrev pub IsFoundInNoPart : Type 0
IsFoundInNoPart = (part whole : FileTree) (setup : SetupData) (ask : Ask) → Sub part whole → search whole setup ask ≡ None → search part setup ask ≡ None
