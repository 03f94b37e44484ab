-- Laws of walks.
use Rattle.std.specs.Prelude.{◌≡◌, ◌⊎◌, ℕ, List, [], ◌∷◌, ◌++◌, Some, None, IsSome}
use Rattle.base_types.specs.Limits.{link_limit}
use Rattle.base_types.specs.Members.{Member}
use Rattle.tree_model.specs.Paths.{Text, Path}
use Rattle.tree_model.specs.Trees.{FileTree, entry_at, body_at, entry_body, IsTree, Sub}
use Rattle.tree_model.specs.Walk.{Look, components, start, End, Nowhere, AtDir, AtFile, walk, but_last, last_of, located_by, locate}
use Rattle.tree_model.specs.declared.entry.Entry.TheVariants.{Dir}
use Rattle.tree_model.specs.declared.walk.Located.{Located}

-- a part of a tree that has the nodes walked locates the file that the whole tree locates
abbrev pub IsLocatedInPart : Type 0
IsLocatedInPart = (part whole : FileTree) (dir : Path) (text : Text) (l : Located) → Sub part whole → locate whole dir text ≡ Some l
    → ((path : Path) → Member path l.walked → entry_at part path ≡ entry_at whole path)
    → locate part dir text ≡ Some l

-- a part of a tree locates no file where the whole tree locates none
abbrev pub IsLocatedInNoPart : Type 0
IsLocatedInNoPart = (part whole : FileTree) (dir : Path) (text : Text) → Sub part whole → locate whole dir text ≡ None → locate part dir text ≡ None

-- a part of a tree locates no file, or the one that the whole tree locates
abbrev pub IsNoneOrSame : Type 0
IsNoneOrSame = (part whole : FileTree) (dir : Path) (text : Text) → Sub part whole → (locate part dir text ≡ None) ⊎ (locate part dir text ≡ locate whole dir text)

-- what holds of a located file by any lookup: the file, its place and the starting directory are walked; the place is
-- the last component's name in some directory, and from there that name leads to the file
pub record LocatedLeads (look : Look) (dir : Path) (text : Text) (l : Located) : Type 0 where
  pub first : Member dir l.walked
  pub real : Member l.real l.walked
  pub place : Member l.place l.walked
  pub file : IsSome (entry_body (look l.real))
  pub up : Path
  pub below : l.place ≡ last_of (components text) ∷ up
  pub leads : (walk look link_limit up (last_of (components text) ∷ [])).end ≡ AtFile l.real

-- it holds of each file that a text locates
abbrev pub LeadsOfLocated : Type 0
LeadsOfLocated = (look : Look) (dir : Path) (text : Text) (l : Located) → located_by look dir text ≡ Some l → LocatedLeads look dir text l

-- what holds of a located file: the nodes walked are nodes, the file and its place among them; the place is the
-- last component's name in a directory, which is walked or the root; and from there that name leads to the file
pub record LocatedHolds (tree : FileTree) (text : Text) (l : Located) : Type 0 where
  pub nodes : (path : Path) → Member path l.walked → IsSome (entry_at tree path)
  pub file : IsSome (body_at tree l.real)
  pub real : Member l.real l.walked
  pub place : Member l.place l.walked
  pub up : Path
  pub below : l.place ≡ last_of (components text) ∷ up
  pub dir : entry_at tree up ≡ Some Dir
  pub dir_walked : (up ≡ []) ⊎ Member up l.walked
  pub leads : (walk (entry_at tree) link_limit up (last_of (components text) ∷ [])).end ≡ AtFile l.real

-- it holds of each file that a text locates from a directory of a tree
abbrev pub HoldsOfLocated : Type 0
HoldsOfLocated = (tree : FileTree) (dir : Path) (text : Text) (l : Located) → IsTree tree → entry_at tree dir ≡ Some Dir
    → locate tree dir text ≡ Some l → LocatedHolds tree text l

-- two lookups that agree at these paths
abbrev pub SameAt : Look → Look → List Path → Type 0
SameAt old new paths = (path : Path) → Member path paths → old path ≡ new path

-- lookups that agree at the paths looked up have the same walk
abbrev pub WalksByLooked : Type 0
WalksByLooked = (old new : Look) (links : ℕ) (dir : Path) (list : List Text) → SameAt old new (walk old links dir list).looked
    → walk old links dir list ≡ walk new links dir list

-- the paths looked up at the last component
abbrev pub last_looked : Look → Text → End → List Path
last_looked look name Nowhere = []
last_looked look name (AtDir dir links) = (walk look links dir (name ∷ [])).looked
last_looked look name (AtFile real) = []

-- the paths looked up for a text
unfoldable pub looked_for : Look → Path → Text → List Path
looked_for look dir text =
    let walked = walk look link_limit (start dir text) (but_last (components text)) in
    walked.looked ++ last_looked look (last_of (components text)) walked.end

-- lookups that agree at the paths looked up for a text locate the same file
abbrev pub LocatesByLooked : Type 0
LocatesByLooked = (old new : Look) (dir : Path) (text : Text) → SameAt old new (looked_for old dir text) → located_by old dir text ≡ located_by new dir text
