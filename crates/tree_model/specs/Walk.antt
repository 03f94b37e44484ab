-- Walks through a tree, as in POSIX pathname resolution (4.13), and the files that texts locate.
use Rattle.std.specs.Prelude.{ℕ, zero, suc, List, [], ◌∷◌, ◌++◌, length, Option, Some, None, Bool, true, false, cond, ◌==◌, nat_le, nat_eq, ◌&&◌, not}
use Rattle.std.specs.List.{slice_split}
use Rattle.base_types.specs.Ascii.{slash, dot}
use Rattle.base_types.specs.Limits.{link_limit, path_limit}
use Rattle.tree_model.specs.Paths.{Text, Path, parent}
use Rattle.tree_model.specs.Trees.{FileTree, entry_at}
use Rattle.tree_model.specs.declared.walk.Located.{Located}
use Rattle.tree_model.specs.declared.entry.Entry.{Entry}
use Rattle.tree_model.specs.declared.entry.Entry.TheVariants.{Dir, File, Link}

-- the parts of a text between its slashes, empty ones included
abbrev pub components : Text → List Text
components text = slice_split (λ b. b == slash) text

-- what a component asks for
pub data Component : Type 0 where
  Stay : Component
  Up : Component
  Down : Text → Component

-- an empty component and `.` stay, `..` goes up, and any other is a name
abbrev pub component_of : Text → Component
component_of [] = Stay
component_of (a ∷ []) = cond (a == dot) Stay (Down (a ∷ []))
component_of (a ∷ b ∷ []) = cond ((a == dot) && (b == dot)) Up (Down (a ∷ b ∷ []))
component_of (a ∷ b ∷ c ∷ rest) = Down (a ∷ b ∷ c ∷ rest)

-- where a walk begins: a text that begins with `/` starts at the root
abbrev pub start : Path → Text → Path
start dir [] = dir
start dir (b ∷ text) = cond (b == slash) [] dir

-- how a walk ends: without success, at a Dir with so many links left, or at a File
pub data End : Type 0 where
  Nowhere : End
  AtDir : Path → ℕ → End
  AtFile : Path → End

-- a walk: how it ends, the nodes walked, and the paths looked up, whether a node is there or not
pub record Walked : Type 0 where
  pub end : End
  pub nodes : List Path
  pub looked : List Path

-- a node met before the rest of a walk
abbrev pub through : Path → Walked → Walked
through path walked = record { end = walked.end; nodes = path ∷ walked.nodes; looked = walked.looked }

-- a path looked up before the rest of a walk
abbrev pub looking : Path → Walked → Walked
looking path walked = record { end = walked.end; nodes = walked.nodes; looked = path ∷ walked.looked }

abbrev pub walk_ended : End → Walked
walk_ended end = record { end = end; nodes = []; looked = [] }

-- a File ends a walk, and a component after it ends the walk without success
abbrev pub file_end : Path → List Text → End
file_end path [] = AtFile path
file_end path (component ∷ rest) = Nowhere

-- what stands at each path
abbrev pub Look : Type 0
Look = Path → Option Entry

-- One step of a walk from a directory, before these components: `next` goes on from a directory, and `follow` does so with a
-- link less, the link's text in the link's place.
module _ (next : Path → Walked) (follow : Path → List Text → Walked) (rest : List Text) (dir : Path) where
  -- at a node that was looked up
  abbrev pub beyond : Path → Entry → Walked
  beyond path Dir = next path
  beyond path (File body) = walk_ended (file_end path rest)
  beyond path (Link text) = follow (start dir text) (components text ++ rest)

  -- at the name's node, if there is one
  abbrev pub entered : Path → Option Entry → Walked
  entered path None = walk_ended Nowhere
  entered path (Some node) = through path (beyond path node)

  -- at a component
  abbrev pub taken : Look → Component → Walked
  taken look Stay = next dir
  taken look Up = through (parent dir) (next (parent dir))
  taken look (Down name) = looking (name ∷ dir) (entered (name ∷ dir) (look (name ∷ dir)))

-- the walk from a directory through components, with so many links left
unfoldable pub walk_with : Look → ℕ → (follow : Path → List Text → Walked) → Path → List Text → Walked
walk_with look links follow dir [] = walk_ended (AtDir dir links)
walk_with look links follow dir (component ∷ rest) = taken (λ next. walk_with look links follow next rest) follow rest dir look (component_of component)

unfoldable pub walk : Look → ℕ → Path → List Text → Walked
walk look zero = walk_with look zero (λ dir rest. walk_ended Nowhere)
walk look (suc links) = walk_with look (suc links) (walk look links)

-- all components but the last, and the last
abbrev pub but_last : List Text → List Text
but_last [] = []
but_last (x ∷ []) = []
but_last (x ∷ y ∷ rest) = x ∷ but_last (y ∷ rest)

abbrev pub last_of : List Text → Text
last_of [] = []
last_of (x ∷ []) = x
last_of (x ∷ y ∷ rest) = last_of (y ∷ rest)

-- the File that a last component leads to, by how its walk from the directory that it was looked up in ends
abbrev pub located_at : Path → Text → List Path → End → Option Located
located_at dir name nodes Nowhere = None
located_at dir name nodes (AtDir other links) = None
located_at dir name nodes (AtFile real) = Some (record { place = name ∷ dir; real = real; walked = nodes })

-- the same, by its walk, after the nodes that were walked before it
abbrev pub located_in : Path → Text → List Path → Walked → Option Located
located_in dir name before walked = located_at dir name (before ++ walked.nodes) walked.end

-- the last component, looked up where the walk of the components before it ended
abbrev pub last_looked_up : Look → Text → List Path → End → Option Located
last_looked_up look name nodes Nowhere = None
last_looked_up look name nodes (AtDir dir links) = located_in dir name nodes (walk look links dir (name ∷ []))
last_looked_up look name nodes (AtFile real) = None

-- no text longer than 4,096 bytes locates a file, and none that is empty or ends with `/`, whose
-- last component is empty
abbrev pub can_locate : Text → Bool
can_locate text = nat_le (length text) path_limit && not (nat_eq (length (last_of (components text))) 0)

-- the nodes that a walk stands at before its first component: the directory it starts from, and the root
-- where the text begins with `/`
abbrev pub root_if : Bool → List Path
root_if true = [] ∷ []
root_if false = []

abbrev pub is_absolute : Text → Bool
is_absolute [] = false
is_absolute (b ∷ text) = b == slash

abbrev pub first_nodes : Path → Text → List Path
first_nodes dir text = dir ∷ root_if (is_absolute text)

-- the file that a text locates from a directory, with at most 40 links walked
unfoldable pub located_by : Look → Path → Text → Option Located
located_by look dir text =
    let walked = walk look link_limit (start dir text) (but_last (components text)) in
    cond (can_locate text) (last_looked_up look (last_of (components text)) (first_nodes dir text ++ walked.nodes) walked.end) None

-- the file that a text locates from a directory of a tree
abbrev pub locate : FileTree → Path → Text → Option Located
locate tree dir text = located_by (entry_at tree) dir text
