-- Canonical paths.
use Rattle.std.specs.Prelude.{◌≡◌, ◌⊎◌, ℕ, ◌≤◌, List, [], ◌∷◌, ◌++◌, length, reverse, filter, nat_lt, nat_le, nat_eq, ◌==◌, Bool, not, ◌&&◌, ◌||◌, if◌then◌else◌, Option, Some, None}
use Rattle.std.specs.List.{slice_split, AllByRecursion, list_all}
use Rattle.std.specs.Bool.{Decides}
use lib.Pointwise.{pointwise, pointwise_decides, bytes_decides}
use Rattle.base_types.specs.Ascii.{slash, dot}
use Rattle.base_types.specs.Limits.{name_limit, path_limit}
use Rattle.base_types.specs.Members.{Member}

-- bytes of a file, a name or a text
abbrev pub Text : Type 0
Text = List ℕ

-- a path is its names, the innermost first: the root has none, and the parent is the tail
abbrev pub Path : Type 0
Path = List Text

-- the spelling: `/` for the root, else each name after a `/`
abbrev pub spelled_below : Path → Text
spelled_below [] = []
spelled_below (name ∷ parent) = spelled_below parent ++ (slash ∷ name)

abbrev pub spelled : Path → Text
spelled [] = slash ∷ []
spelled (name ∷ parent) = spelled_below (name ∷ parent)

-- the path that a text spells: the parts between its slashes, the last first, without empty ones
abbrev pub names_of : Text → Path
names_of text = reverse (filter (λ part. nat_lt 0 (length part)) (slice_split (λ b. b == slash) text))

-- a name has 1 to 255 bytes, no `/`, no byte 0, and is neither `.` nor `..`
pub record IsName (name : Text) : Type 0 where
  pub some : 1 ≤ length name
  pub short : length name ≤ name_limit
  pub no_slash : Member slash name → ⊥
  pub no_zero : Member 0 name → ⊥
  pub no_dot : name ≡ dot ∷ [] → ⊥
  pub no_dots : name ≡ dot ∷ dot ∷ [] → ⊥

-- names, and a spelling of at most 4,096 bytes
pub record IsCanonical (path : Path) : Type 0 where
  pub names : AllByRecursion IsName path
  pub short : length (spelled path) ≤ path_limit

-- a text is the spelling of a canonical path
abbrev pub IsSpelling : Text → Type 0
IsSpelling text = IsCanonical (names_of text) × (spelled (names_of text) ≡ text)

-- a byte may stand in a name
abbrev pub is_file_name_byte : ℕ → Bool
is_file_name_byte b = not (b == slash) && not (b == 0)

abbrev pub is_dots : Text → Bool
is_dots name = pointwise nat_eq name (dot ∷ []) || pointwise nat_eq name (dot ∷ dot ∷ [])

-- the test of a name
abbrev pub is_name : Text → Bool
is_name name = nat_lt 0 (length name) && (nat_le (length name) name_limit && (list_all is_file_name_byte name && not (is_dots name)))

-- the test of a canonical path
abbrev pub is_canonical : Path → Bool
is_canonical path = list_all is_name path && nat_le (length (spelled path)) path_limit

-- the test of a text that spells a canonical path: its names are names, and spelled again they are the text
abbrev pub is_spelling : Text → Bool
is_spelling text = list_all is_name (names_of text) && (nat_le (length text) path_limit && pointwise nat_eq (spelled (names_of text)) text)

-- the canonical path that a text spells, if it spells one
unfoldable pub path_of : Text → Option Path
path_of text = if is_spelling text then Some (names_of text) else None

-- the directory that holds a path; the root holds itself
abbrev pub parent : Path → Path
parent [] = []
parent (name ∷ path) = path

-- the spelling of a path's parent, empty where the parent is the root; the root has none
abbrev pub parent_spelling : Path → Option Text
parent_spelling [] = None
parent_spelling (name ∷ dir) = Some (spelled_below dir)

-- the path of a name in a directory, where that is a canonical path
abbrev pub child_of : Path → Text → Option Path
child_of dir name = if is_canonical (name ∷ dir) then Some (name ∷ dir) else None

-- the test whether two paths are the same
abbrev pub is_same_path : Path → Path → Bool
is_same_path = pointwise (pointwise nat_eq)

pub is_same_path-Decides : (one other : Path) → Decides (is_same_path one other) (one ≡ other)
is_same_path-Decides = pointwise_decides bytes_decides

-- a path, or one that it is below
abbrev pub IsAtOrAbove : Path → Path → Type 0
IsAtOrAbove path [] = path ≡ []
IsAtOrAbove path (name ∷ below) = (path ≡ name ∷ below) ⊎ IsAtOrAbove path below
