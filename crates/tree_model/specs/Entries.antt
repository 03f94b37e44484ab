-- Lists of nodes in order of their paths' spellings, byte by byte.
use Rattle.std.specs.Prelude.{Bool, true, false, not, ◌&&◌, List, [], ◌∷◌, ◌++◌, length, if◌then◌else◌, ◌==◌, nat_eq, nat_lt, nat_le, Option, Some, None, Result, Ok, Err, IsTrue}
use Rattle.std.specs.List.{list_any, list_all}
use Rattle.std.specs.Ordering.{nat_cmp, is_lt}
use Rattle.std.specs.Cmp.Lexicographic.{slice_cmp}
use lib.Pointwise.{pointwise}
use Rattle.base_types.specs.Limits.{body_limit, path_limit}
use Rattle.tree_model.specs.Paths.{Text, Path, spelled, path_of, is_canonical}
use Rattle.tree_model.specs.declared.entry.Entry.{Entry}
use Rattle.tree_model.specs.declared.entry.Entry.TheVariants.{Dir, File, Link}
use Rattle.tree_model.specs.declared.mem_tree.MirrorError.{MirrorError}
use Rattle.tree_model.specs.declared.mem_tree.MirrorError.TheVariants as why

abbrev pub Entries : Type 0
Entries = List (Path × Entry)

-- a text comes before another by its bytes
abbrev pub below : Text → Text → Bool
below a b = is_lt (slice_cmp nat_cmp a b)

-- a text comes behind the spellings of all entries
abbrev pub comes_behind : Entries → Text → Bool
comes_behind es text = list_all (λ e. below (spelled e.0) text) es

abbrev pub is_dir : Entry → Bool
is_dir Dir = true
is_dir (File body) = false
is_dir (Link text) = false

-- an entry is a directory that is spelled so
abbrev pub is_dir_at : Text → Path × Entry → Bool
is_dir_at text e = pointwise nat_eq (spelled e.0) text && is_dir e.1

-- the parent of a path is the root or a directory among the entries; the root has none
abbrev pub has_parent : Entries → Path → Bool
has_parent es [] = false
has_parent es (name ∷ []) = true
has_parent es (name ∷ up ∷ path) = list_any (is_dir_at (spelled (up ∷ path))) es

-- the path that a text spells, where it may stand behind the entries; else the reason why it may not: its
-- order first, then that it is no canonical path or lacks its parent
abbrev pub with_parent : Entries → Option Path → Result Path MirrorError
with_parent es None = Err why.Parent
with_parent es (Some path) = if has_parent es path then Ok path else Err why.Parent

unfoldable pub judged_path : Entries → Text → Result Path MirrorError
judged_path es text = if comes_behind es text then with_parent es (path_of text) else Err why.Order

-- the paths' spellings increase strictly
abbrev pub is_increasing : Entries → Bool
is_increasing [] = true
is_increasing (e ∷ es) = list_all (λ f. below (spelled e.0) (spelled f.0)) es && is_increasing es

abbrev pub Increasing : Entries → Type 0
Increasing es = IsTrue (is_increasing es)

-- each path's parent is the root or a directory before it
abbrev pub parents_stand : Entries → Entries → Bool
parents_stand before [] = true
parents_stand before (e ∷ es) = has_parent before e.0 && parents_stand (before ++ e ∷ []) es

-- why a list of entries makes no tree: paths that don't increase; else one whose parent isn't there
unfoldable pub mirror_error : Entries → Option MirrorError
mirror_error es = if is_increasing es then (if parents_stand [] es then None else Some why.Parent) else Some why.Order

-- 1 to 4,095 bytes, none of them 0
abbrev pub is_link_text : Text → Bool
is_link_text text = nat_lt 0 (length text) && (nat_lt (length text) path_limit && not (list_any (λ byte. byte == 0) text))

abbrev pub IsLinkText : Text → Type 0
IsLinkText text = IsTrue (is_link_text text)

-- a link's text is one that a tree may have
abbrev pub entry_fits : Entry → Bool
entry_fits Dir = true
entry_fits (File body) = true
entry_fits (Link text) = is_link_text text

abbrev pub links_fit : Entries → Bool
links_fit es = list_all (λ e. entry_fits e.1) es

-- a file has at most as many bytes as are read
abbrev pub body_fits : Entry → Bool
body_fits Dir = true
body_fits (File body) = nat_le (length body) body_limit
body_fits (Link text) = true

abbrev pub bodies_fit : Entries → Bool
bodies_fit es = list_all (λ e. body_fits e.1) es

-- the test of a list that makes a tree
abbrev pub makes_tree : Entries → Bool
makes_tree es = is_increasing es && (parents_stand [] es && (list_all (λ e. is_canonical e.0) es && links_fit es))
