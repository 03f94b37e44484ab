-- A tree of files: a finite map from canonical paths to nodes.
use Rattle.std.specs.Prelude.{◌≡◌, ℕ, ◌<◌, ◌≤◌, List, [], ◌∷◌, length, Option, None, Some, IsSome, IfSome, IsTrue, Bool, true, false, nat_eq, cond, ◌⊎◌, refl}
use Rattle.std.specs.Option.{option_map}
use Rattle.std.specs.Ordering.{nat_cmp}
use Rattle.std.specs.declared.cmp.Ordering.{Ordering}
use Rattle.std.specs.Cmp.Lexicographic.{slice_cmp}
use Rattle.std.specs.FinMap.{FinMap, get, insert, from_entries, code}
use Rattle.std.specs.Coded.{Coded, Coded-set, Π_prop, →_prop, code_by, coded⊎, coded_list, coded_option, coded_ℕ}
use base.Stored.{coded_unit}
use Rattle.std.proofs.Common.{inl, inr, ap, subst}
use lib.Pointwise.{pointwise}
use Rattle.std.specs.List.{AllByRecursion}
use Rattle.std.specs.Option.{unwrap_or}
use Rattle.std.proofs.Props.{props}
use Rattle.base_types.specs.Limits.{body_limit}
use Rattle.tree_model.specs.Paths.{Text, Path, IsName, IsCanonical, spelled}
use Rattle.tree_model.specs.Entries.{Entries, IsLinkText}
use Rattle.tree_model.specs.declared.entry.Entry.{Entry}
use Rattle.tree_model.specs.declared.entry.Entry.TheVariants.{Dir, File, Link}
use Rattle.tree_model.specs.declared.entry.Node.{Node}
use Rattle.tree_model.specs.declared.entry.Node.TheVariants as node

-- the order of a tree's keys, by names; the order of spellings is that of entries
abbrev pub path_cmp : Path → Path → Ordering
path_cmp = slice_cmp (slice_cmp nat_cmp)

abbrev pub FileTree : Type 0
FileTree = FinMap path_cmp Entry

-- the node at a path, if there is one
abbrev pub entry_at : FileTree → Path → Option Entry
entry_at tree path = get tree path

-- canonical paths alone, `/` is a Dir, the parent of every other node is a Dir, and links have texts that they may have
pub record IsTree (tree : FileTree) : Type 0 where
  pub canonical : (path : Path) → IsSome (entry_at tree path) → IsCanonical path
  pub root : entry_at tree [] ≡ Some Dir
  pub parent : (name : Text) (path : Path) → IsSome (entry_at tree (name ∷ path)) → entry_at tree path ≡ Some Dir
  pub links : (path : Path) (text : Text) → entry_at tree path ≡ Some (Link text) → IsLinkText text

-- every node of the first tree is the same node of the second
abbrev pub Sub : FileTree → FileTree → Type 0
Sub part whole = (path : Path) (entry : Entry) → entry_at part path ≡ Some entry → entry_at whole path ≡ Some entry

-- the tree of a list of entries: theirs, and the root
abbrev pub tree_of : Entries → FileTree
tree_of entries = insert (from_entries entries) [] Dir

-- the first entry whose path is spelled so
abbrev pub by_bytes : Text → Entries → Option Entry
by_bytes text [] = None
by_bytes text (e ∷ es) = cond (pointwise nat_eq (spelled e.0) text) (Some e.1) (by_bytes text es)

-- a node without a file's bytes
abbrev pub node_of_entry : Entry → Node
node_of_entry Dir = node.Dir
node_of_entry (File body) = node.File
node_of_entry (Link text) = node.Link text

-- the bytes of a file
abbrev pub entry_body : Option Entry → Option Text
entry_body None = None
entry_body (Some Dir) = None
entry_body (Some (File body)) = Some body
entry_body (Some (Link text)) = None

-- a node is a symbolic link
abbrev pub is_link : Option Entry → Bool
is_link None = false
is_link (Some Dir) = false
is_link (Some (File body)) = false
is_link (Some (Link text)) = true

-- a symbolic link stands at the path
abbrev pub IsLinkAt : FileTree → Path → Type 0
IsLinkAt tree path = IsTrue (is_link (entry_at tree path))

-- what a tree shows of a path: its node without bytes, or its bytes
abbrev pub node_at : FileTree → Path → Option Node
node_at tree path = option_map node_of_entry (entry_at tree path)

abbrev pub body_at : FileTree → Path → Option Text
body_at tree path = entry_body (entry_at tree path)

abbrev pub NodeFits : Node → Type 0
NodeFits node.Dir = Unit {0}
NodeFits node.File = Unit {0}
NodeFits (node.Link text) = IsLinkText text

-- a node that a tree may show
abbrev pub IsNode : Option Node → Type 0
IsNode got = IfSome got NodeFits

-- a body that a tree may show
abbrev pub IsBody : Option Text → Type 0
IsBody got = IfSome got (λ body. length body ≤ body_limit)

-- the file at the path has more bytes than are read
abbrev pub IsTooLarge : FileTree → Path → Type 0
IsTooLarge tree path = (body : Text) × (body_at tree path ≡ Some body) × (body_limit < length body)

-- no file of the tree has more bytes than are read
abbrev pub BodiesAreSmall : FileTree → Type 0
BodiesAreSmall tree = (path : Path) (body : Text) → body_at tree path ≡ Some body → length body ≤ body_limit

-- the type names this tree, or none
abbrev pub NamesOnly : Option FileTree → FileTree → Type 0
NamesOnly named found = (tree : FileTree) → named ≡ Some tree → found ≡ tree

-- a code of entries and of trees, by which two of them can be told apart
abbrev entry_to : Entry → Unit {0} ⊎ (List ℕ ⊎ List ℕ)
entry_to Dir = inl tt
entry_to (File body) = inr (inl body)
entry_to (Link text) = inr (inr text)

abbrev entry_from : Unit {0} ⊎ (List ℕ ⊎ List ℕ) → Entry
entry_from (inl _) = Dir
entry_from (inr (inl body)) = File body
entry_from (inr (inr text)) = Link text

pub entry_back : (entry : Entry) → entry_from (entry_to entry) ≡ entry
entry_back Dir = refl
entry_back (File body) = refl
entry_back (Link text) = refl

abbrev pub entry_code : Coded Entry
entry_code =
    code_by (Unit {0} ⊎ (List ℕ ⊎ List ℕ)) (coded⊎ coded_unit (coded⊎ (coded_list coded_ℕ) (coded_list coded_ℕ))) entry_to entry_from entry_back

abbrev pub tree_code : Coded FileTree
tree_code = code (coded_list (coded_list coded_ℕ)) entry_code

pub NamesOnly-prop : (named : Option FileTree) (found : FileTree) → IsProp (NamesOnly named found)
NamesOnly-prop named found = Π_prop (λ tree. →_prop (Coded-set tree_code found tree))

names_prop : (path : Path) → IsProp (AllByRecursion IsName path)
names_prop [] = hlevel props
names_prop (name ∷ path) = hlevel (props, names_prop path)

pub IsTree-prop : (tree : FileTree) → IsProp (IsTree tree)
IsTree-prop tree = hlevel (props, Coded-set (coded_option entry_code), names_prop)

pub BodiesAreSmall-prop : (tree : FileTree) → IsProp (BodiesAreSmall tree)
BodiesAreSmall-prop tree = hlevel props

-- two names of one tree
pub same_told : (one other : FileTree) → Some one ≡ Some other → one ≡ other
same_told one other e = ap (λ o. unwrap_or o one) e

pub told_whole : (told tree : FileTree) → IsTree told → Some told ≡ Some tree → IsTree tree
told_whole told tree h e = subst IsTree (same_told told tree e) h
