-- Laws of paths and trees.
use Rattle.std.specs.Prelude.{◌≡◌, ◌⊎◌, ◌↔◌, [], ◌∷◌, ◌++◌, Some, Ok, IsTrue, true}
use Rattle.base_types.specs.Members.{Member}
use Rattle.std.specs.FinMap.{get, from_entries}
use Rattle.tree_model.specs.Paths.{Text, Path, spelled, names_of, is_canonical, IsCanonical}
use Rattle.tree_model.specs.Entries.{Entries, Increasing, bodies_fit, entry_fits, has_parent, is_increasing, judged_path, links_fit, makes_tree}
use Rattle.std.specs.List.{list_all}
use Rattle.tree_model.specs.Trees.{IsTree, BodiesAreSmall, tree_of, entry_at, by_bytes, path_cmp}
use Rattle.tree_model.specs.declared.entry.Entry.{Entry}
use Rattle.tree_model.specs.declared.entry.Entry.TheVariants.{Dir}

-- the tree of a list that makes a tree is one
abbrev pub ListsMakeTrees : Type 0
ListsMakeTrees = (es : Entries) → IsTrue (makes_tree es) → IsTree (tree_of es)

-- each entry of such a list is a node of its tree
abbrev pub EntriesAreNodes : Type 0
EntriesAreNodes = (es : Entries) → IsTrue (makes_tree es) → (path : Path) (entry : Entry) → Member (path, entry) es → entry_at (tree_of es) path ≡ Some entry

-- each node of a list's tree is the root or an entry
abbrev pub NodesAreEntries : Type 0
NodesAreEntries = (es : Entries) (path : Path) (entry : Entry) → entry_at (tree_of es) path ≡ Some entry → ((path ≡ []) × (entry ≡ Dir)) ⊎ Member (path, entry) es

-- the files of a list's tree are as small as those of the list
abbrev pub FittingBodiesAreSmall : Type 0
FittingBodiesAreSmall = (es : Entries) → IsTrue (bodies_fit es) → BodiesAreSmall (tree_of es)

-- the paths of all entries are canonical
abbrev pub AreCanonical : Entries → Type 0
AreCanonical es = (path : Path) (entry : Entry) → Member (path, entry) es → IsCanonical path

-- looking a canonical path up by its spelling's bytes is looking it up by its names
abbrev pub LookedUpByBytes : Type 0
LookedUpByBytes = (es : Entries) (path : Path) → AreCanonical es → IsCanonical path → get (from_entries {R = path_cmp} es) path ≡ by_bytes (spelled path) es

-- canonical paths with one spelling are one
abbrev pub SpellingsAreApart : Type 0
SpellingsAreApart = (a b : Path) → IsCanonical a → IsCanonical b → spelled a ≡ spelled b → a ≡ b

-- the names of a canonical path's spelling are the path
abbrev pub NamesAreBack : Type 0
NamesAreBack = (path : Path) → IsCanonical path → names_of (spelled path) ≡ path

-- the test of a canonical path passes exactly those
abbrev pub TestsDecide : Type 0
TestsDecide = (path : Path) → IsTrue (is_canonical path) ↔ IsCanonical path

-- a text judged well spells the path
abbrev pub JudgedAreSpelled : Type 0
JudgedAreSpelled = (es : Entries) (text : Text) (path : Path) → judged_path es text ≡ Ok path → (spelled path ≡ text) × IsCanonical path

-- behind a list that increases, a path judged well makes a longer one that does
abbrev pub JudgedIncrease : Type 0
JudgedIncrease = (es : Entries) (text : Text) (path : Path) (entry : Entry) → Increasing es → judged_path es text ≡ Ok path → Increasing (es ++ (path, entry) ∷ [])

-- behind a list that makes a tree, a path judged well makes a longer one that does
abbrev pub JudgedMakeTrees : Type 0
JudgedMakeTrees = (es : Entries) (text : Text) (path : Path) (entry : Entry) → IsTrue (makes_tree es) → judged_path es text ≡ Ok path → IsTrue (entry_fits entry) → IsTrue (makes_tree (es ++ (path, entry) ∷ []))

-- each path of a list that makes a tree is judged well behind those before it
abbrev pub EntriesAreJudged : Type 0
EntriesAreJudged = (before after : Entries) (path : Path) (entry : Entry) → IsTrue (makes_tree (before ++ (path, entry) ∷ after)) → judged_path before (spelled path) ≡ Ok path

-- a list makes a tree where its paths increase and are canonical, its links have texts that they may have, and each
-- path's parent is the root or a directory anywhere in it
abbrev pub ParentsMakeTrees : Type 0
ParentsMakeTrees = (es : Entries) → IsTrue (is_increasing es) → list_all (λ e. has_parent es e.0) es ≡ true
    → list_all (λ e. is_canonical e.0) es ≡ true → links_fit es ≡ true → IsTrue (makes_tree es)
