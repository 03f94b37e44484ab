-- The nodes that cases add to a tree's entries.
use Rattle.std.specs.Prelude.{List, map, [], ◌∷◌, ◌++◌, if◌then◌else◌, Option, Some, None}
use Rattle.tree_model.specs.Paths.{Text, Path}
use Rattle.tree_model.specs.Entries.{Entries, is_link_text}
use Rattle.tree_model.specs.declared.entry.Entry.{Entry}
use Rattle.tree_model.specs.declared.entry.Entry.TheVariants as entry
use Rattle.case_texts.specs.declared.entries.Stands.{Stands}
use Rattle.case_texts.specs.declared.entries.Stands.TheVariants as stands
use Rattle.case_texts.specs.declared.nodes.Node.{Node}

-- what stands there, with the bytes of a file or a link's text: a link of a text that no link may have is a directory
abbrev pub entry_of : Stands → Text → Entry
entry_of stands.Dir bytes = entry.Dir
entry_of stands.File bytes = entry.File bytes
entry_of stands.Link bytes = if is_link_text bytes then entry.Link bytes else entry.Dir

-- the entries with one more behind them, where it has a path
abbrev pub with_entry : Entries → Option Path → Entry → Entries
with_entry es None entry = es
with_entry es (Some path) entry = es ++ (path, entry) ∷ []

-- the entries that nodes are
abbrev pub entries_of : List Node → Entries
entries_of nodes = map (λ node. (node.path, node.entry)) nodes
