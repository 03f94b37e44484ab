-- Where the entries of a list stand.
use Rattle.std.specs.Prelude.{ℕ, nat_eq, Bool, true, Option, None, Some, is_some}
use Rattle.std.specs.HashMap.{HashMap, get}
use Rattle.std.specs.List.{list_all}
use Rattle.tree_model.specs.Entries.{Entries}
use Rattle.tree_model.specs.Paths.{Path, spelled}
use Rattle.tree_model.specs.declared.entry.Entry.{Entry}
use Rattle.tree_model.specs.parts.Remembered.{number_of}

-- a place is kept for the number of an entry's spelling
abbrev pub is_placed : {S : Type 0} → HashMap ℕ ℕ S → Path × Entry → Bool
is_placed places entry = is_some (get nat_eq places (number_of (spelled entry.0)))

-- and so for all entries, where places are kept
abbrev pub all_placed : {S : Type 0} → Option (HashMap ℕ ℕ S) → Entries → Bool
all_placed None entries = true
all_placed (Some places) entries = list_all (is_placed places) entries
