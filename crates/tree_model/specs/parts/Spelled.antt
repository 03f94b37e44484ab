-- What the spelling of a path holds, wherever it is kept.
use Rattle.std.specs.Prelude.{◌≤◌, take}
use Rattle.tree_model.specs.Paths.{Text}
use Rattle.tree_model.specs.declared.spelling.Kept.{Kept}
use Rattle.tree_model.specs.declared.spelling.Kept.TheVariants.{Inside, Outside}

abbrev pub kept_bytes : Kept → Text
kept_bytes (Inside bytes count) = take count bytes
kept_bytes (Outside bytes) = bytes.items

-- no more bytes are counted than there is room for
abbrev pub FitsIn : Kept → Type 0
FitsIn (Inside bytes count) = count ≤ 94
FitsIn (Outside bytes) = Unit {0}
