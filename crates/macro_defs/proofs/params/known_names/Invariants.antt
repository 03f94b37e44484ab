use Rattle.std.proofs.Common.{◌≡◌, ℕ, List, take}
use Rattle.std.specs.Prelude.{bytes_eq}
use Rattle.std.specs.List.{list_any}
use Rattle.macro_defs.specs.parts.Stored.{spellings_of}
use Rattle.macro_defs.proofs.params.known_names.Given as goal

abbrev pub invariant-loop-name : goal.invariant-loop-name
invariant-loop-name l = (other : List ℕ) → list_any (bytes_eq other) (spellings_of l.known.keys) ≡ list_any (bytes_eq other) (take l.name-index l.names)
