use Rattle.std.proofs.Common.{◌≡◌, ℕ, List, take, true}
use Rattle.std.specs.Prelude.{bytes_eq}
use Rattle.std.specs.List.{list_any}
use Rattle.macro_defs.specs.parts.Stored.{spellings_of}
use Rattle.macro_defs.specs.Defining as spec
use Rattle.macro_defs.proofs.params.many_distinct.Given as goal

abbrev pub invariant-loop-name : goal.invariant-loop-name
invariant-loop-name l = record {
  known : (other : List ℕ) → list_any (bytes_eq other) (spellings_of l.known.keys) ≡ list_any (bytes_eq other) (take l.name-index l.names);
  distinct : spec.are_distinct (take l.name-index l.names) ≡ true;
}
