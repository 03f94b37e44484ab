use Rattle.std.proofs.Common.{◌≡◌, ℕ, List, drop}
use Rattle.std.specs.Prelude.{bytes_eq}
use Rattle.std.specs.List.{position_from}
use Rattle.macro_defs.specs.parts.Stored.{number_for_name}
use Rattle.macro_defs.proofs.numbers.first_numbers.Given as goal

-- the numbers of the first parameters from a place on
abbrev pub invariant-loop-place : goal.invariant-loop-place
invariant-loop-place l = (name : List ℕ) → number_for_name l.numbers name ≡ position_from (bytes_eq name) l.place (drop l.place l.params)
