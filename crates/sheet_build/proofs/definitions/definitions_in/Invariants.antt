use Rattle.std.proofs.Common.{◌≡◌, map, take}
use Rattle.std.specs.List.{filter_map}
use Rattle.sheet_build.specs.Sheet.{named_pair, definition_in}
use Rattle.sheet_build.proofs.definitions.definitions_in.Given as goal

-- those of the pieces so far
abbrev pub invariant-loop-number : goal.invariant-loop-number
invariant-loop-number l = map named_pair l.defs ≡ filter_map definition_in (take l.number l.pieces)
