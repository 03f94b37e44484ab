use Rattle.std.proofs.Common.{◌≡◌, ◌-◌, ◌^◌, take}
use Rattle.std.specs.Prelude.{min}
use Rattle.std.specs.List.{filter_map}
use Rattle.sheet_build.specs.Sheet.{definition_in}
use Rattle.sheet_build.specs.Weights.{tokens_defined}
use Rattle.sheet_build.proofs.definitions.count_tokens.Given as goal

-- those of the pieces so far
abbrev pub invariant-loop-number : goal.invariant-loop-number
invariant-loop-number l = l.tokens ≡ min (2 ^ 64 - 1) (tokens_defined (filter_map definition_in (take l.number l.pieces)))
