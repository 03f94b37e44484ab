use Rattle.std.proofs.Common.{◌≡◌, ◌-◌, ◌^◌, take, length}
use Rattle.std.specs.Prelude.{min, sum_by}
use Rattle.sheet_build.specs.Sheet.{ComputedAsk}
use Rattle.sheet_build.proofs.sheets.computed_tokens.Given as goal

abbrev pub invariant-loop-target : goal.invariant-loop-target
invariant-loop-target l = l.tokens ≡ min (2 ^ 64 - 1) (sum_by (λ (target : ComputedAsk). length target.tokens) (take l.target-index l.computed))
