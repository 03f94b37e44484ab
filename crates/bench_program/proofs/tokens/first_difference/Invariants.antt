use Rattle.std.proofs.Common.{ℕ, ◌<◌}
use Rattle.bench_program.specs.Said.{SameLine}
use Rattle.bench_program.proofs.tokens.first_difference.Given as goal

abbrev pub invariant-loop-line : goal.invariant-loop-line
invariant-loop-line l = (line : ℕ) → line < l.line → SameLine l.first l.second line
