use Rattle.std.proofs.Common.{◌≡◌, ℕ, ◌<◌}
use Rattle.bench_program.specs.Said.{said, token_of}
use Rattle.bench_program.proofs.tokens.difference_on.Given as goal

abbrev pub invariant-loop-place : goal.invariant-loop-place
invariant-loop-place l = (place : ℕ) → place < l.place
    → said (token_of l.first l.line place) ≡ said (token_of l.second l.line place)
