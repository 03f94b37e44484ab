use Rattle.std.proofs.Common.{◌≡◌, ◌+◌, length}
use Rattle.pp_tokens.specs.Tokens.{rest_of}
use Rattle.bench_program.proofs.counts.length_of.Given as goal

-- the tokens that were counted, and those that are still to come
abbrev pub invariant-loop : goal.invariant-loop
invariant-loop l = l.length + length (rest_of l.iterator') ≡ length (rest_of l.fn.run)
