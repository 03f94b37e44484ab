use Rattle.std.proofs.Common.{◌≡◌}
use Rattle.tree_gen.specs.Generated as made
use Rattle.tree_gen.proofs.texts.job_lines.Given as goal

abbrev pub invariant-loop-number : goal.invariant-loop-number
invariant-loop-number l = l.lines.items ≡ made.job_lines l.number
