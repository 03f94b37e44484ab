use Rattle.std.proofs.Common.{◌≡◌, ◌++◌, map, length, reverse}
use Rattle.macro_defs.specs.Runs.{run_tokens}
use Rattle.macro_expand.specs.parts.Placing.{lent_at}
use Rattle.macro_expand.proofs.placing.lend_each.Given as goal

abbrev pub invariant-loop-front : goal.invariant-loop-front
invariant-loop-front l =
    map (lent_at l.line l.hidden l.stamp) (run_tokens l.body) ++ reverse l.pending.items
    ≡ map (lent_at l.line l.hidden l.stamp) (run_tokens l.fn.body) ++ reverse l.fn.pending.items

abbrev pub decreases-loop-front : goal.decreases-loop-front
decreases-loop-front l = length (run_tokens l.body)
