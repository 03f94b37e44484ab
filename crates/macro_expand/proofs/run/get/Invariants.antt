use Rattle.std.proofs.Common.{◌≡◌, drop}
use Rattle.macro_defs.specs.Runs.{run_tokens}
use Rattle.macro_expand.proofs.run.get.Given as goal

abbrev pub invariant-loop-before : goal.invariant-loop-before
invariant-loop-before l = run_tokens l.run ≡ drop l._before (run_tokens l.fn.run)
