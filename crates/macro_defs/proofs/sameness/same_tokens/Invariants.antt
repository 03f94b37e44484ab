use Rattle.std.proofs.Common.{◌≡◌, length}
use Rattle.std.specs.Cmp.Lexicographic.{pointwise}
use Rattle.macro_defs.specs.MacroDefinition.{without_line}
use Rattle.macro_defs.specs.Runs.{run_tokens}
use Rattle.macro_defs.specs.Sameness.{is_same_token}
use Rattle.macro_defs.proofs.sameness.same_tokens.Given as goal

-- the tokens so far are the same
abbrev pub invariant-loop-token : goal.invariant-loop-token
invariant-loop-token l =
    pointwise (λ a b. is_same_token (without_line a) (without_line b)) (run_tokens l.fn.one) (run_tokens l.fn.other)
    ≡ pointwise (λ a b. is_same_token (without_line a) (without_line b)) (run_tokens l.one) (run_tokens l.other)

abbrev pub decreases-loop-token : goal.decreases-loop-token
decreases-loop-token l = length (run_tokens l.one)
