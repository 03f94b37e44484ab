use Rattle.std.proofs.Common.{[], sym, subst}
use Rattle.macro_defs.specs.Runs.{run_tokens}
use Rattle.macro_expand.specs.parts.Stamps.{AllStamped}
use Rattle.macro_expand.proofs.StampLaws.{plain-stamped}
use Rattle.macro_expand.proofs.stream.Expander.over.Goals as goal

pub invariant_of-result : goal.invariant_of-result
invariant_of-result c going =
    ((λ k. []), subst (AllStamped (λ k. []) 1) (sym c.over.ensures) (plain-stamped (λ k. []) 1 (run_tokens c.args.run)))
