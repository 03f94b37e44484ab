use Rattle.std.proofs.Common.{sym, subst}
use Rattle.macro_expand.specs.Choice.{IsDistinct}
use Rattle.symbolic_expand.specs.Defined.{sets_of}
use Rattle.symbolic_expand.specs.parts.Stored.{seen}
use Rattle.symbolic_expand.proofs.sets.DefSets.new.Goals as goal

pub invariant_of-result : goal.invariant_of-result
unfolding sets_of
invariant_of-result c = subst (λ es. IsDistinct (sets_of (seen es))) (sym c.new.ensures.empty) (λ name. tt)
