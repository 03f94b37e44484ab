use Rattle.std.proofs.Common.{ap, arith}
use Rattle.symbolic_expand.specs.Defined.{sets_of}
use Rattle.symbolic_expand.proofs.TableLaws.{has_all}
use Rattle.symbolic_expand.proofs.sets.DefSets.of_table.Goals as goal

pub loop-place-init : goal.loop-place-init
unfolding sets_of
loop-place-init c = λ name. ap (λ es. sets_of es name) c.new-sets.ensures

pub returns : goal.returns
returns c =
    has_all c.args.table.now c.loop-place.place c.loop-place.sets (omega (arith, c.loop-place-test.false, c.len-place-end.ensures)) c.loop-place.invariant
