use Rattle.closure_fixpoint.proofs.GrownLaws.{one_copied}
use Rattle.closure_fixpoint.proofs.worklist.all_of.Goals as goal

pub loop-number-preserved : goal.loop-number-preserved
loop-number-preserved c =
    one_copied c.args.found.now c.loop-number.visits.items c.push.new.self.items c.loop-number.number c.in-Some.visit.now c.in_ok-copy-in-Some.field-0 c.in-Some.ensures
    c.in_ok-copy-in-Some.ensures c.loop-number.invariant c.in_ok-push-in-Some.ensures.items
