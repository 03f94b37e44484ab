use Rattle.std.proofs.Common.{Result, subst}
use Rattle.daemon_cpp.specs.declared.stop.Stop.{Stop}
use Rattle.daemon_cpp.specs.Prep.{say}
use Rattle.daemon_cpp.specs.parts.Reading.{front_events}
use Rattle.daemon_cpp.specs.parts.Showing.{Goes}
use Rattle.daemon_cpp.proofs.Openings.{begins-announced, begins-full}
use Rattle.daemon_cpp.proofs.opening.announced.Goals as goal

pub returns-in-Ok-clause-begins : goal.returns-in-Ok-clause-begins
returns-in-Ok-clause-begins c = λ world file.
    rw c.make_room.ensures
    (begins-announced c.args.kept.now c.mark_front.new.kept c.args.source.now file world (front_events c.args.included c.args.place.now) c.args.pieces c.in-Ok.field-0
    (subst (λ (r : Result (Unit {0}) Stop). Goes c.args.kept.now c.mark_front.new.kept c.args.source.now file (λ state. say (front_events c.args.included c.args.place.now) state) r) c.in-Ok.is (c.mark_front.ensures.goes file)))

pub returns-in-Err-clause-begins : goal.returns-in-Err-clause-begins
returns-in-Err-clause-begins c = λ world file.
    begins-full (Unit {0}) c.args.kept.now c.mark_front.new.kept c.args.source.now file world (front_events c.args.included c.args.place.now) c.args.pieces c.in-Err.stop
    (subst (λ (r : Result (Unit {0}) Stop). Goes c.args.kept.now c.mark_front.new.kept c.args.source.now file (λ state. say (front_events c.args.included c.args.place.now) state) r) c.in-Err.is (c.mark_front.ensures.goes file))
