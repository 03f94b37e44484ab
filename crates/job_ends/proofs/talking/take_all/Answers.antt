use Rattle.std.proofs.Common.{◌++◌, ◌∙◌, ap, arith, take, cond, nat_eq}
use Rattle.io_edges.specs.Talk.{taking, ending, on_current}
use Rattle.job_ends.proofs.Changes.{taken-none, taken-call, ended-call}
use Rattle.job_ends.proofs.talking.take_all.Goals as goal

pub loop-room-init : goal.loop-room-init
loop-room-init g c = record { state = c.requires; talk = rw c.new-bytes.ensures (taken-none (g.W.Wire.talk c.args.wire.now)); answered = λ a. a; later = omega arith }

pub returns-then-n-eq0-clause-ok : goal.returns-then-n-eq0-clause-ok
returns-then-n-eq0-clause-ok g c =
    let q = take c.in-Ok.n c.take.new.room in
    c.in-Ok.ensures.ok ∙ ap (on_current (λ e. cond (nat_eq c.in-Ok.n 0) (ending e) (taking q e))) c.loop-room.invariant.talk
    ∙ ended-call c.loop-room.bytes q c.in-Ok.n (g.W.Wire.talk c.args.wire.now) c.if-n-eq0.true

pub returns-in-Err-extend-clause-err : goal.returns-in-Err-extend-clause-err
returns-in-Err-extend-clause-err g c =
    let q = take c.in-Ok.n c.take.new.room in (
      c.loop-room.bytes ++ q,
      c.in-Ok.ensures.ok ∙ ap (on_current (λ e. cond (nat_eq c.in-Ok.n 0) (ending e) (taking q e))) c.loop-room.invariant.talk
          ∙ taken-call c.in-Ok.n c.loop-room.bytes q (g.W.Wire.talk c.args.wire.now) c.if-n-eq0.false,
    )

pub loop-room-preserved : goal.loop-room-preserved
loop-room-preserved g c =
    let q = take c.in-Ok.n c.take.new.room in
    record {
      state = c.in-Ok.ensures.still ∙ c.loop-room.invariant.state;
      talk = rw c.in_default.ensures.ok (c.in-Ok.ensures.ok ∙ ap (on_current (λ e. cond (nat_eq c.in-Ok.n 0) (ending e) (taking q e))) c.loop-room.invariant.talk
          ∙ taken-call c.in-Ok.n c.loop-room.bytes q (g.W.Wire.talk c.args.wire.now) c.if-n-eq0.false);
      answered = λ a. c.in-Ok.ensures.answered;
      later = omega arith;
    }
