use Rattle.std.proofs.Common.{ℕ, length, subst}
use Rattle.client_steps.specs.declared.need.Reply.TheVariants.{Drawn}
use Rattle.client_order.specs.parts.World.{seen_memo, IsDrawn}
use Rattle.client_order.proofs.TurnLaws.{draw-answers, draw-call, draw-right, no-call-keeps}
use Rattle.client_order.proofs.turns.answer_draw.Goals as goal

pub returns-clause-keeps : goal.returns-clause-keeps
returns-clause-keeps g c =
    let old = c.args.client.now in
    let hosts = length c.args.shared.now.slots.limits in
    no-call-keeps g.F.Frozen.named (seen_memo c.args.shared.now.memo) old c.put.new.self (Drawn c.draw-job.result) c.put.ensures.keeps c.put.ensures.same.1.0
    (draw-call old.jobs hosts old.phase c.draw-job.result c.requires.can.waits)
    (λ of. draw-right old.jobs hosts of old.phase c.draw-job.result c.requires.can.waits)

pub returns-clause-answers : goal.returns-clause-answers
returns-clause-answers g c =
    let old = c.args.client.now in
    let e = c.put.ensures in
    let drawn : IsDrawn c.args.shared.now.drawn old.jobs c.draw-job.result c.draw-job.new.drawn = subst (λ (jobs : ℕ). IsDrawn c.args.shared.now.drawn jobs c.draw-job.result c.draw-job.new.drawn) c.requires.jobs c.draw-job.ensures in
    draw-answers c.args.shared.now.drawn c.draw-job.new.drawn c.args.shared.now.slots old c.put.new.self c.draw-job.result c.requires.can drawn
    (record { room = e.room; least = e.least; same = e.same; phase = e.phase })
