use Rattle.std.proofs.Common.{length, refl}
use Rattle.client_steps.specs.declared.need.Reply.TheVariants.{Given}
use Rattle.client_order.specs.parts.World.{seen_memo}
use Rattle.client_order.proofs.TurnLaws.{give-answers, give-says, no-call-keeps}
use Rattle.client_order.proofs.turns.answer_give.Goals as goal

pub give-requires-clause-host : goal.give-requires-clause-host
give-requires-clause-host g c = (c.requires.can.lease c.args.lease refl).0

pub returns-clause-keeps : goal.returns-clause-keeps
returns-clause-keeps g c =
    let old = c.args.client.now in
    let says = give-says old.jobs (length c.args.shared.now.slots.limits) old.phase c.args.lease c.requires.can.waits in
    no-call-keeps g.F.Frozen.named (seen_memo c.args.shared.now.memo) old c.put.new.self Given c.put.ensures.keeps c.put.ensures.same.1.0 says.0.called says.2

pub returns-clause-answers : goal.returns-clause-answers
returns-clause-answers g c =
    let e = c.put.ensures in
    give-answers c.args.shared.now.drawn c.args.shared.now.slots c.give.new.self c.args.client.now c.put.new.self c.args.lease c.requires.can
    (record { room = e.room; least = e.least; same = e.same; phase = e.phase }) c.give.ensures.leased c.give.ensures.limits
