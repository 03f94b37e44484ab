use Rattle.std.proofs.Common.{length}
use Rattle.client_steps.specs.declared.need.Reply.TheVariants.{Leased}
use Rattle.client_order.specs.parts.World.{seen_memo}
use Rattle.client_order.proofs.TurnLaws.{take-answers, take-call, take-right, no-call-keeps}
use Rattle.client_order.proofs.turns.answer_take.Goals as goal

pub returns-clause-keeps : goal.returns-clause-keeps
returns-clause-keeps g c =
    let old = c.args.client.now in
    let hosts = length c.args.shared.now.slots.limits in
    no-call-keeps g.F.Frozen.named (seen_memo c.args.shared.now.memo) old c.put.new.self (Leased c.take-lease.result) c.put.ensures.keeps c.put.ensures.same.1.0
    (take-call old.jobs hosts old.phase c.take-lease.result c.requires.can.waits)
    (λ of. take-right old.jobs hosts of old.phase c.take-lease.result c.requires.can.waits)

pub returns-clause-answers : goal.returns-clause-answers
returns-clause-answers g c =
    let e = c.put.ensures in
    let t = c.take-lease.ensures in
    take-answers c.args.shared.now.drawn c.args.shared.now.slots c.take-lease.new.self c.args.client.now c.put.new.self c.take-lease.result c.requires.can
    (record { room = e.room; least = e.least; same = e.same; phase = e.phase }) c.hosts-hosts.ensures.within t.first t.taken t.none t.limits
