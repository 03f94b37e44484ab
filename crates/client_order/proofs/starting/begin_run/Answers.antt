use Rattle.client_order.proofs.Begins.{new-numbered, world-begins}
use Rattle.client_order.proofs.starting.begin_run.Goals as goal

pub returns-clause-numbered : goal.returns-clause-numbered
returns-clause-numbered g c = new-numbered 0 c.args.jobs c.args.budget c.in_ok-clients.clients.items c.in_ok-clients.ensures.new

pub returns-clause-world : goal.returns-clause-world
returns-clause-world g c =
    world-begins c.args.jobs c.args.budget c.args.hosts.now c.in_ok-slots.slots c.in_ok-clients.clients.items c.requires.jobs c.requires.hosts.0 c.requires.slots
    c.in_ok-slots.ensures.limits c.in_ok-slots.ensures.free c.in_ok-clients.ensures.new
