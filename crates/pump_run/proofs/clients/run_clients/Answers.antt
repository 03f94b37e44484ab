use Rattle.job_ends.specs.Outside.{seen_end}
use Rattle.pump_run.proofs.FirstEnds.{fresh-first, as-many, did-first, all-stayed}
use Rattle.pump_run.proofs.clients.run_clients.Goals as goal

pub run_order_watched-requires-clause-fresh : goal.run_order_watched-requires-clause-fresh
run_order_watched-requires-clause-fresh g c =
    fresh-first (seen_end {F = g.row.T-Of.Denot} g.T.Tree.told g.T.Tree.faults g.T.Tree.reads g.W.Wire.talk g.W.Wire.state g.W.Wire.faults g.O.Outs.kept g.O.Outs.faults)
    c.args.asked.now.clients c.args.ends.now c.requires.fresh

pub returns-in-Ok-clause-did : goal.returns-in-Ok-clause-did
returns-in-Ok-clause-did g c =
    did-first (seen_end {F = g.row.T-Of.Denot} g.T.Tree.told g.T.Tree.faults g.T.Tree.reads g.W.Wire.talk g.W.Wire.state g.W.Wire.faults g.O.Outs.kept g.O.Outs.faults)
    c.args.asked.now.clients c.args.ends.now c.run_order_watched.new.ends c.requires.clients.1 c.in-Ok.ensures.each
    g.T.Of.Frozen.named g.W.Wire.peer c.args.asked.now.budget c.args.jobs.now c.as_slice-hosts.result.now c.args.asked.now.hosts.items c.in-Ok.done.0.items c.in-Ok.done.1
    c.as_slice-hosts.ensures.value c.requires.fresh (λ k d below. (c.in-Ok.ensures.links k d below).1) c.in-Ok.ensures.ran

pub returns-in-Err-clause-stayed : goal.returns-in-Err-clause-stayed
returns-in-Err-clause-stayed g c =
    all-stayed (seen_end {F = g.row.T-Of.Denot} g.T.Tree.told g.T.Tree.faults g.T.Tree.reads g.W.Wire.talk g.W.Wire.state g.W.Wire.faults g.O.Outs.kept g.O.Outs.faults)
    c.args.asked.now.clients c.args.ends.now c.run_order_watched.new.ends c.in-Err.ensures.err

pub returns-in-Ok-clause-each : goal.returns-in-Ok-clause-each
returns-in-Ok-clause-each g c = as-many c.args.asked.now.clients c.args.ends.now c.run_order_watched.new.ends c.requires.clients.1 c.in-Ok.ensures.each

pub returns-in-Err-clause-each : goal.returns-in-Err-clause-each
returns-in-Err-clause-each g c = as-many c.args.asked.now.clients c.args.ends.now c.run_order_watched.new.ends c.requires.clients.1 c.in-Err.ensures.each
