use Rattle.std.proofs.Common.{[]}
use Rattle.job_ends.proofs.Deeds.{asked-then-concluded}
use Rattle.job_ends.proofs.one_job.do_job.Goals as goal

pub returns-in-Request-clause-did : goal.returns-in-Request-clause-did
returns-in-Request-clause-did g c =
    asked-then-concluded g.T.Of.Frozen.named c.args.budget c.args.job.now c.args.host.now c.in-Request.request c.as_slice.result.now c.ask_host-replied.result c.conclude.result _ _ _ _
    c.as_slice.ensures c.in-Request.ensures.prepared c.ask_host-replied.ensures.asked c.conclude.ensures.did

pub returns-in-Failed-clause-did : goal.returns-in-Failed-clause-did
returns-in-Failed-clause-did g c =
    (c.conclude-in-Failed.ensures.did c.args.budget c.args.host.now _
    (record { exchanges = []; did = c.in-Failed.ensures.prepared.did; way = c.in-Failed.ensures.prepared.holds; gives = tt; host_is = tt })).0
