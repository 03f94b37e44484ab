use Rattle.std.proofs.Common.{refl, arith}
use Rattle.job_ends.proofs.Replies.{asked-wire}
use Rattle.job_ends.proofs.Deeds.{added-nil}
use Rattle.job_ends.proofs.asking.ask_host.Goals as goal

pub returns-clause-asked : goal.returns-clause-asked
returns-clause-asked g c =
    let came = c.ask_wire.ensures.asked in
    asked-wire c.args.host.now c.args.request.now came.exchanges _ _ c.ask_wire.result
    (record {
      talk = came.talk;
      kept = added-nil (g.O.Outs.kept c.args.end.now.outs);
      told = refl;
      tree = omega arith;
      wire = came.later;
      outs = omega arith;
    })
    came.came_to
