use Rattle.daemon_serve.proofs.ReplyPuts.{put-answer, put-no_memory}
use Rattle.daemon_serve.proofs.replying.reply_to.Goals as goal

pub returns-in-Ok : goal.returns-in-Ok
returns-in-Ok g c = put-answer g.R.Replier.may c.args.job c.args.entries c.in-Ok.reply c.in-Ok.ensures (rw c.as_slice.ensures at c.put_whole.ensures)

pub returns-in-Err : goal.returns-in-Err
returns-in-Err g c = put-no_memory g.R.Replier.may c.args.job c.args.entries c.refuse.ensures
