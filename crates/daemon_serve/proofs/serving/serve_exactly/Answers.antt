use Rattle.daemon_serve.proofs.WholeServing.{served-reply, served-none}
use Rattle.daemon_serve.proofs.serving.serve_exactly.Goals as goal

pub returns-in-Ok : goal.returns-in-Ok
returns-in-Ok g c = served-reply g.R.Replier.may c.request_spellings.ensures.firm c.in-Ok.job c.in-Ok.entries c.in-Ok.ensures c.reply_to.ensures

pub returns-in-Err : goal.returns-in-Err
returns-in-Err g c = served-none g.R.Replier.may c.request_spellings.ensures.firm c.in-Err.why c.in-Err.ensures c.unserved.ensures
