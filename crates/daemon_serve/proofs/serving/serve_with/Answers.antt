use Rattle.daemon_serve.proofs.WholeServing.{whole-served, front-served}
use Rattle.daemon_serve.proofs.serving.serve_with.Goals as goal

pub returns-in-Ok : goal.returns-in-Ok
returns-in-Ok g c = whole-served g.R.Replier.may c.in-Ok.served c.in-Ok.ensures

pub returns-in-Err : goal.returns-in-Err
returns-in-Err g c = rw c.stopped.ensures (front-served g.R.Replier.may c.in-Err.fault c.in-Err.ensures)
