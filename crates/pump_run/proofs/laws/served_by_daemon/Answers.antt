use Rattle.pump_run.proofs.ServedAll.{served-by-daemon}
use Rattle.pump_run.proofs.laws.served_by_daemon.Goals as goal

pub returns : goal.returns
returns g c = served-by-daemon g.W.Wire.peer
