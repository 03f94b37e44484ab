use Rattle.daemon_serve.proofs.RequestReads.{has-whole, whole-read}
use Rattle.daemon_serve.proofs.reading.read_request.Goals as goal

pub finished-requires : goal.finished-requires
finished-requires g c = has-whole _ c.in-Ok.ensures

pub returns-in-Ok : goal.returns-in-Ok
returns-in-Ok g c =
    whole-read _ c.request_spellings.ensures.spelled c.request_trees.ensures.trees c.request_trees.ensures.bodies c.in-Ok.ensures c.finished.result.0 c.finished.result.1 c.finished.ensures
