use Rattle.std.specs.Vec.{vec_len}
use Rattle.client_order.specs.parts.Merged.{AllRest}
use Rattle.client_order.proofs.starting.cancel_all.Given as goal

abbrev pub invariant-loop-client : goal.invariant-loop-client
invariant-loop-client l = AllRest l.clients.items

abbrev pub decreases-loop-client : goal.decreases-loop-client
decreases-loop-client l = vec_len l.clients
