use Rattle.std.proofs.Common.{◌≡◌}
use Rattle.client_order.specs.parts.Merged.{records_placed}
use Rattle.client_order.proofs.merging.put.Given as goal

abbrev pub invariant-loop-done : goal.invariant-loop-done
invariant-loop-done l = l.places ≡ records_placed l.yielded l.fn.places
