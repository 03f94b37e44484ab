use Rattle.std.proofs.Common.{◌≡◌, length}
use Rattle.std.specs.Vec.{vec_len, vec_capacity}
use Rattle.client_order.specs.parts.Merged.{AreNew}
use Rattle.client_order.proofs.starting.new_clients.Given as goal

abbrev pub invariant-loop-number : goal.invariant-loop-number
invariant-loop-number l = record {
  new : AreNew 0 l.jobs l.budget l.clients.items;
  each : length l.clients.items ≡ l.number;
  count : vec_len l.clients ≡ l.number;
  room : vec_capacity l.clients ≡ l.count;
}
