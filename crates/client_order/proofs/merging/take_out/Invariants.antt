use Rattle.std.proofs.Common.{◌≡◌, ◌+◌, ◌≤◌, ◌++◌, length}
use Rattle.std.specs.Vec.{vec_len, vec_capacity}
use Rattle.client_order.specs.parts.Merged.{in_places}
use Rattle.client_order.proofs.merging.take_out.Given as goal

abbrev pub invariant-loop-place : goal.invariant-loop-place
invariant-loop-place l = record {
  taken : l.records.items ≡ l.fn.records.items ++ in_places l.yielded;
  count : vec_len l.records ≤ vec_len l.fn.records + length l.yielded;
  room : vec_capacity l.records ≡ vec_capacity l.fn.records;
}
