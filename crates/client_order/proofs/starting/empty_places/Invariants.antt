use Rattle.std.proofs.Common.{◌≡◌, None, replicate}
use Rattle.std.specs.Vec.{vec_len, vec_capacity}
use Rattle.client_order.proofs.starting.empty_places.Given as goal

abbrev pub invariant-loop-job : goal.invariant-loop-job
invariant-loop-job l = record {
  empty : l.places.items ≡ replicate l._job None;
  count : vec_len l.places ≡ l._job;
  room : vec_capacity l.places ≡ l.jobs;
}
