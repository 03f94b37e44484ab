use Rattle.std.proofs.Common.{◌≡◌, length}
use Rattle.std.specs.Vec.Iter.{into_iter_items, into_iter_len}
use Rattle.client_order.specs.parts.World.{AllEnded}
use Rattle.client_order.specs.parts.Merged.{records_placed, records_of, EachBelow}
use Rattle.client_order.proofs.merging.put_all.Given as goal

-- to put what is left gives what was to be put
abbrev pub invariant-loop-client : goal.invariant-loop-client
invariant-loop-client l = record {
  ended : AllEnded (into_iter_items l.left);
  below : EachBelow (length l.places) (records_of (into_iter_items l.left));
  same : records_placed (records_of (into_iter_items l.left)) l.places ≡ records_placed (records_of l.fn.clients.items) l.fn.places;
}

abbrev pub decreases-loop-client : goal.decreases-loop-client
decreases-loop-client l = into_iter_len l.left
