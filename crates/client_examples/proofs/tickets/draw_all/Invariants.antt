use Rattle.std.proofs.Common.{◌≡◌}
use Rattle.job_tickets.specs.Seats.{IsOf}
use Rattle.client_examples.proofs.tickets.draw_all.Given as goal

abbrev pub invariant-loop-drawn : goal.invariant-loop-drawn
invariant-loop-drawn l = record {
  own : IsOf l.tickets l.seat;
  made : l.seat.made ≡ l.fn.seat.made;
  seats : l.seat.seats ≡ l.fn.seat.seats;
}
