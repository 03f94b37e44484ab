use Rattle.std.proofs.Common.{arith, ap, sym, ◌∙◌}
use Rattle.job_tickets.specs.Seats.{TicketData, SeatData}
use Rattle.job_tickets.proofs.Keeps.{joins}
use Rattle.job_tickets.proofs.tickets.Tickets.join.Goals as goal

pub join_seat-requires : goal.join_seat-requires
join_seat-requires c =
    let seat = c.seat.inside in
    let other = c.other.inside in (
      ap (λ (s : SeatData). s.table) c.seat.view_is ∙ c.requires.own.0 ∙ sym (ap (λ (t : TicketData). t.table) c.self.view_is),
      ap (λ (s : SeatData). s.table) c.other.view_is ∙ c.requires.other.0.0 ∙ sym (ap (λ (t : TicketData). t.table) c.self.view_is),
      c.other.invariant.holds_none,
      omega (arith, c.self.invariant.one_word),
      joins c.self.inside.table.shared.key seat.seat.id other.seat.id seat.seat.me.0 other.seat.me.0 c.seat.invariant.some (ap (λ (s : SeatData). s.made) c.other.view_is ∙ c.requires.other.1),
    )
