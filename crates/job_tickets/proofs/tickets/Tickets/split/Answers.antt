use Rattle.std.proofs.Common.{◌≡◌, arith, ap, sym, ◌∙◌}
use Rattle.job_tickets.specs.Seats.{TicketData, SeatData}
use Rattle.job_tickets.proofs.Keeps.{splits}
use Rattle.job_tickets.proofs.tickets.Tickets.split.Goals as goal

pub split_seat-inner-requires : goal.split_seat-inner-requires
split_seat-inner-requires c =
    let seat = c.seat.inside in
    let made : seat.seat.me.0.made ≡ c.args.seat.now.made = ap (λ (s : SeatData). s.made) c.seat.view_is in (
      ap (λ (s : SeatData). s.table) c.seat.view_is ∙ c.requires.own.0 ∙ sym (ap (λ (t : TicketData). t.table) c.self.view_is),
      omega (arith, c.self.invariant.one_word),
      splits c.self.inside.table.shared.key seat.seat.id seat.seat.me.0 (omega (arith, made, c.requires.first.0)) (omega (arith, made, c.requires.first.1)) c.seat.invariant.some,
    )
