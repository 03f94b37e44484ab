use Rattle.std.proofs.Common.{arith, ap, sym, ◌∙◌}
use mathlib.Core.Option.{none}
use Rattle.atomic_table.specs.Table.{step}
use Rattle.job_tickets.specs.Seats.{TicketData, SeatData}
use Rattle.job_tickets.proofs.Keeps.{draws}
use Rattle.job_tickets.proofs.tickets.Tickets.draw.Goals as goal

pub fetch_add-found-requires : goal.fetch_add-found-requires
fetch_add-found-requires c =
    let tickets = c.self.inside in
    let seat = c.seat.inside in (
      ap (λ (s : SeatData). s.table) c.seat.view_is ∙ c.requires.own.0 ∙ sym (ap (λ (t : TicketData). t.table) c.self.view_is),
      omega (arith, c.self.invariant.one_word),
      rw (c.self.invariant.limit_is, c.seat.invariant.holds_none) (draws tickets.limit tickets.table.shared.table_id.slots seat.seat.id (step tickets.table.shared.table_id.slots 0 1 0 none) seat.seat.me.0 c.self.invariant.small (c.seat.invariant.may_draw c.if-seat.false)),
    )
