use Rattle.std.proofs.Common.{◌≡◌, arith, ap, sym, ◌∙◌}
use Rattle.job_tickets.specs.Seats.{TicketData, SeatData, times, once_below}
use Rattle.job_tickets.proofs.Keeps.{closes}
use Rattle.job_tickets.proofs.tickets.Tickets.close.Goals as goal

pub returns : goal.returns
returns c =
    let seat = c.seat.inside in
    let final = c.close_with-closed.ensures.values in
    let kept = final.2.1.0 in
    let made : seat.seat.me.0.made ≡ c.args.seat.made = ap (λ (s : SeatData). s.made) c.seat.view_is in
    let seats : seat.seat.me.0.seats ≡ c.args.seat.seats = ap (λ (s : SeatData). s.seats) c.seat.view_is in
    let all = closes c.self.inside.table.shared.key kept.0 final.2.0.views seat.seat.id seat.seat.me.0 kept.2 final.2.1.1 (omega (arith, made, c.requires.first)) (seats ∙ c.requires.joined ∙ sym made) (ap (λ (s : SeatData). s.all) c.seat.view_is ∙ c.requires.all) in
    λ x. ap (times x) (sym (ap (λ (s : SeatData). s.drawn) c.seat.view_is)) ∙ all x ∙ ap (once_below x) (c.self.invariant.limit_is ∙ ap (λ (t : TicketData). t.limit) c.self.view_is)
