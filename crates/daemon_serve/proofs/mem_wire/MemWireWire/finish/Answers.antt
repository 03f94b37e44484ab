use Rattle.std.proofs.Common.{◌≡◌, ap, ◌∙◌}
use Rattle.io_edges.specs.declared.wire.LinkState.TheVariants.{Sending}
use Rattle.daemon_serve.specs.MemWire.{Line}
use Rattle.daemon_serve.proofs.Standing.{last-fresh, holds-finished}
use Rattle.daemon_serve.proofs.mem_wire.MemWireWire.finish.Goals as goal

pub invariant_of-self-in-Ok : goal.invariant_of-self-in-Ok
invariant_of-self-in-Ok g c =
    let state : c.self.inside.state ≡ Sending = ap (λ (l : Line). l.state) c.self.view_is ∙ c.requires in
    let fresh = last-fresh g.P.Answerer.may c.self.inside.exchanges.items c.self.inside.answer c.self.inside.given c.self.inside.state c.self.invariant state in
    rw c.in-Ok.ensures.ok (holds-finished g.P.Answerer.may c.self.inside.exchanges.items c.in-Ok.answer c.self.invariant.each fresh c.in-Ok.ensures.answer)

pub returns-in-Ok-clause-answered : goal.returns-in-Ok-clause-answered
returns-in-Ok-clause-answered g c =
    let state : c.self.inside.state ≡ Sending = ap (λ (l : Line). l.state) c.self.view_is ∙ c.requires in
    let fresh = last-fresh g.P.Answerer.may c.self.inside.exchanges.items c.self.inside.answer c.self.inside.given c.self.inside.state c.self.invariant state in
    rw c.in-Ok.ensures.ok ((holds-finished g.P.Answerer.may c.self.inside.exchanges.items c.in-Ok.answer c.self.invariant.each fresh c.in-Ok.ensures.answer).each)
