use Rattle.std.proofs.Common.{◌≡◌, ap, ◌∙◌}
use Rattle.io_edges.specs.declared.wire.LinkState.TheVariants.{Taking}
use Rattle.daemon_serve.specs.MemWire.{Line}
use Rattle.daemon_serve.proofs.Standing.{holds-taken, taken-within}
use Rattle.daemon_serve.proofs.mem_wire.MemWireWire.take.Goals as goal

pub take_on-requires-clause-within : goal.take_on-requires-clause-within
take_on-requires-clause-within g c =
    let state : c.self.inside.state ≡ Taking = ap (λ (l : Line). l.state) c.self.view_is ∙ c.requires.state in
    rw c.as_slice.ensures (taken-within g.P.Answerer.may c.self.inside.exchanges.items c.self.inside.answer c.self.inside.given c.self.inside.state c.self.invariant state)

pub invariant_of-self-in-Ok : goal.invariant_of-self-in-Ok
invariant_of-self-in-Ok g c =
    let state : c.self.inside.state ≡ Taking = ap (λ (l : Line). l.state) c.self.view_is ∙ c.requires.state in
    let bytes = rw c.as_slice.ensures at c.in-Ok.ensures.bytes in
    let rest = rw c.as_slice.ensures at c.in-Ok.ensures.rest in
    let end = rw c.as_slice.ensures at c.in-Ok.ensures.end in
    rw (c.in-Ok.ensures.ok, c.in-Ok.ensures.given) (holds-taken g.P.Answerer.may c.self.inside.exchanges.items c.self.inside.answer c.self.inside.given c.self.inside.state c.take_on.new.room c.in-Ok.n c.self.invariant state bytes rest end)

pub returns-in-Ok-clause-answered : goal.returns-in-Ok-clause-answered
returns-in-Ok-clause-answered g c =
    let state : c.self.inside.state ≡ Taking = ap (λ (l : Line). l.state) c.self.view_is ∙ c.requires.state in
    let bytes = rw c.as_slice.ensures at c.in-Ok.ensures.bytes in
    let rest = rw c.as_slice.ensures at c.in-Ok.ensures.rest in
    let end = rw c.as_slice.ensures at c.in-Ok.ensures.end in
    rw c.in-Ok.ensures.ok ((holds-taken g.P.Answerer.may c.self.inside.exchanges.items c.self.inside.answer c.self.inside.given c.self.inside.state c.take_on.new.room c.in-Ok.n c.self.invariant state bytes rest end).each)
