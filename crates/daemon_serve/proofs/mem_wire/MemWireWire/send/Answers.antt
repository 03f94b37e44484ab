use Rattle.std.proofs.Common.{◌≡◌, ap, ◌∙◌, sym, Some}
use Rattle.io_edges.specs.declared.wire.LinkState.TheVariants.{Sending}
use Rattle.daemon_serve.specs.MemWire.{Line}
use Rattle.daemon_serve.proofs.Outcome.{where-ok, where-err}
use Rattle.daemon_serve.proofs.Standing.{holds-sent, sent-nothing}
use Rattle.daemon_serve.proofs.mem_wire.MemWireWire.send.Goals as goal

pub returns-then-next_fails-clause-err : goal.returns-then-next_fails-clause-err
returns-then-next_fails-clause-err g c =
    (0, ap Some (ap (λ (l : Line). l.talk) c.self.view_is ∙ sent-nothing c.args.self.now.talk))

pub returns-then-is_err-clause-err : goal.returns-then-is_err-clause-err
returns-then-is_err-clause-err g c =
    (0, ap Some (where-err c.send_on.result (sym c.if-is_err.ensures.value) c.send_on.ensures.err ∙ ap (λ (l : Line). l.talk) c.self.view_is ∙ sent-nothing c.args.self.now.talk))

pub invariant_of-self-2 : goal.invariant_of-self-2
invariant_of-self-2 g c =
    let sent = where-ok c.send_on.result (sym c.if-is_err.ensures.value) c.send_on.ensures.ok in
    let state : c.self.inside.state ≡ Sending = ap (λ (l : Line). l.state) c.self.view_is ∙ c.requires in
    rw sent (holds-sent g.P.Answerer.may c.self.inside.exchanges.items c.self.inside.answer c.self.inside.given c.self.inside.state c.args.piece.now c.self.invariant state)

pub returns-clause-answered : goal.returns-clause-answered
returns-clause-answered g c =
    let sent = where-ok c.send_on.result (sym c.if-is_err.ensures.value) c.send_on.ensures.ok in
    let state : c.self.inside.state ≡ Sending = ap (λ (l : Line). l.state) c.self.view_is ∙ c.requires in
    rw sent ((holds-sent g.P.Answerer.may c.self.inside.exchanges.items c.self.inside.answer c.self.inside.given c.self.inside.state c.args.piece.now c.self.invariant state).each)
