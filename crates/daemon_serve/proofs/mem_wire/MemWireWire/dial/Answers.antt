use Rattle.std.proofs.Common.{sym}
use Rattle.daemon_serve.proofs.Outcome.{where-ok}
use Rattle.daemon_serve.proofs.Standing.{holds-dialled}
use Rattle.daemon_serve.proofs.mem_wire.MemWireWire.dial.Goals as goal

pub invariant_of-self-2 : goal.invariant_of-self-2
invariant_of-self-2 g c =
    let added = where-ok c.begin.result (sym c.if-is_err.ensures.value) c.begin.ensures.ok in
    rw added (holds-dialled g.P.Answerer.may c.self.inside.exchanges.items c.self.inside.answer c.self.inside.given c.args.host.now c.self.invariant.each)
