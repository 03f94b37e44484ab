use Rattle.std.proofs.lemmas.Result.{on_ok_weaker}
use Rattle.io_edges.specs.Talk.{finishing}
use Rattle.daemon_serve.specs.MemWire.{HasReceivedNothing}
use Rattle.daemon_serve.proofs.LastMember.{set-last, at_last-from}
use Rattle.daemon_serve.proofs.Outcome.{if_ok-map}
use Rattle.daemon_serve.proofs.last_exchange.ask.Goals as goal

pub returns-in-Some-clause-answer : goal.returns-in-Some-clause-answer
returns-in-Some-clause-answer g c =
    if_ok-map c.ask_for.result _ _ (λ answer may. at_last-from HasReceivedNothing (λ e. g.P.Answerer.may e.sent answer) c.args.exchanges.now.items c.args.exchanges.now.len c.in-Some.last.now c.args.exchanges.now.ok.0 c.in-Some.ensures.value c.requires may) c.ask_for.ensures.answer

pub returns-in-Some-clause-ok : goal.returns-in-Some-clause-ok
returns-in-Some-clause-ok g c =
    on_ok_weaker c.ask_for.result (set-last finishing c.args.exchanges.now.items c.args.exchanges.now.len c.in-Some.last.now c.ask_for.new.last c.args.exchanges.now.ok.0 c.in-Some.ensures.value) c.ask_for.ensures.ok
