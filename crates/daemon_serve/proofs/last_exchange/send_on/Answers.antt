use Rattle.std.proofs.lemmas.Result.{on_ok_weaker}
use Rattle.io_edges.specs.Talk.{sending}
use Rattle.daemon_serve.proofs.LastMember.{set-last}
use Rattle.daemon_serve.proofs.last_exchange.send_on.Goals as goal

pub returns-in-Some-clause-ok : goal.returns-in-Some-clause-ok
returns-in-Some-clause-ok c =
    on_ok_weaker c.note_sent.result (set-last (sending c.args.piece.now) c.args.exchanges.now.items c.args.exchanges.now.len c.in-Some.last.now c.note_sent.new.last c.args.exchanges.now.ok.0 c.in-Some.ensures.value) c.note_sent.ensures.ok
