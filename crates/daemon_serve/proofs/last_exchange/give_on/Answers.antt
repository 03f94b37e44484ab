use Rattle.std.proofs.Common.{cond, nat_eq, length}
use Rattle.std.proofs.lemmas.Result.{on_ok_weaker}
use Rattle.io_edges.specs.Talk.{taking, ending}
use Rattle.daemon_serve.proofs.LastMember.{set-last}
use Rattle.daemon_serve.proofs.last_exchange.give_on.Goals as goal

pub returns-in-Some-clause-ok : goal.returns-in-Some-clause-ok
returns-in-Some-clause-ok c =
    on_ok_weaker c.note_taken.result (set-last (λ e. cond (nat_eq (length c.args.piece.now) 0) (ending e) (taking c.args.piece.now e)) c.args.exchanges.now.items c.args.exchanges.now.len c.in-Some.last.now c.note_taken.new.last c.args.exchanges.now.ok.0 c.in-Some.ensures.value) c.note_taken.ensures.ok
