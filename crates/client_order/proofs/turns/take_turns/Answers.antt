use Rattle.std.proofs.Common.{rules, ◌≤◌, ◌∙◌, ℕ, length, IsTrue, sym, subst}
use Rattle.client_order.specs.parts.World.{AllEnded, seen_memo}
use Rattle.client_order.proofs.Worlds.{ended-free}
use Rattle.client_order.proofs.TurnRuns.{run-then, strangers-then}
use Rattle.client_order.proofs.turns.take_turns.Goals as goal

pub rounds-preserved : goal.rounds-preserved
rounds-preserved g c =
    let e = c.round.ensures in
    let was = c.rounds.invariant in
    record {
      each_end = e.each_end.0 ∙ was.each_end ∙ sym e.each_end.1;
      same_ends = e.each_end.1 ∙ was.same_ends;
      numbered = e.numbered;
      world = e.world;
      ends_are = e.ends;
      limit = e.limit ∙ was.limit;
      strangers = strangers-then (length c.args.clients.now) (seen_memo c.args.shared.now.memo) (seen_memo c.rounds.shared.memo) (seen_memo c.round.new.shared.memo) was.strangers
          (λ other past. e.strangers other (subst (λ (n : ℕ). n ≤ other) (sym was.same_ends) past));
      keeps = run-then _ _ _ _ _ _ _ _ _ _ _ _ was.keeps e.keeps;
    }

pub returns-clause-free : goal.returns-clause-free
returns-clause-free g c =
    let t : IsTrue c.have_all_ended.result = search rules in
    let ended : AllEnded c.rounds.clients = c.have_all_ended.ensures.ended t in
    ended-free (length c.args.jobs.now) (length c.args.hosts.now) c.rounds.shared.drawn c.rounds.shared.slots c.rounds.clients c.rounds.invariant.world ended
