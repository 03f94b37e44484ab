use Rattle.std.proofs.Common.{rules, arith, ◌≤◌, ◌∙◌, ℕ, length, sym, subst}
use Rattle.client_order.specs.parts.World.{seen_memo}
use Rattle.client_order.proofs.Worlds.{so-far-more, round-done}
use Rattle.client_order.proofs.TurnRuns.{run-then, strangers-then}
use Rattle.client_order.proofs.turns.round.Goals as goal

pub loop-at-preserved : goal.loop-at-preserved
loop-at-preserved g c =
    let e = c.turn_at.ensures in
    record {
      each_end = search rules;
      same_ends = search rules;
      numbered = e.numbered;
      world = e.world;
      ends_are = e.ends;
      limit = e.limit ∙ c.loop-at.invariant.limit;
      so_far = so-far-more _ _ _ _ _ _ _ _ _ _ _ c.loop-at.invariant.so_far e.moves;
      strangers = strangers-then (length c.args.clients.now) (seen_memo c.args.shared.now.memo) (seen_memo c.loop-at.shared.memo) (seen_memo c.turn_at.new.shared.memo) c.loop-at.invariant.strangers
          (λ other past. e.strangers other (subst (λ (n : ℕ). n ≤ other) (sym c.loop-at.invariant.same_ends) past));
      keeps = run-then _ _ _ _ _ _ _ _ _ _ _ _ c.loop-at.invariant.keeps e.keeps;
    }

pub returns-clause-nearer : goal.returns-clause-nearer
returns-clause-nearer g c = round-done (length c.args.jobs.now) (length c.args.hosts.now) c.args.shared.now.drawn c.args.shared.now.slots c.args.clients.now c.loop-at.at c.loop-at.shared.drawn c.loop-at.shared.slots c.loop-at.clients
    c.requires.world c.requires.not_all (omega arith) c.loop-at.invariant.so_far
