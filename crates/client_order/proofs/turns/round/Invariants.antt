use Rattle.std.proofs.Common.{◌≡◌, ◌-◌, length, map}
use Rattle.std.specs.List.{All}
use Rattle.io_edges.specs.declared.wire.LinkState.TheVariants.{Closed}
use Rattle.io_edges.specs.Talk.{EachAnswered}
use Rattle.job_ends.specs.Outside.{seen_end}
use Rattle.client_order.specs.parts.World.{WorldHolds, AreNumberedFrom, RunKeeps, StrangersStay, seen_memo}
use Rattle.client_order.proofs.Worlds.{SoFar}
use Rattle.client_order.proofs.turns.round.Given as goal

abbrev pub invariant-loop-at : goal.invariant-loop-at
invariant-loop-at g l = record {
  each_end : length l.ends ≡ length l.clients;
  same_ends : length l.clients ≡ length l.fn.clients;
  numbered : AreNumberedFrom 0 l.clients;
  world : WorldHolds (length l.jobs) (length l.hosts) l.shared.drawn l.shared.slots l.clients;
  ends_are : All (λ e. (g.W.Wire.state e.wire ≡ Closed) × EachAnswered g.W.Wire.peer (g.W.Wire.talk e.wire)) l.ends;
  limit : l.shared.memo.limit ≡ l.fn.shared.memo.limit;
  so_far : SoFar (length l.jobs) l.fn.shared.drawn l.fn.shared.slots l.fn.clients l.at l.shared.drawn l.shared.slots l.clients;
  strangers : StrangersStay (length l.fn.clients) (seen_memo l.fn.shared.memo) (seen_memo l.shared.memo);
  keeps : (let seen = seen_end g.T.Tree.told g.T.Tree.faults g.T.Tree.reads g.W.Wire.talk g.W.Wire.state g.W.Wire.faults g.O.Outs.kept g.O.Outs.faults in
      RunKeeps g.T.Of.Frozen.named l.jobs l.hosts (seen_memo l.fn.shared.memo) l.fn.clients (map seen l.fn.ends) (seen_memo l.shared.memo) l.clients (map seen l.ends));
}

abbrev pub decreases-loop-at : goal.decreases-loop-at
decreases-loop-at g l = length l.clients - l.at
