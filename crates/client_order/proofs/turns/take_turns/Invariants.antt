use Rattle.std.proofs.Common.{◌≡◌, ◌-◌, length, map}
use Rattle.std.specs.List.{All}
use Rattle.io_edges.specs.declared.wire.LinkState.TheVariants.{Closed}
use Rattle.io_edges.specs.Talk.{EachAnswered}
use Rattle.job_ends.specs.Outside.{seen_end}
use Rattle.client_order.specs.parts.World.{WorldHolds, AreNumberedFrom, RunKeeps, StrangersStay, seen_memo, distance}
use Rattle.client_order.proofs.turns.take_turns.Given as goal

abbrev pub invariant-loop-client : goal.invariant-loop-client
invariant-loop-client g l = record {
  each_end : length l.ends ≡ length l.clients;
  same_ends : length l.clients ≡ length l.fn.clients;
  numbered : AreNumberedFrom 0 l.clients;
  world : WorldHolds (length l.jobs) (length l.hosts) l.shared.drawn l.shared.slots l.clients;
  ends_are : All (λ e. (g.W.Wire.state e.wire ≡ Closed) × EachAnswered g.W.Wire.peer (g.W.Wire.talk e.wire)) l.ends;
  limit : l.shared.memo.limit ≡ l.fn.shared.memo.limit;
  strangers : StrangersStay (length l.fn.clients) (seen_memo l.fn.shared.memo) (seen_memo l.shared.memo);
  keeps : (let seen = seen_end g.T.Tree.told g.T.Tree.faults g.T.Tree.reads g.W.Wire.talk g.W.Wire.state g.W.Wire.faults g.O.Outs.kept g.O.Outs.faults in
      RunKeeps g.T.Of.Frozen.named l.jobs l.hosts (seen_memo l.fn.shared.memo) l.fn.clients (map seen l.fn.ends) (seen_memo l.shared.memo) l.clients (map seen l.ends));
}

abbrev pub invariant-rounds : goal.invariant-rounds
invariant-rounds g l = record {
  each_end : length l.ends ≡ length l.clients;
  same_ends : length l.clients ≡ length l.fn.clients;
  numbered : AreNumberedFrom 0 l.clients;
  world : WorldHolds (length l.jobs) (length l.hosts) l.shared.drawn l.shared.slots l.clients;
  ends_are : All (λ e. (g.W.Wire.state e.wire ≡ Closed) × EachAnswered g.W.Wire.peer (g.W.Wire.talk e.wire)) l.ends;
  limit : l.shared.memo.limit ≡ l.fn.shared.memo.limit;
  strangers : StrangersStay (length l.fn.clients) (seen_memo l.fn.shared.memo) (seen_memo l.shared.memo);
  keeps : (let seen = seen_end g.T.Tree.told g.T.Tree.faults g.T.Tree.reads g.W.Wire.talk g.W.Wire.state g.W.Wire.faults g.O.Outs.kept g.O.Outs.faults in
      RunKeeps g.T.Of.Frozen.named l.jobs l.hosts (seen_memo l.fn.shared.memo) l.fn.clients (map seen l.fn.ends) (seen_memo l.shared.memo) l.clients (map seen l.ends));
}

abbrev pub decreases-rounds : goal.decreases-rounds
decreases-rounds g l = distance (length l.jobs - l.shared.drawn) l.clients
