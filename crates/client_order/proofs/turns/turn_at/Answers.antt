use Rattle.std.proofs.Common.{arith, ◌+◌, ◌<◌, ◌≡◌, ℕ, length, sym, ap, ◌∙◌, subst, slice_index_or}
use Rattle.std.proofs.lemmas.List.Elements.{All-set}
use Rattle.io_edges.specs.Talk.{EachAnswered}
use Rattle.io_edges.specs.declared.wire.LinkState.TheVariants.{Closed}
use Rattle.job_ends.specs.Outside.{seen_end}
use Rattle.job_ends.specs.declared.record.End.{End}
use Rattle.client_steps.specs.declared.client.Client.{Client}
use Rattle.client_order.proofs.Worlds.{world-turned, moves-turned}
use Rattle.client_order.proofs.TurnRuns.{number-at, numbered-set, run-turned-at, strangers-turned}
use Rattle.client_order.specs.parts.World.{seen_memo}
use Rattle.client_order.proofs.turns.turn_at.Goals as goal

pub returns-clause-numbered : goal.returns-clause-numbered
returns-clause-numbered g c =
    numbered-set 0 c.args.clients.now c.args.at c.turn.new.client c.index-clients-at.result c.requires.numbered c.requires.within c.turn.ensures.same.1.0

pub returns-clause-world : goal.returns-clause-world
returns-clause-world g c =
    let e = c.turn.ensures in
    world-turned (length c.args.jobs.now) (length c.args.hosts.now) c.args.shared.now.drawn c.turn.new.shared.drawn c.args.shared.now.slots c.turn.new.shared.slots c.args.clients.now c.args.at (slice_index_or c.args.clients.now c.args.at c.index-clients-at.result) c.turn.new.client
    c.requires.within (ap (λ (d : Client). slice_index_or c.args.clients.now c.args.at d) c.index-clients-at.is) c.requires.world
    (record { works = e.works; count = e.same.0; least = e.least; drawn_later = e.drawn.0; drawn_few = e.drawn.1; room = e.room; all = e.all; moves = e.slots; progress = e.progress; draws = e.draws })

pub returns-clause-ends : goal.returns-clause-ends
returns-clause-ends g c = All-set {X = End g.row.T.Denot g.row.W.Denot g.row.O.Denot g.row.T-Of.Denot} (λ e. (g.W.Wire.state e.wire ≡ Closed) × EachAnswered g.W.Wire.peer (g.W.Wire.talk e.wire)) c.args.ends.now c.args.at c.turn.new.end (c.turn.ensures.closed, c.turn.ensures.answered) c.requires.ends

pub returns-clause-moves : goal.returns-clause-moves
returns-clause-moves g c =
    let e = c.turn.ensures in
    moves-turned (length c.args.jobs.now) (length c.args.hosts.now) c.args.shared.now.drawn c.turn.new.shared.drawn c.args.shared.now.slots c.turn.new.shared.slots c.args.clients.now c.args.at (slice_index_or c.args.clients.now c.args.at c.index-clients-at.result) c.turn.new.client
    c.requires.within (ap (λ (d : Client). slice_index_or c.args.clients.now c.args.at d) c.index-clients-at.is)
    (record { works = e.works; count = e.same.0; least = e.least; drawn_later = e.drawn.0; drawn_few = e.drawn.1; room = e.room; all = e.all; moves = e.slots; progress = e.progress; draws = e.draws })

pub returns-clause-keeps : goal.returns-clause-keeps
returns-clause-keeps g c =
    let e = c.turn.ensures in
    let seen = seen_end g.T.Tree.told g.T.Tree.faults g.T.Tree.reads g.W.Wire.talk g.W.Wire.state g.W.Wire.faults g.O.Outs.kept g.O.Outs.faults in
    run-turned-at seen g.T.Of.Frozen.named c.args.jobs.now c.args.hosts.now (seen_memo c.args.shared.now.memo) (seen_memo c.turn.new.shared.memo) c.args.clients.now c.args.ends.now c.args.at (slice_index_or c.args.clients.now c.args.at c.index-clients-at.result) c.turn.new.client
    (slice_index_or c.args.ends.now c.args.at c.index-ends-at.result) c.turn.new.end
    c.requires.within (ap (λ (d : Client). slice_index_or c.args.clients.now c.args.at d) c.index-clients-at.is) (ap (slice_index_or c.args.ends.now c.args.at) c.index-ends-at.is) c.requires.numbered e.same.1.0 e.same.1.1 e.others e.keeps

pub returns-clause-strangers : goal.returns-clause-strangers
returns-clause-strangers g c =
    let x : Client = slice_index_or c.args.clients.now c.args.at c.index-clients-at.result in
    let at : x.number ≡ 0 + c.args.at = number-at 0 c.args.clients.now c.args.at c.index-clients-at.result c.requires.numbered c.requires.within in
    strangers-turned (length c.args.clients.now) x.number (seen_memo c.args.shared.now.memo) (seen_memo c.turn.new.shared.memo) (subst (λ (n : ℕ). n < length c.args.clients.now) (sym (at ∙ omega arith)) c.requires.within) c.turn.ensures.others
