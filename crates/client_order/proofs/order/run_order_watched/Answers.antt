use Rattle.std.proofs.Common.{◌≡◌, ℕ, ◌≤◌, false, List, [], ◌++◌, length, map, take, drop, None, refl, sym, ap, ◌∙◌, subst, take_at}
use Rattle.std.proofs.lemmas.List.{length-map, length-replicate}
use Rattle.std.proofs.lemmas.List.Elements.{recursion_from_All}
use Rattle.job_words.specs.Words.{IsJob}
use Rattle.job_ends.specs.declared.record.End.{End}
use Rattle.job_ends.specs.Outside.{seen_end}
use Rattle.job_ends.specs.Record.{known}
use Rattle.client_steps.specs.declared.client.Client.{Client}
use Rattle.client_order.specs.Ran.{ClientsRan, calls_of}
use Rattle.client_order.specs.parts.World.{AllEnded, seen_memo}
use Rattle.client_order.specs.parts.Merged.{AreNew, AtMostOnce, EachBelow, in_order, job_number, records_of}
use Rattle.client_order.proofs.Parts.{at-most-once, each-below}
use Rattle.client_order.proofs.Begins.{fresh-links, named-whole, no-calls, nothing-done}
use Rattle.client_order.proofs.Runs.{clients-ran}
use Rattle.client_order.proofs.order.run_order_watched.Goals as goal

-- the clients as the loan of them left them
after-loan : (count : ℕ) (was now items : List Client) → length now ≡ length was → length was ≡ count → take count (now ++ drop (length now) items) ≡ now
after-loan count was now items same long = take_at now (drop (length now) items) count (same ∙ long)

pub returns-in_err-begun-clause-links : goal.returns-in_err-begun-clause-links
returns-in_err-begun-clause-links g c =
    fresh-links (seen_end {F = g.row.T-Of.Denot} g.T.Tree.told g.T.Tree.faults g.T.Tree.reads g.W.Wire.talk g.W.Wire.state g.W.Wire.faults g.O.Outs.kept g.O.Outs.faults)
    (λ (e : End g.row.T.Denot g.row.W.Denot g.row.O.Denot g.row.T-Of.Denot). e.wire) g.W.Wire.state g.W.Wire.talk g.W.Wire.peer (λ e. refl) (λ e. refl) c.args.ends.now c.requires.fresh

pub take_turns-requires-clause-ends : goal.take_turns-requires-clause-ends
take_turns-requires-clause-ends g c =
    fresh-links (seen_end {F = g.row.T-Of.Denot} g.T.Tree.told g.T.Tree.faults g.T.Tree.reads g.W.Wire.talk g.W.Wire.state g.W.Wire.faults g.O.Outs.kept g.O.Outs.faults)
    (λ (e : End g.row.T.Denot g.row.W.Denot g.row.O.Denot g.row.T-Of.Denot). e.wire) g.W.Wire.state g.W.Wire.talk g.W.Wire.peer (λ e. refl) (λ e. refl) c.args.ends.now c.requires.fresh

pub merge-records-requires-clause-ended : goal.merge-records-requires-clause-ended
merge-records-requires-clause-ended g c =
    subst AllEnded (sym (after-loan c.in_ok-begun.begun.clients.len c.deref_mut.result.now c.take_turns.new.clients c.in_ok-begun.begun.clients.items c.take_turns.ensures.each_end.1 c.deref_mut.ensures.len)) c.take_turns.ensures.ended

pub merge-records-requires-clause-once : goal.merge-records-requires-clause-once
merge-records-requires-clause-once g c =
    subst (λ (l : List Client). AtMostOnce (records_of l))
    (sym (after-loan c.in_ok-begun.begun.clients.len c.deref_mut.result.now c.take_turns.new.clients c.in_ok-begun.begun.clients.items c.take_turns.ensures.each_end.1 c.deref_mut.ensures.len))
    (at-most-once c.take_turns.new.shared.drawn c.take_turns.new.clients c.take_turns.ensures.ended c.take_turns.ensures.world.once)

pub merge-records-requires-clause-below : goal.merge-records-requires-clause-below
merge-records-requires-clause-below g c =
    subst (λ (l : List Client). EachBelow (length c.in_ok-begun.begun.places.items) (records_of l))
    (sym (after-loan c.in_ok-begun.begun.clients.len c.deref_mut.result.now c.take_turns.new.clients c.in_ok-begun.begun.clients.items c.take_turns.ensures.each_end.1 c.deref_mut.ensures.len))
    (subst (λ n. EachBelow n (records_of c.take_turns.new.clients)) (sym (ap length c.in_ok-begun.ensures.places ∙ length-replicate (length c.args.jobs.now) None))
    (each-below c.take_turns.new.shared.drawn (length c.args.jobs.now) c.take_turns.new.clients c.take_turns.ensures.ended c.take_turns.ensures.world.once c.take_turns.ensures.world.drawn_few))

pub returns-clause-ran : goal.returns-clause-ran
returns-clause-ran g c =
    let seen = seen_end {F = g.row.T-Of.Denot} g.T.Tree.told g.T.Tree.faults g.T.Tree.reads g.W.Wire.talk g.W.Wire.state g.W.Wire.faults g.O.Outs.kept g.O.Outs.faults in
    let named = g.T.Of.Frozen.named in
    let jobs = c.args.jobs.now in
    let hosts = c.args.hosts.now in
    let before = map seen c.args.ends.now in
    let after = map seen c.take_turns.new.ends in
    let clients = c.take_turns.new.clients in
    let memo = seen_memo c.take_turns.new.shared.memo in
    let loan = after-loan c.in_ok-begun.begun.clients.len c.deref_mut.result.now clients c.in_ok-begun.begun.clients.items c.take_turns.ensures.each_end.1 c.deref_mut.ensures.len in
    let lent : length c.deref_mut.result.now ≡ length c.args.ends.now = ap length c.deref_mut.ensures.value ∙ c.in_ok-begun.ensures.each in
    let many : length clients ≡ length c.args.ends.now = c.take_turns.ensures.each_end.1 ∙ lent in
    let places : length c.in_ok-begun.begun.places.items ≡ length jobs = ap length c.in_ok-begun.ensures.places ∙ length-replicate (length jobs) None in
    let new : AreNew 0 (length jobs) c.args.budget c.deref_mut.result.now = subst (AreNew 0 (length jobs) c.args.budget) (sym c.deref_mut.ensures.value) c.in_ok-begun.ensures.clients in
    let did = c.take_turns.ensures.keeps c.args.budget before
    (nothing-done named c.args.budget jobs hosts (seen_memo c.in_ok-begun.begun.shared.memo) (length jobs) 0 c.deref_mut.result.now before c.in_ok-begun.ensures.memo.1.1 (length-map c.args.ends.now seen ∙ sym lent) new) in
    let strangers : (other : ℕ) → length clients ≤ other → calls_of other memo ≡ [] =
    λ other above. c.take_turns.ensures.strangers other (subst (λ n. n ≤ other) c.take_turns.ensures.each_end.1 above) ∙ no-calls other (seen_memo c.in_ok-begun.begun.shared.memo) c.in_ok-begun.ensures.memo.1.1 in
    subst (λ n. ClientsRan (known named c.args.budget) jobs hosts n false before after c.merge-records.result.items c.count-totals.result) many
    (clients-ran named c.args.budget jobs hosts clients memo c.take_turns.new.shared.slots c.take_turns.new.shared.drawn before after did c.take_turns.ensures.world c.take_turns.ensures.ended
    (subst (λ n. 1 ≤ n) (sym many) c.requires.some.0)
    c.count-totals.ensures.legal (c.take_turns.ensures.limit ∙ c.in_ok-begun.ensures.memo.0) strangers
    c.outcomes_agree.ensures.agree c.outcomes_agree.ensures.no_peer c.outcomes_agree.ensures.calm
    (recursion_from_All IsJob jobs c.are_readings.ensures)
    (named-whole (λ (e : End g.row.T.Denot g.row.W.Denot g.row.O.Denot g.row.T-Of.Denot). e.tree) g.T.Tree.told named g.met.T.Tree.tells g.met.T.Tree.whole c.args.ends.now c.requires.some.0)
    c.merge-records.result.items c.count-totals.result
    (c.merge-records.ensures ∙ (ap (λ n. in_order job_number 0 n (records_of (take c.in_ok-begun.begun.clients.len (clients ++ drop (length clients) c.in_ok-begun.begun.clients.items)))) places ∙ ap (λ (l : List Client). in_order job_number 0 (length jobs) (records_of l)) loan))
    c.count-totals.ensures.totals)
