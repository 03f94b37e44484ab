use Rattle.std.proofs.Common.{sym, subst, arith}
use Rattle.std.proofs.lemmas.Result.{err_from_is_err_and}
use Rattle.macro_defs.specs.Table.{lookup}
use Rattle.macro_expand.proofs.AnsweredLaws.{before-nothing}
use Rattle.macro_expand.proofs.StreamLemmas.{stays_turn, head_turn, head_stops}
use Rattle.macro_expand.specs.parts.Stamps.{AllStamped}
use Rattle.macro_expand.proofs.StampLaws.{popped-stamped, pending-stamped}
use Rattle.macro_expand.proofs.stream.advance.Goals as goal

pub loop-t-init : goal.loop-t-init
loop-t-init c = record {
  kept = sym (before-nothing _);
  empty = c.requires.empty;
  fewer = omega arith;
  spends = omega arith;
  stamped = c.requires.stamped;
}

pub returns-then-stays-clause-some : goal.returns-then-stays-clause-some
returns-then-stays-clause-some c =
    stays_turn (lookup c.args.table.now) c.args.mode c.args.answers.now c.loop-t.answers c.args.work.now.left c.loop-t.work.left c.args.pending.now c.loop-t.pending c.pop.new.self
    c.loop-t.out.items c.in-Some.t c.loop-t.invariant.kept c.in-Some.ensures.first c.loop-t.invariant.empty (c.stays.ensures c.if-stays.true (lookup c.args.table.now) c.args.mode c.pop.new.self)

pub returns-in_err-expand_head-clause-err : goal.returns-in_err-expand_head-clause-err
returns-in_err-expand_head-clause-err c =
    let p = err_from_is_err_and c.from_residual.result c.from_residual.ensures.1 in
    rw (p.1, p.2)
    (head_stops (lookup c.args.table.now) c.args.mode _ c.args.answers.now c.loop-t.answers c.expand_head.new.answers c.args.work.now.left c.loop-t.work.left c.args.pending.now
    c.loop-t.pending c.pop.new.self c.in-Some.t c.loop-t.invariant.kept c.in-Some.ensures.first c.in_err-expand_head.ensures.err)

pub returns-in-Some-first_of-clause-some : goal.returns-in-Some-first_of-clause-some
returns-in-Some-first_of-clause-some c =
    head_turn (lookup c.args.table.now) c.args.mode c.args.answers.now c.loop-t.answers c.expand_head.new.answers c.args.work.now.left c.loop-t.work.left c.expand_head.new.work.left
    c.args.pending.now c.loop-t.pending c.pop.new.self c.expand_head.new.pending c.loop-t.out.items c.expand_head.new.out.items _ c.in-Some.t c.loop-t.invariant.kept c.in-Some.ensures.first
    c.loop-t.invariant.empty c.in_ok-expand_head.ensures.ok c.in-Some-first_of.ensures

pub loop-t-preserved : goal.loop-t-preserved
loop-t-preserved c = record {
  kept = head_turn (lookup c.args.table.now) c.args.mode c.args.answers.now c.loop-t.answers c.expand_head.new.answers c.args.work.now.left c.loop-t.work.left c.expand_head.new.work.left
      c.args.pending.now c.loop-t.pending c.pop.new.self c.expand_head.new.pending c.loop-t.out.items c.expand_head.new.out.items _ c.in-Some.t c.loop-t.invariant.kept c.in-Some.ensures.first
      c.loop-t.invariant.empty c.in_ok-expand_head.ensures.ok c.in_default-first_of.ensures.0;
  empty = c.in_default-first_of.ensures.1;
  fewer = omega (arith, c.in-Some.ensures.len, c.in_ok-expand_head.ensures.shorter, c.loop-t.invariant.fewer);
  spends = omega (arith, c.in_ok-expand_head.ensures.spends, c.loop-t.invariant.spends);
  stamped = (let head = popped-stamped c.loop-t.stamps c.in-Some.t c.loop-t.pending c.pop.new.self c.in-Some.ensures.first c.loop-t.invariant.stamped in
      pending-stamped head.0 c.loop-t.stamps c.expand_head.new.stamps c.expand_head.new.pending c.expand_head.new.out.items
      (c.in_ok-expand_head.ensures.stamped head.0 head.1.0 head.1.1 (subst (AllStamped head.0 c.loop-t.stamps) (sym c.loop-t.invariant.empty) tt)));
}

pub returns-then-stays-clause-stamped : goal.returns-then-stays-clause-stamped
returns-then-stays-clause-stamped c =
    let head = popped-stamped c.loop-t.stamps c.in-Some.t c.loop-t.pending c.pop.new.self c.in-Some.ensures.first c.loop-t.invariant.stamped in
    (head.0, head.1.1)

pub expand_head-requires-clause-stamped : goal.expand_head-requires-clause-stamped
expand_head-requires-clause-stamped c = popped-stamped c.loop-t.stamps c.in-Some.t c.loop-t.pending c.pop.new.self c.in-Some.ensures.first c.loop-t.invariant.stamped

pub returns-in-Some-first_of-clause-stamped : goal.returns-in-Some-first_of-clause-stamped
returns-in-Some-first_of-clause-stamped c =
    let head = popped-stamped c.loop-t.stamps c.in-Some.t c.loop-t.pending c.pop.new.self c.in-Some.ensures.first c.loop-t.invariant.stamped in
    pending-stamped head.0 c.loop-t.stamps c.expand_head.new.stamps c.expand_head.new.pending c.expand_head.new.out.items
    (c.in_ok-expand_head.ensures.stamped head.0 head.1.0 head.1.1 (subst (AllStamped head.0 c.loop-t.stamps) (sym c.loop-t.invariant.empty) tt))
