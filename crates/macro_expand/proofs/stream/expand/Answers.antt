use Rattle.std.proofs.Common.{List, map, ap, sym, ◌∙◌, arith}
use Rattle.std.proofs.lemmas.Result.{err_from_is_err_and}
use Rattle.macro_defs.specs.Table.{lookup}
use Rattle.macro_expand.specs.Replacement.{Marked, unmarked}
use Rattle.macro_expand.specs.Expansion.{expanded_by}
use Rattle.macro_expand.specs.Seen.{place_of}
use Rattle.macro_expand.specs.Stream.{Stream, given, given_before, to_come}
use Rattle.macro_expand.proofs.PendingLemmas.{plain_unmarked}
use Rattle.macro_expand.proofs.StreamLemmas.{given_before-nothing, given_turn, gives_given, reports_whole}
use Rattle.macro_expand.proofs.stream.expand.Goals as goal

pub loop-out-init : goal.loop-out-init
loop-out-init c = record {
  kept = rw (c.over-stream.ensures, c.new-out.ensures.items)
      (sym (given_before-nothing _ ∙ given_before-nothing _
      ∙ ap (λ (l : List Marked). given (expanded_by (lookup c.args.table.now) (place_of c.args.here.now) c.args.mode 0 c.args.work.now.left l)) (plain_unmarked c.args.run.now)));
  going = ap (λ (s : Stream). s.standing) c.over-stream.ensures;
  spends = omega arith;
}

pub loop-out-preserved : goal.loop-out-preserved
loop-out-preserved c = record {
  kept = given_turn _ c.loop-out.out.items c.keep.new.out.items c.loop-out.stream c.next.new.self c.loop-out.work.left c.next.new.work.left c.in-Some.t c.loop-out.invariant.kept
      (rw c.in-Some.is at (c.in_ok-t.ensures.gives c.loop-out.invariant.going)) c.in_ok-keep.ensures.ok;
  going = rw (c.loop-out.invariant.going, c.in-Some.is) at c.in_ok-t.ensures.stands;
  spends = omega (arith, c.in_ok-t.ensures.spends, c.loop-out.invariant.spends);
}

pub returns-in_err-t-clause-err : goal.returns-in_err-t-clause-err
returns-in_err-t-clause-err c =
    let p = err_from_is_err_and c.from_residual.result c.from_residual.ensures.1 in
    rw (p.1, p.2)
    (reports_whole _ (expanded_by (lookup c.args.table.now) (place_of c.args.here.now) c.args.mode 0 c.args.work.now.left (map unmarked c.args.run.now)) c.loop-out.out.items
    (to_come c.loop-out.stream c.loop-out.work.left) c.loop-out.invariant.kept (c.in_err-t.ensures.err c.loop-out.invariant.going))

pub returns-clause-ok : goal.returns-clause-ok
returns-clause-ok c =
    rw c.of.ensures
    (gives_given (expanded_by (lookup c.args.table.now) (place_of c.args.here.now) c.args.mode 0 c.args.work.now.left (map unmarked c.args.run.now)) c.loop-out.out.items c.next.new.work.left
    (c.loop-out.invariant.kept ∙ ap (given_before c.loop-out.out.items) (rw c.in_default.is at (c.in_ok-t.ensures.gives c.loop-out.invariant.going))))
