use Rattle.std.proofs.Common.{◌≡◌, ◌+◌, ◌<◌, ◌≤◌, List, [], Result, map, length, ap, sym, drop, ◌∙◌, refl, arith}
use Rattle.std.proofs.lemmas.Result.{err_from_is_err_and}
use Rattle.std.proofs.lemmas.List.{length-map}
use Rattle.pp_tokens.specs.Lines.{all_tokens}
use Rattle.pp_tokens.specs.Tokens.{rest_of}
use Rattle.macro_defs.specs.Table.{lookup}
use Rattle.macro_expand.specs.declared.outcome.Mode.TheVariants.{Text}
use Rattle.macro_expand.specs.Replacement.{Marked, unmarked}
use Rattle.macro_expand.specs.Asking.{Failure}
use Rattle.macro_expand.specs.Expansion.{expanded_by}
use Rattle.macro_expand.specs.Seen.{place_of, kept_plain}
use Rattle.macro_expand.specs.Stream.{Given, Stream, given, given_before, to_come, at_hand}
use Rattle.macro_expand.proofs.PendingLemmas.{plain_unmarked}
use Rattle.bench_program.proofs.CountLemmas.{count_init, count_turn, count_end, count_fails, count_of, after_tokens, rest_few}
use Rattle.bench_program.proofs.counts.counts_of.Goals as goal

pub loop-stream-init : goal.loop-stream-init
loop-stream-init c = record {
  kept = rw c.expansion-stream.ensures
      (count_init (given (expanded_by (lookup c.args.unit.now.table) (place_of c.args.unit.now.here) Text 0 20000000 (map unmarked (rest_of c.args.run))))
      ∙ ap (λ (l : List Marked). after_tokens 0 (count_of (given_before [] (given (expanded_by (lookup c.args.unit.now.table) (place_of c.args.unit.now.here) Text 0 20000000 l)))))
      (sym (plain_unmarked (rest_of c.args.run))));
  going = ap (λ (s : Stream). s.standing) c.expansion-stream.ensures;
  spends = omega arith;
  few =
      let there : at_hand c.expansion-stream.result ≡ 0 + length (map kept_plain (rest_of c.args.run)) = ap at_hand c.expansion-stream.ensures in
      let plain : length (map kept_plain (rest_of c.args.run)) ≡ length (rest_of c.args.run) = length-map (rest_of c.args.run) kept_plain in
      let within : length (rest_of c.args.run) ≤ c.args.run.end = rest_few c.args.run.end c.args.run.at (drop c.args.run.at (all_tokens c.args.run.lexed.now)) in
      omega (arith, there, plain, within);
}

pub loop-stream-preserved : goal.loop-stream-preserved
loop-stream-preserved c = record {
  kept = count_turn _ c.loop-stream.expanded c.loop-stream.stream c.next.new.self c.loop-stream.work.left c.next.new.work.left c.in-Some.field-0 c.loop-stream.invariant.kept
      (rw c.in-Some.is at (c.in_ok-next.ensures.gives c.loop-stream.invariant.going));
  going = rw (c.loop-stream.invariant.going, c.in-Some.is) at c.in_ok-next.ensures.stands;
  spends = omega (arith, c.in_ok-next.ensures.spends, c.loop-stream.invariant.spends);
  few =
      let fewer : at_hand c.next.new.self + c.next.new.work.left < at_hand c.loop-stream.stream + c.loop-stream.work.left = rw c.in-Some.is at c.in_ok-next.ensures.few in
      omega (arith, fewer, c.loop-stream.invariant.few);
}

pub returns-in_err-next-clause-err : goal.returns-in_err-next-clause-err
returns-in_err-next-clause-err c =
    let p = err_from_is_err_and c.from_residual.result c.from_residual.ensures.1 in
    rw (p.1, p.2)
    (count_fails _ (expanded_by (lookup c.args.unit.now.table) (place_of c.args.unit.now.here) Text 0 20000000 (map unmarked (rest_of c.args.run))) c.loop-stream.expanded
    (to_come c.loop-stream.stream c.loop-stream.work.left) c.loop-stream.invariant.kept (c.in_err-next.ensures.err c.loop-stream.invariant.going))

pub returns-clause-ok : goal.returns-clause-ok
returns-clause-ok c =
    count_end 20000000 (rest_of c.args.run)
    (given (expanded_by (lookup c.args.unit.now.table) (place_of c.args.unit.now.here) Text 0 20000000 (map unmarked (rest_of c.args.run)))) c.loop-stream.expanded
    c.next.new.work.left _
    (c.loop-stream.invariant.kept
    ∙ ap (λ (r : Result Given Failure). after_tokens c.loop-stream.expanded (count_of r)) (rw c.in_default.is at (c.in_ok-next.ensures.gives c.loop-stream.invariant.going)))
    c.length_of.ensures refl (omega (arith, c.in_ok-next.ensures.spends, c.loop-stream.invariant.spends))
