use Rattle.std.proofs.Common.{◌≡◌, ◌+◌, ◌-◌, length, ap, arith, subst}
use Rattle.pp_tokens.specs.Lined.{spliced_up_to}
use Rattle.pp_tokens.specs.parts.Unpaired.{KnowsUnpaired}
use Rattle.pp_tokens.proofs.FirstPut.{PutOn, first_put, known_behind}
use Rattle.pp_tokens.proofs.LaterPlaces.{known_later}
use Rattle.pp_tokens.proofs.LexSteps.{nothing_gathered, lex_start, lex_end, white_up_to, newline_at}
use Rattle.pp_tokens.proofs.Splices.{up_to_all, up_to_later}
use Rattle.pp_tokens.proofs.lexer.gather.Goals as goal
use Rattle.pp_tokens.proofs.lexer.gather.Goals.{In_ok-end}

pub loop-at-init : goal.loop-at-init
loop-at-init c = record {
  within = omega arith;
  counted = omega arith;
  passes = omega arith;
  known = c.new-unpaired.ensures c.args.text.now 0;
  few = rw c.in_ok-gathering.ensures.places (omega arith);
  gathered = nothing_gathered c.args.text.now c.in_ok-gathering.gathering c.in_ok-gathering.ensures;
  state = lex_start (λ f. f) c.args.text.now c.args.splices.now c.in_ok-gathering.gathering c.in_ok-gathering.ensures;
}

pub put_first-requires-clause-passed : goal.put_first-requires-clause-passed
put_first-requires-clause-passed c =
    omega (arith, c.loop-at.invariant.counted, c.loop-at-test.true, c.splices_passed-passed.ensures, up_to_all c.args.splices.now c.loop-at.at, c.requires.small)

put_on : (c : In_ok-end) → PutOn (λ f. f) c.args.text.now c.args.splices.now c.put_first.new.gathering c.loop-at.at c.splices_passed-passed.result (c.in_ok-end.end, c.in_ok-end.line)
put_on c =
    first_put (λ f. f) c.args.text.now c.args.splices.now c.loop-at.gathering c.put_first.new.gathering c.loop-at.at c.loop-at.base c.splices_passed-passed.result (c.in_ok-end.end, c.in_ok-end.line)
    c.loop-at-test.true c.loop-at.invariant.counted c.loop-at.invariant.few c.splices_passed-passed.ensures c.loop-at.invariant.state c.in_ok-end.ensures.puts

pub loop-at-smaller : goal.loop-at-smaller
loop-at-smaller c = let on = put_on c in omega (arith, on.later, on.within)

pub loop-at-preserved-then-is_white : goal.loop-at-preserved-then-is_white
loop-at-preserved-then-is_white c =
    let text = c.args.text.now in
    let splices = c.args.splices.now in
    let at = c.loop-at.at in
    let end = c.white_end-at.result in
    let n = end - at in
    let same : at + n ≡ end = omega (arith, c.white_end-at.ensures.later) in
    let run =
    white_up_to (λ f. f) text splices c.loop-at.gathering c.add_white.new.self at c.loop-at.base end c.loop-at.invariant.gathered c.loop-at.invariant.state c.add_white.ensures
    c.white_end-at.ensures.later c.white_end-at.ensures.within c.white_end-at.ensures.white in
    record {
      within = c.white_end-at.ensures.within;
      counted = omega (arith, c.loop-at.invariant.counted, c.white_end-at.ensures.later);
      passes = omega (arith, c.loop-at.invariant.passes, up_to_later splices at n, ap (spliced_up_to splices) same);
      known = subst (KnowsUnpaired c.loop-at.unpaired text) same (known_later c.loop-at.unpaired text at n c.loop-at.invariant.known);
      few = omega (arith, c.loop-at.invariant.few, ap length c.add_white.ensures.places, c.white_end-at.ensures.later);
      gathered = run.1;
      state = run.0;
    }

pub loop-at-preserved-then-text-at-eq10 : goal.loop-at-preserved-then-text-at-eq10
loop-at-preserved-then-text-at-eq10 c =
    let text = c.args.text.now in
    let splices = c.args.splices.now in
    let at = c.loop-at.at in
    let next =
    newline_at (λ f. f) text splices c.loop-at.gathering c.end_line.new.self at c.loop-at.base c.loop-at.invariant.gathered c.loop-at.invariant.state c.in_ok-end_line.ensures
    c.loop-at-test.true c.if-text-at-eq10.true in
    record {
      within = omega (arith, c.loop-at-test.true);
      counted = omega (arith, c.loop-at.invariant.counted);
      passes = omega (arith, c.loop-at.invariant.passes, up_to_later splices at 1);
      known = known_later c.loop-at.unpaired text at 1 c.loop-at.invariant.known;
      few = omega (arith, c.loop-at.invariant.few, next.1.few);
      gathered = next.1.gathered;
      state = next.0;
    }

pub loop-at-preserved : goal.loop-at-preserved
loop-at-preserved c =
    let on = put_on c in
    record {
      within = on.within;
      counted = on.counted;
      passes = on.passes;
      known = known_behind c.put_first.new.unpaired c.args.text.now c.loop-at.gathering c.put_first.new.gathering c.loop-at.at c.loop-at.base (c.loop-at.base + c.splices_passed-passed.result) (c.in_ok-end.end, c.in_ok-end.line)
          c.in_ok-end.ensures.known c.in_ok-end.ensures.puts;
      few = on.few;
      gathered = on.gathered;
      state = on.state;
    }

pub returns-clause-file : goal.returns-clause-file
returns-clause-file c =
    (lex_end (λ f. f) c.args.text.now c.args.splices.now c.loop-at.gathering c.end_last_line.new.self c.loop-at.at c.loop-at.base c.loop-at-test.false c.loop-at.invariant.gathered c.loop-at.invariant.state c.in_ok-end_last_line.ensures).0

pub returns-clause-gathered : goal.returns-clause-gathered
returns-clause-gathered c =
    (lex_end (λ f. f) c.args.text.now c.args.splices.now c.loop-at.gathering c.end_last_line.new.self c.loop-at.at c.loop-at.base c.loop-at-test.false c.loop-at.invariant.gathered c.loop-at.invariant.state c.in_ok-end_last_line.ensures).1
