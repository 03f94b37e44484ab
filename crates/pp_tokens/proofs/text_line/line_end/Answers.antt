use Rattle.std.proofs.Common.{◌≡◌, ◌<◌, ◌+◌, None, false, zero, [], length, drop, get_or, ap, ◌∙◌, sym, arith, length-drop}
use Rattle.std.proofs.Math.Nat.{add-zero}
use Rattle.std.proofs.lemmas.List.{get_or-drop}
use Rattle.pp_tokens.specs.Lined.{lined}
use Rattle.pp_tokens.specs.Lines.{newline, elements}
use Rattle.pp_tokens.specs.parts.TextLines.{file_behind}
use Rattle.pp_tokens.proofs.Splices.{up_to_later}
use Rattle.pp_tokens.proofs.LexSteps.{newline_is, one_newline}
use Rattle.pp_tokens.proofs.TextLeft.{run_left, part_left}
use Rattle.pp_tokens.proofs.text_line.line_end.Goals as goal
use Rattle.pp_tokens.proofs.text_line.line_end.Goals.{else-at-text-via-then-at-text+else-text-at-eq10, else-at-text-via-else-at-text}

pub returns-then-text-at-eq10-clause-end : goal.returns-then-text-at-eq10-clause-end
returns-then-text-at-eq10-clause-end c =
    let text = c.args.text.now in
    let splices = c.args.splices.now in
    let n = c.ordinary_at-run.result in
    let line = c.args.line in
    let at = c.args.from + n in
    let xs = drop at text in
    let below : at < length text = omega (arith, c.if-at-text.true) in
    let some : 0 < length xs = omega (arith, length-drop at text, below) in
    let here : get_or xs 0 0 ≡ 10 = get_or-drop at text 0 0 ∙ ap (λ i. get_or text i 0) (add-zero at) ∙ c.if-text-at-eq10.true in
    record {
      within = omega (arith, below);
      later = omega arith;
      moves = λ more. omega arith;
      counted = omega (arith, c.requires.counted);
      file = run_left text splices c.args.from line n c.ordinary_at-run.ensures.run
          ∙ part_left text splices at line newline 1 below (sym (newline_is text at false below c.if-text-at-eq10.true))
          ∙ ap (λ m. file_behind None (elements zero [] (lined splices (at + 1) (line + m) (drop (at + 1) text)))) (one_newline xs some here);
    }

pub far_end-requires-clause-passed : goal.far_end-requires-clause-passed
far_end-requires-clause-passed c = omega (arith, c.requires.passed, up_to_later c.args.splices.now c.args.from c.ordinary_at-run.result)

pub returns-clause-end : goal.returns-clause-end
returns-clause-end c =
    let end = c.far_end.ensures.end in
    record {
      within = end.within;
      later = omega (arith, end.later);
      moves = λ more. elim c.else-at-text.branch [
        | else-at-text-via-then-at-text+else-text-at-eq10 w ↦ (let moves = end.moves w.if-at-text.true in omega (arith, moves))
        | else-at-text-via-else-at-text w ↦ omega (arith, more, w.if-at-text.false, end.later)
      ];
      counted = end.counted;
      file = run_left c.args.text.now c.args.splices.now c.args.from c.args.line c.ordinary_at-run.result c.ordinary_at-run.ensures.run ∙ end.file;
    }
