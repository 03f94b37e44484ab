use Rattle.std.proofs.Common.{◌≡◌, ◌≤◌, ◌<◌, ◌+◌, ◌-◌, ℕ, List, [], zero, None, false, length, take, drop, sym, ap, ◌∙◌, arith, length-drop, subst, inl, inr, get_or, ◌==◌}
use Rattle.std.proofs.lemmas.List.Sums.{count_by-le-length}
use Rattle.std.proofs.Math.Nat.{add-zero}
use Rattle.std.proofs.lemmas.List.{length-take-le, drop_all, get_or-drop}
use Rattle.pp_tokens.specs.Phases.{Cell}
use Rattle.pp_tokens.specs.Lined.{lined, spliced_up_to}
use Rattle.pp_tokens.specs.Lines.{Part, newline, open_comment, first_part, elements}
use Rattle.pp_tokens.specs.parts.Gathered.{newlines, IsPart}
use Rattle.pp_tokens.specs.parts.Text.{part_told}
use Rattle.pp_tokens.specs.parts.TextLines.{text_left, file_behind}
use Rattle.pp_tokens.proofs.LaterPlaces.{known_later}
use Rattle.pp_tokens.proofs.OneLine.{newline_newlines}
use Rattle.pp_tokens.proofs.Splices.{up_to_all, up_to_later}
use Rattle.pp_tokens.proofs.LexSteps.{first_within, first_is_part, newline_is, one_newline}
use Rattle.pp_tokens.proofs.TextLeft.{left_behind, run_left, part_left, open_is_rest, nothing_left, comment_left}
use Rattle.pp_tokens.proofs.text_line.far_end.Goals as goal
use Rattle.pp_tokens.proofs.text_line.far_end.Goals.{After-next_part-what}

pub returns-then-text-at-eq10-clause-end : goal.returns-then-text-at-eq10-clause-end
returns-then-text-at-eq10-clause-end c =
    let text = c.args.text.now in
    let splices = c.args.splices.now in
    let n = c.ordinary_at-run.result in
    let base = c.loop-at.base in
    let at = c.loop-at.at + n in
    let xs = drop at text in
    let below : at < length text = omega (arith, c.if-at-text.true) in
    let some : 0 < length xs = omega (arith, length-drop at text, below) in
    let here : get_or xs 0 0 ≡ 10 = get_or-drop at text 0 0 ∙ ap (λ i. get_or text i 0) (add-zero at) ∙ c.if-text-at-eq10.true in
    record {
      within = omega (arith, below);
      later = omega (arith, c.loop-at.invariant.later);
      moves = λ some. omega (arith, c.loop-at.invariant.later);
      counted = omega (arith, c.loop-at.invariant.counted);
      file = c.loop-at.invariant.left
          ∙ run_left text splices c.loop-at.at base n c.ordinary_at-run.ensures.run
          ∙ part_left text splices at base newline 1 below (sym (newline_is text at false below c.if-text-at-eq10.true))
          ∙ ap (λ m. file_behind None (elements zero [] (lined splices (at + 1) (base + m) (drop (at + 1) text)))) (one_newline xs some here);
    }

pub returns-then-text-at-eq10-clause-known : goal.returns-then-text-at-eq10-clause-known
returns-then-text-at-eq10-clause-known c =
    let n = c.ordinary_at-run.result in
    known_later c.loop-at.unpaired c.args.text.now (c.loop-at.at + n) 1 (known_later c.loop-at.unpaired c.args.text.now c.loop-at.at n c.loop-at.invariant.known)

pub loop-at-preserved-else-at-text : goal.loop-at-preserved-else-at-text
loop-at-preserved-else-at-text c =
    let text = c.args.text.now in
    let at = c.loop-at.at in
    let n = c.ordinary_at-run.result in
    record {
      within = c.ordinary_at-run.ensures.within;
      later = omega (arith, c.loop-at.invariant.later);
      counted = omega (arith, c.loop-at.invariant.counted);
      known = known_later c.loop-at.unpaired text at n c.loop-at.invariant.known;
      left = c.loop-at.invariant.left ∙ run_left text c.args.splices.now at c.loop-at.base n c.ordinary_at-run.ensures.run;
    }

-- what stands first isn't empty, and lies within the text
some_left : (c : After-next_part-what) → 0 < length (drop c.loop-at.at c.args.text.now)
some_left c = omega (arith, length-drop c.loop-at.at c.args.text.now, c.loop-at-test.true)

size_is : (c : After-next_part-what) → (0 < c.next_part-what.result.1) × (c.loop-at.at + c.next_part-what.result.1 ≤ length c.args.text.now)
size_is c =
    let is =
    first_within false (drop c.loop-at.at c.args.text.now) (part_told c.next_part-what.result.0) c.next_part-what.result.1 (some_left c) c.next_part-what.ensures.part in
    (is.0, omega (arith, is.1, length-drop c.loop-at.at c.args.text.now, c.loop-at-test.true))

is_part : (c : After-next_part-what) → IsPart (part_told c.next_part-what.result.0) (take c.next_part-what.result.1 (drop c.loop-at.at c.args.text.now))
is_part c =
    first_is_part false (drop c.loop-at.at c.args.text.now) (part_told c.next_part-what.result.0) c.next_part-what.result.1 (some_left c) c.next_part-what.ensures.part

-- what is left behind the part
behind : (c : After-next_part-what)
    → text_left (lined c.args.splices.now c.args.from c.args.line (drop c.args.from c.args.text.now))
    ≡ left_behind (part_told c.next_part-what.result.0) (c.loop-at.base + spliced_up_to c.args.splices.now c.loop-at.at)
    (lined c.args.splices.now (c.loop-at.at + c.next_part-what.result.1)
    (c.loop-at.base + newlines (take c.next_part-what.result.1 (drop c.loop-at.at c.args.text.now)))
    (drop (c.loop-at.at + c.next_part-what.result.1) c.args.text.now))
behind c =
    c.loop-at.invariant.left
    ∙ part_left c.args.text.now c.args.splices.now c.loop-at.at c.loop-at.base (part_told c.next_part-what.result.0) c.next_part-what.result.1
    c.loop-at-test.true c.next_part-what.ensures.part

pub overflow_add-end : goal.overflow_add-end
overflow_add-end c = omega (arith, (size_is (goal.at.overflow_add-end c).After-next_part-what).1, c.requires.small)

pub returns-in-Newline-clause-end : goal.returns-in-Newline-clause-end
returns-in-Newline-clause-end c =
    let s = (goal.at.returns-in-Newline-clause-end c).After-next_part-what in
    let size = size_is s in
    let text = c.args.text.now in
    let splices = c.args.splices.now in
    let at = c.loop-at.at in
    let n = c.next_part-what.result.1 in
    let xs = drop at text in
    let one : newlines (take n xs) ≡ 1 = newline_newlines (take n xs) (subst (λ w. IsPart (part_told w) (take n xs)) c.in-Newline.is (is_part s)) in
    let next : c.loop-at.base + newlines (take n xs) ≡ c.loop-at.base + 1 = ap (λ k. c.loop-at.base + k) one in
    record {
      within = size.1;
      later = omega (arith, c.loop-at.invariant.later);
      moves = λ some. omega (arith, c.loop-at.invariant.later, size.0);
      counted = omega (arith, c.loop-at.invariant.counted, size.0);
      file = behind s
          ∙ ap (λ w. left_behind (part_told w) (c.loop-at.base + spliced_up_to splices at) (lined splices (at + n) (c.loop-at.base + newlines (take n xs)) (drop (at + n) text))) c.in-Newline.is
          ∙ ap (λ b. file_behind None (elements zero [] (lined splices (at + n) b (drop (at + n) text)))) next;
    }

pub splices_passed-requires-clause-passed : goal.splices_passed-requires-clause-passed
splices_passed-requires-clause-passed c =
    let same : c.args.from + (c.loop-at.at - c.args.from) ≡ c.loop-at.at = omega (arith, c.loop-at.invariant.later) in
    omega (arith, c.requires.passed, up_to_later c.args.splices.now c.args.from (c.loop-at.at - c.args.from), ap (spliced_up_to c.args.splices.now) same)

pub overflow_add-line : goal.overflow_add-line
overflow_add-line c =
    omega (arith, c.loop-at.invariant.counted, c.loop-at-test.true, c.splices_passed.ensures, up_to_all c.args.splices.now c.loop-at.at, c.requires.small)

pub overflow_cast-result : goal.overflow_cast-result
overflow_cast-result c =
    omega (arith, c.loop-at.invariant.counted, c.loop-at-test.true, c.splices_passed.ensures, up_to_all c.args.splices.now c.loop-at.at, c.requires.small)

pub returns-in-OpenComment-clause-end : goal.returns-in-OpenComment-clause-end
returns-in-OpenComment-clause-end c =
    let s = (goal.at.returns-in-OpenComment-clause-end c).After-next_part-what in
    let size = size_is s in
    let text = c.args.text.now in
    let splices = c.args.splices.now in
    let at = c.loop-at.at in
    let base = c.loop-at.base in
    let n = c.next_part-what.result.1 in
    let xs = drop at text in
    let part : ◌≡◌ {A = Part × ℕ} (open_comment, n) (first_part false xs) = subst (λ w. ◌≡◌ {A = Part × ℕ} (part_told w, n) (first_part false xs)) c.in-OpenComment.is c.next_part-what.ensures.part in
    let all : n ≡ length xs = open_is_rest xs n (some_left s) part in
    let none : drop (at + n) text ≡ [] = drop_all (at + n) text (omega (arith, all, length-drop at text, c.loop-at-test.true)) in
    record {
      within = size.1;
      later = omega (arith, c.loop-at.invariant.later);
      moves = λ some. omega (arith, c.loop-at.invariant.later, size.0);
      counted = omega (arith, c.loop-at.invariant.counted);
      file = behind s
          ∙ ap (λ w. left_behind (part_told w) (base + spliced_up_to splices at) (lined splices (at + n) (base + newlines (take n xs)) (drop (at + n) text))) c.in-OpenComment.is
          ∙ ap (λ l. left_behind open_comment (base + l) (lined splices (at + n) (base + newlines (take n xs)) (drop (at + n) text))) (sym c.splices_passed.ensures)
          ∙ comment_left (base + c.splices_passed.result) splices (at + n) (base + newlines (take n xs)) base (drop (at + n) text) none;
    }

pub stretch-requires : goal.stretch-requires
stretch-requires c = (size_is (goal.at.stretch-requires c).After-next_part-what).1

pub newlines-base-requires : goal.newlines-base-requires
newlines-base-requires c =
    let s = (goal.at.newlines-base-requires c).After-next_part-what in
    record { part = subst (IsPart (part_told c.next_part-what.result.0)) (sym c.stretch.ensures) (is_part s) }

pub loop-at-smaller : goal.loop-at-smaller
loop-at-smaller c = let size = size_is (goal.at.loop-at-smaller c).After-next_part-what in omega (arith, size.0, size.1)

pub loop-at-preserved : goal.loop-at-preserved
loop-at-preserved c =
    let s = (goal.at.loop-at-preserved c).After-next_part-what in
    let size = size_is s in
    let text = c.args.text.now in
    let splices = c.args.splices.now in
    let at = c.loop-at.at in
    let base = c.loop-at.base in
    let n = c.next_part-what.result.1 in
    let line : ℕ = base + spliced_up_to splices at in
    let spelling = take n (drop at text) in
    let cells : List Cell = lined splices (at + n) (base + newlines spelling) (drop (at + n) text) in
    let passed : c.newlines-base.result ≡ newlines spelling = c.newlines-base.ensures ∙ ap newlines c.stretch.ensures in
    let few : newlines spelling ≤ n =
    omega (arith, count_by-le-length (λ b. b == 10) spelling, length-take-le n (drop at text) (omega (arith, size.1, length-drop at text))) in
    let goes_on : left_behind (part_told c.next_part-what.result.0) line cells ≡ text_left cells =
    elim c.in-White.is [
      | inl is ↦ ap (λ w. left_behind (part_told w) line cells) is
      | inr (inl is) ↦ ap (λ w. left_behind (part_told w) line cells) is
      | inr (inr (k, is)) ↦ ap (λ w. left_behind (part_told w) line cells) is
    ] in
    record {
      within = size.1;
      later = omega (arith, c.loop-at.invariant.later);
      counted = omega (arith, c.loop-at.invariant.counted, passed, few);
      known = known_later c.next_part-what.new.unpaired text at n c.next_part-what.ensures.known;
      left = behind s ∙ goes_on ∙ ap (λ b. text_left (lined splices (at + n) (base + b) (drop (at + n) text))) (sym passed);
    }

pub returns-clause-end : goal.returns-clause-end
returns-clause-end c =
    let none : drop c.loop-at.at c.args.text.now ≡ [] = drop_all c.loop-at.at c.args.text.now c.loop-at-test.false in
    record {
      within = c.loop-at.invariant.within;
      later = c.loop-at.invariant.later;
      moves = λ some. omega (arith, some, c.loop-at-test.false);
      counted = c.loop-at.invariant.counted;
      file = c.loop-at.invariant.left ∙ nothing_left c.args.splices.now c.loop-at.at c.loop-at.base (drop c.loop-at.at c.args.text.now) none;
    }
