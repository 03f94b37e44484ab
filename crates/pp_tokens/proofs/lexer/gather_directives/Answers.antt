use Rattle.std.proofs.Common.{◌≡◌, ◌≤◌, ◌<◌, ◌+◌, ◌-◌, ℕ, true, false, ◌&&◌, not, length, take, drop, ap, ◌∙◌, sym, arith, length-drop, subst, ◌==◌}
use Rattle.std.proofs.lemmas.List.Sums.{count_by-le-length}
use Rattle.std.proofs.lemmas.List.{length-take-le}
use Rattle.pp_tokens.specs.Lined.{spliced_up_to}
use Rattle.pp_tokens.specs.declared.token.Kind.TheVariants.{Punct}
use Rattle.pp_tokens.specs.Lines.{Part, newline, token, first_part, spells_hash}
use Rattle.pp_tokens.specs.DirectiveLines.{kept_alone}
use Rattle.pp_tokens.specs.parts.Gathered.{newlines, IsPart, Gathers}
use Rattle.pp_tokens.specs.parts.Text.{is_due, part_told}
use Rattle.pp_tokens.specs.parts.TextLines.{is_token_part, begins_line, asks_nothing, begins_text, is_cut}
use Rattle.pp_tokens.specs.parts.Unpaired.{KnowsUnpaired}
use Rattle.pp_tokens.proofs.FirstPut.{PutOn, first_put, known_behind}
use Rattle.pp_tokens.proofs.LaterPlaces.{known_later}
use Rattle.pp_tokens.proofs.Splices.{up_to_all, up_to_later}
use Rattle.pp_tokens.proofs.ShortParts.{short_stretch}
use Rattle.pp_tokens.proofs.LexSteps.{first_within, first_is_part, nothing_gathered, lex_start, lex_step, lex_end, white_up_to, newline_at}
use Rattle.pp_tokens.proofs.DirectiveSteps.{nothing_outlined, gap_outlined, part_outlined, text_outlined, text_step, end_outlined, dropped_so, dropped_few, cut_named, cut_step, uncut_asking, uncut_start, starts_undue, hash_no_text, is_a_token, newline_no_text}
use Rattle.pp_tokens.proofs.IdleLines.{from_later, idle_moves, idle_line}
use Rattle.pp_tokens.proofs.lexer.gather_directives.Goals as goal
use Rattle.pp_tokens.proofs.lexer.gather_directives.Goals.{After-next_part-what, In_ok-end}

pub loop-at-init : goal.loop-at-init
loop-at-init c =
    let text = c.args.text.now in
    let g = c.in_ok-gathering.gathering in
    record {
      within = omega arith;
      counted = omega arith;
      passes = omega arith;
      known = c.new-unpaired.ensures text 0;
      few = rw c.in_ok-gathering.ensures.places (omega arith);
      gathered = nothing_gathered text g c.in_ok-gathering.ensures;
      outlined = nothing_outlined c.args.whole text g c.in_ok-gathering.ensures;
      state = lex_start (kept_alone c.args.whole) text c.args.splices.now g c.in_ok-gathering.ensures;
    }

-- what stands first isn't empty, and lies within the text
some_left : (c : After-next_part-what) → 0 < length (drop c.loop-at.at c.args.text.now)
some_left c = omega (arith, length-drop c.loop-at.at c.args.text.now, c.loop-at-test.true)

size_is : (c : After-next_part-what) → (0 < c.next_part-what.result.1) × (c.loop-at.at + c.next_part-what.result.1 ≤ length c.args.text.now)
size_is c =
    let is =
    first_within c.is_due.result (drop c.loop-at.at c.args.text.now) (part_told c.next_part-what.result.0) c.next_part-what.result.1 (some_left c) c.next_part-what.ensures.part in
    (is.0, omega (arith, is.1, length-drop c.loop-at.at c.args.text.now, c.loop-at-test.true))

is_part : (c : After-next_part-what) → IsPart (part_told c.next_part-what.result.0) (take c.next_part-what.result.1 (drop c.loop-at.at c.args.text.now))
is_part c =
    first_is_part c.is_due.result (drop c.loop-at.at c.args.text.now) (part_told c.next_part-what.result.0) c.next_part-what.result.1 (some_left c) c.next_part-what.ensures.part

-- the part that stands first
first : (c : After-next_part-what)
    → ◌≡◌ {A = Part × ℕ} (part_told c.next_part-what.result.0, c.next_part-what.result.1) (first_part (is_due c.loop-at.gathering.before) (drop c.loop-at.at c.args.text.now))
first c = c.next_part-what.ensures.part ∙ ap (λ d. first_part d (drop c.loop-at.at c.args.text.now)) c.is_due.ensures

line_small : (c : After-next_part-what) → c.loop-at.base + c.splices_passed-passed.result ≤ 16777218
line_small c =
    omega (arith, c.loop-at.invariant.counted, c.loop-at-test.true, c.splices_passed-passed.ensures, up_to_all c.args.splices.now c.loop-at.at, c.requires.small)

pub stretch-word-requires : goal.stretch-word-requires
stretch-word-requires c = (size_is c).1

pub overflow_add-at-then-begins_text : goal.overflow_add-at-then-begins_text
overflow_add-at-then-begins_text c = omega (arith, (size_is (goal.at.overflow_add-at-then-begins_text c).After-next_part-what).1, c.requires.small)

pub line_end-end-requires-clause-within : goal.line_end-end-requires-clause-within
line_end-end-requires-clause-within c = (size_is (goal.at.line_end-end-requires-clause-within c).After-next_part-what).1

pub line_end-end-requires-clause-passed : goal.line_end-end-requires-clause-passed
line_end-end-requires-clause-passed c =
    omega (arith, c.splices_passed-passed.ensures, up_to_later c.args.splices.now c.loop-at.at c.next_part-what.result.1)

pub loop-at-smaller-then-begins_text : goal.loop-at-smaller-then-begins_text
loop-at-smaller-then-begins_text c =
    let size = size_is (goal.at.loop-at-smaller-then-begins_text c).After-next_part-what in
    omega (arith, size.0, c.line_end-end.ensures.end.later, c.line_end-end.ensures.end.within, c.loop-at-test.true)

pub loop-at-preserved-then-begins_text : goal.loop-at-preserved-then-begins_text
loop-at-preserved-then-begins_text c =
    let s = (goal.at.loop-at-preserved-then-begins_text c).After-next_part-what in
    let text = c.args.text.now in
    let splices = c.args.splices.now in
    let at = c.loop-at.at in
    let n = c.next_part-what.result.1 in
    let old = c.loop-at.gathering in
    let new = c.end_text-then-begins_text.new.self in
    let end = c.line_end-end.result in
    let word = take n (drop at text) in
    let begins : begins_text old.before (part_told c.next_part-what.result.0) word ≡ true =
    ap (begins_text old.before (part_told c.next_part-what.result.0)) (sym c.stretch-word.ensures) ∙ sym c.begins_text.ensures ∙ c.if-begins_text.true in
    let kind = is_a_token old.before (part_told c.next_part-what.result.0) word begins in
    let ended = text_outlined c.args.whole text old new end.comment c.loop-at.invariant.gathered c.loop-at.invariant.outlined c.in_ok-end_text-2.ensures in
    let same : at + (end.at - at) ≡ end.at = omega (arith, c.line_end-end.ensures.end.later) in
    record {
      within = c.line_end-end.ensures.end.within;
      counted = c.line_end-end.ensures.end.counted;
      passes = omega (arith, c.splices_passed-passed.ensures, up_to_later splices at (end.at - at), ap (spliced_up_to splices) same);
      known = c.line_end-end.ensures.known;
      few = omega (arith, ap length c.in_ok-end_text-2.ensures.places, c.loop-at.invariant.few, c.line_end-end.ensures.end.later);
      gathered = ended.0;
      outlined = ended.1;
      state = text_step c.args.whole text splices old new at c.loop-at.base n kind.0 end c.loop-at.invariant.state c.loop-at.invariant.gathered c.loop-at.invariant.outlined c.loop-at-test.true
          (subst (λ p. ◌≡◌ {A = Part × ℕ} (p, n) (first_part (is_due old.before) (drop at text))) kind.1 (first s))
          (subst (λ p. begins_text old.before p word ≡ true) kind.1 begins)
          c.line_end-end.ensures.end.file c.in_ok-end_text-2.ensures;
    }

pub overflow_add-base-else-begins_text : goal.overflow_add-base-else-begins_text
overflow_add-base-else-begins_text c = omega (arith, line_small (goal.at.overflow_add-base-else-begins_text c).After-next_part-what)

pub overflow_cast-base : goal.overflow_cast-base
overflow_cast-base c = omega (arith, line_small (goal.at.overflow_cast-base c).After-next_part-what)

pub add-requires-clause-within : goal.add-requires-clause-within
add-requires-clause-within c = (size_is (goal.at.add-requires-clause-within c).After-next_part-what).1

pub add-requires-clause-some : goal.add-requires-clause-some
add-requires-clause-some c = (size_is (goal.at.add-requires-clause-some c).After-next_part-what).0

pub add-requires-clause-part : goal.add-requires-clause-part
add-requires-clause-part c = is_part (goal.at.add-requires-clause-part c).After-next_part-what

pub add-requires-clause-short : goal.add-requires-clause-short
add-requires-clause-short c =
    short_stretch c.args.text.now c.loop-at.at c.next_part-what.result.1 16777216 (size_is (goal.at.add-requires-clause-short c).After-next_part-what).1 c.requires.short

pub newlines-base-requires : goal.newlines-base-requires
newlines-base-requires c =
    record { part = subst (IsPart (part_told c.next_part-what.result.0)) (sym c.stretch-word.ensures) (is_part (goal.at.newlines-base-requires c).After-next_part-what) }

pub overflow_add-at-else-begins_text : goal.overflow_add-at-else-begins_text
overflow_add-at-else-begins_text c = omega (arith, (size_is (goal.at.overflow_add-at-else-begins_text c).After-next_part-what).1, c.requires.small)

pub loop-at-smaller-else-begins_text : goal.loop-at-smaller-else-begins_text
loop-at-smaller-else-begins_text c = let size = size_is (goal.at.loop-at-smaller-else-begins_text c).After-next_part-what in omega (arith, size.0, size.1)

pub loop-at-preserved-then-is_white : goal.loop-at-preserved-then-is_white
loop-at-preserved-then-is_white c =
    let text = c.args.text.now in
    let splices = c.args.splices.now in
    let at = c.loop-at.at in
    let end = c.white_end-at.result in
    let n = end - at in
    let old = c.loop-at.gathering in
    let new = c.add_white.new.self in
    let same : at + n ≡ end = omega (arith, c.white_end-at.ensures.later) in
    let run =
    white_up_to (kept_alone c.args.whole) text splices old new at c.loop-at.base end c.loop-at.invariant.gathered c.loop-at.invariant.state c.add_white.ensures
    c.white_end-at.ensures.later c.white_end-at.ensures.within c.white_end-at.ensures.white in
    record {
      within = c.white_end-at.ensures.within;
      counted = omega (arith, c.loop-at.invariant.counted, c.white_end-at.ensures.later);
      passes = omega (arith, c.loop-at.invariant.passes, up_to_later splices at n, ap (spliced_up_to splices) same);
      known = subst (KnowsUnpaired c.loop-at.unpaired text) same (known_later c.loop-at.unpaired text at n c.loop-at.invariant.known);
      few = omega (arith, c.loop-at.invariant.few, ap length c.add_white.ensures.places, c.white_end-at.ensures.later);
      gathered = run.1;
      outlined = gap_outlined c.args.whole text old new _ c.loop-at.invariant.outlined c.add_white.ensures;
      state = run.0;
    }

pub loop-at-preserved-then-text-at-eq10 : goal.loop-at-preserved-then-text-at-eq10
loop-at-preserved-then-text-at-eq10 c =
    let text = c.args.text.now in
    let splices = c.args.splices.now in
    let at = c.loop-at.at in
    let old = c.loop-at.gathering in
    let new = c.end_line.new.self in
    let next =
    newline_at (kept_alone c.args.whole) text splices old new at c.loop-at.base c.loop-at.invariant.gathered c.loop-at.invariant.state c.in_ok-end_line.ensures
    c.loop-at-test.true c.if-text-at-eq10.true in
    record {
      within = omega (arith, c.loop-at-test.true);
      counted = omega (arith, c.loop-at.invariant.counted);
      passes = omega (arith, c.loop-at.invariant.passes, up_to_later splices at 1);
      known = known_later c.loop-at.unpaired text at 1 c.loop-at.invariant.known;
      few = omega (arith, c.loop-at.invariant.few, next.1.few);
      gathered = next.1.gathered;
      outlined = part_outlined c.args.whole text (take 1 (drop at text)) old new newline (c.loop-at.base + spliced_up_to splices at) c.loop-at.invariant.outlined next.1
          (newline_no_text old.before (take 1 (drop at text))) (uncut_asking c.args.whole old.before new.before (take 1 (drop at text)) (ap asks_nothing c.in_ok-end_line.ensures.before));
      state = next.0;
    }

pub loop-at-preserved-else-begins_text : goal.loop-at-preserved-else-begins_text
loop-at-preserved-else-begins_text c =
    let s = (goal.at.loop-at-preserved-else-begins_text c).After-next_part-what in
    let size = size_is s in
    let text = c.args.text.now in
    let splices = c.args.splices.now in
    let at = c.loop-at.at in
    let n = c.next_part-what.result.1 in
    let part = part_told c.next_part-what.result.0 in
    let word = take n (drop at text) in
    let old = c.loop-at.gathering in
    let new = c.add.new.self in
    let passed : c.newlines-base.result ≡ newlines word = c.newlines-base.ensures ∙ ap newlines c.stretch-word.ensures in
    let few : newlines word ≤ n = omega (arith, count_by-le-length (λ b. b == 10) word, length-take-le n (drop at text) (omega (arith, size.1, length-drop at text))) in
    let line : c.loop-at.base + c.splices_passed-passed.result ≡ c.loop-at.base + spliced_up_to splices at = ap (λ m. c.loop-at.base + m) c.splices_passed-passed.ensures in
    let step = subst (Gathers text old new part word) line c.in_ok-add.ensures in
    let other : begins_text old.before part word ≡ false =
    ap (begins_text old.before part) (sym c.stretch-word.ensures) ∙ sym c.begins_text.ensures ∙ c.if-begins_text.false in
    record {
      within = size.1;
      counted = omega (arith, c.loop-at.invariant.counted, passed, few);
      passes = omega (arith, c.splices_passed-passed.ensures, up_to_later splices at n);
      known = known_later c.next_part-what.new.unpaired text at n c.next_part-what.ensures.known;
      few = omega (arith, c.loop-at.invariant.few, step.few, size.0);
      gathered = step.gathered;
      outlined = part_outlined c.args.whole text word old new part (c.loop-at.base + spliced_up_to splices at) c.loop-at.invariant.outlined step other
          (uncut_start c.args.whole old.before new.before word (sym c.begins_line.ensures ∙ c.if-begins_line.true));
      state = rw passed (lex_step (kept_alone c.args.whole) text splices old new at c.loop-at.base n part c.loop-at.invariant.state c.loop-at-test.true (first s) step);
    }

pub put_first-requires-clause-passed : goal.put_first-requires-clause-passed
put_first-requires-clause-passed c =
    omega (arith, c.loop-at.invariant.counted, c.loop-at-test.true, c.splices_passed-passed.ensures, up_to_all c.args.splices.now c.loop-at.at, c.requires.small)

put_on : (c : In_ok-end)
    → PutOn (kept_alone c.args.whole) c.args.text.now c.args.splices.now c.put_first.new.gathering c.loop-at.at c.splices_passed-passed.result (c.in_ok-end.end, c.in_ok-end.line)
put_on c =
    first_put (kept_alone c.args.whole) c.args.text.now c.args.splices.now c.loop-at.gathering c.put_first.new.gathering c.loop-at.at c.loop-at.base c.splices_passed-passed.result
    (c.in_ok-end.end, c.in_ok-end.line) c.loop-at-test.true c.loop-at.invariant.counted c.loop-at.invariant.few c.splices_passed-passed.ensures c.loop-at.invariant.state c.in_ok-end.ensures.puts

-- what stands there isn't the first token of its line
begun : (c : In_ok-end) → begins_line c.loop-at.gathering.before ≡ false
begun c = sym c.begins_line.ensures ∙ c.if-begins_line.false

pub line_end-rest-requires-clause-within : goal.line_end-rest-requires-clause-within
line_end-rest-requires-clause-within c = (put_on (goal.at.line_end-rest-requires-clause-within c).In_ok-end).within

pub line_end-rest-requires-clause-passed : goal.line_end-rest-requires-clause-passed
line_end-rest-requires-clause-passed c = (put_on (goal.at.line_end-rest-requires-clause-passed c).In_ok-end).passes

pub stretch-requires : goal.stretch-requires
stretch-requires c = let on = put_on (goal.at.stretch-requires c).In_ok-end in omega (arith, on.later, on.within)

-- the spelling of what stands there
spelled : (c : In_ok-end) (size : ℕ) → c.in_ok-end.end ≡ c.loop-at.at + size → take (c.in_ok-end.end - c.loop-at.at) (drop c.loop-at.at c.args.text.now) ≡ take size (drop c.loop-at.at c.args.text.now)
spelled c size place = ap (λ n. take n (drop c.loop-at.at c.args.text.now)) (omega (arith, place))

pub loop-at-smaller-then-is_cut : goal.loop-at-smaller-then-is_cut
loop-at-smaller-then-is_cut c =
    let on = put_on (goal.at.loop-at-smaller-then-is_cut c).In_ok-end in
    omega (arith, on.later, on.within, c.line_end-rest.ensures.end.later, c.line_end-rest.ensures.end.within)

pub loop-at-preserved-then-is_cut : goal.loop-at-preserved-then-is_cut
loop-at-preserved-then-is_cut c =
    let s = (goal.at.loop-at-preserved-then-is_cut c).In_ok-end in
    let on = put_on s in
    let text = c.args.text.now in
    let splices = c.args.splices.now in
    let at = c.loop-at.at in
    let old = c.loop-at.gathering in
    let named = c.put_first.new.gathering in
    let new = c.end_text-then-is_cut.new.self in
    let put = c.in_ok-end.ensures.puts in
    let end = c.line_end-rest.result in
    let name = c.in_ok-end.end in
    let word = take put.size (drop at text) in
    let same : name + (end.at - name) ≡ end.at = omega (arith, c.line_end-rest.ensures.end.later) in
    let cuts : is_cut c.args.whole old.before named.before word ≡ true =
    ap (is_cut c.args.whole old.before named.before) (sym (spelled s put.size put.place) ∙ sym c.stretch.ensures) ∙ sym c.is_cut.ensures ∙ c.if-is_cut.true in
    let cut = cut_named c.args.whole text word old named put.part (c.loop-at.base + c.splices_passed-passed.result) c.loop-at.invariant.outlined put.gathers cuts in
    let ended = dropped_so text named c.drop_line.new.self new end.comment on.gathered c.drop_line.ensures c.in_ok-end_text-3.ensures in
    let step = cut_step c.args.whole text splices named new name c.in_ok-end.line end on.state cut c.line_end-rest.ensures.end ended in
    record {
      within = c.line_end-rest.ensures.end.within;
      counted = c.line_end-rest.ensures.end.counted;
      passes = omega (arith, on.passes, up_to_later splices name (end.at - name), ap (spliced_up_to splices) same);
      known = c.line_end-rest.ensures.known;
      few = omega (arith, dropped_few named c.drop_line.new.self new end.comment c.drop_line.ensures c.in_ok-end_text-3.ensures, on.few, c.line_end-rest.ensures.end.later);
      gathered = step.1.0;
      outlined = step.1.1;
      state = step.0;
    }

pub loop-at-smaller : goal.loop-at-smaller
loop-at-smaller c = let on = put_on (goal.at.loop-at-smaller c).In_ok-end in omega (arith, on.later, on.within)

pub loop-at-preserved : goal.loop-at-preserved
loop-at-preserved c =
    let s = (goal.at.loop-at-preserved c).In_ok-end in
    let on = put_on s in
    let text = c.args.text.now in
    let at = c.loop-at.at in
    let old = c.loop-at.gathering in
    let new = c.put_first.new.gathering in
    let passed = c.splices_passed-passed.result in
    let behind : ℕ × ℕ = (c.in_ok-end.end, c.in_ok-end.line) in
    let put = c.in_ok-end.ensures.puts in
    let word = take put.size (drop at text) in
    let uncut : is_cut c.args.whole old.before new.before word ≡ false =
    ap (is_cut c.args.whole old.before new.before) (sym (spelled s put.size put.place) ∙ sym c.stretch.ensures) ∙ sym c.is_cut.ensures ∙ c.if-is_cut.false in
    record {
      within = on.within;
      counted = on.counted;
      passes = on.passes;
      known = known_behind c.put_first.new.unpaired text old new at c.loop-at.base (c.loop-at.base + passed) behind c.in_ok-end.ensures.known put;
      few = on.few;
      gathered = on.gathered;
      outlined = part_outlined c.args.whole text word old new put.part (c.loop-at.base + passed) c.loop-at.invariant.outlined put.gathers
          (ap (λ t. t && (is_token_part put.part && not (spells_hash word))) (begun s)) uncut;
      state = on.state;
    }

pub overflow_add-line : goal.overflow_add-line
overflow_add-line c =
    omega (arith, c.loop-at.invariant.counted, c.loop-at-test.true, c.splices_passed-passed.ensures, up_to_all c.args.splices.now c.loop-at.at, c.requires.small)

pub overflow_cast-line : goal.overflow_cast-line
overflow_cast-line c =
    omega (arith, c.loop-at.invariant.counted, c.loop-at-test.true, c.splices_passed-passed.ensures, up_to_all c.args.splices.now c.loop-at.at, c.requires.small)

pub loop-at-preserved-then-is_lone_hash : goal.loop-at-preserved-then-is_lone_hash
loop-at-preserved-then-is_lone_hash c =
    let text = c.args.text.now in
    let at = c.loop-at.at in
    let old = c.loop-at.gathering in
    let new = c.put_part.new.gathering in
    let passed = c.splices_passed-passed.result in
    let behind : ℕ × ℕ = (c.in_ok-behind.behind, c.in_ok-behind.next) in
    let put = c.in_ok-behind.ensures in
    let on =
    first_put (kept_alone c.args.whole) text c.args.splices.now old new at c.loop-at.base passed behind c.loop-at-test.true c.loop-at.invariant.counted c.loop-at.invariant.few
    c.splices_passed-passed.ensures c.loop-at.invariant.state put in
    let starts : begins_line old.before ≡ true = sym c.begins_line.ensures ∙ c.if-begins_line.true in
    let first : ◌≡◌ {A = Part × ℕ} (put.part, put.size) (token Punct, 1) =
    put.first ∙ ap (λ d. first_part d (drop at text)) (starts_undue old.before starts) ∙ c.is_lone_hash.ensures.part c.if-is_lone_hash.true in
    let spelled : spells_hash (take put.size (drop at text)) ≡ true =
    ap (λ p. spells_hash (take p.1 (drop at text))) first ∙ c.is_lone_hash.ensures.hash c.if-is_lone_hash.true in
    record {
      within = on.within;
      counted = on.counted;
      passes = on.passes;
      known = known_behind c.loop-at.unpaired text old new at c.loop-at.base (c.loop-at.base + passed) behind c.loop-at.invariant.known put;
      few = on.few;
      gathered = on.gathered;
      outlined = part_outlined c.args.whole text (take put.size (drop at text)) old new put.part (c.loop-at.base + passed) c.loop-at.invariant.outlined put.gathers
          (hash_no_text old.before put.part (take put.size (drop at text)) spelled) (uncut_start c.args.whole old.before new.before (take put.size (drop at text)) starts);
      state = on.state;
    }

pub line_end-idle-requires-clause-passed : goal.line_end-idle-requires-clause-passed
line_end-idle-requires-clause-passed c =
    let splices = c.args.splices.now in
    let at = c.loop-at.at in
    let from = c.in-Some.from in
    let later = from_later c.args.whole c.args.text.now at from c.loop-at-test.true c.in-Some.ensures in
    let same : at + (from - at) ≡ from = omega (arith, later.0) in
    omega (arith, c.splices_passed-passed.ensures, up_to_later splices at (from - at), ap (spliced_up_to splices) same)

pub loop-at-preserved-in-Some : goal.loop-at-preserved-in-Some
loop-at-preserved-in-Some c =
    let text = c.args.text.now in
    let splices = c.args.splices.now in
    let at = c.loop-at.at in
    let base = c.loop-at.base in
    let from = c.in-Some.from in
    let old = c.loop-at.gathering in
    let new = c.end_text.new.self in
    let end = c.line_end-idle.result in
    let idle = c.in-Some.ensures in
    let ends = c.line_end-idle.ensures.end in
    let ended = text_outlined c.args.whole text old new end.comment c.loop-at.invariant.gathered c.loop-at.invariant.outlined c.in_ok-end_text.ensures in
    let later = idle_moves c.args.whole text splices at from base end c.loop-at-test.true idle ends in
    let same : at + (end.at - at) ≡ end.at = omega (arith, later) in
    record {
      within = ends.within;
      counted = ends.counted;
      passes = omega (arith, c.splices_passed-passed.ensures, up_to_later splices at (end.at - at), ap (spliced_up_to splices) same);
      known = c.line_end-idle.ensures.known;
      few = omega (arith, ap length c.in_ok-end_text.ensures.places, c.loop-at.invariant.few, later);
      gathered = ended.0;
      outlined = ended.1;
      state = idle_line c.args.whole text splices old new at base from end c.loop-at.invariant.state c.loop-at.invariant.gathered c.loop-at.invariant.outlined c.loop-at-test.true
          (sym c.begins_line.ensures ∙ c.if-begins_line.true) idle ends c.in_ok-end_text.ensures;
    }

pub returns-clause-file : goal.returns-clause-file
returns-clause-file c =
    let text = c.args.text.now in
    let old = c.loop-at.gathering in
    let new = c.end_last_line.new.self in
    sym (end_outlined c.args.whole text old new c.loop-at.invariant.gathered c.loop-at.invariant.outlined c.in_ok-end_last_line.ensures)
    ∙ (lex_end (kept_alone c.args.whole) text c.args.splices.now old new c.loop-at.at c.loop-at.base c.loop-at-test.false c.loop-at.invariant.gathered c.loop-at.invariant.state c.in_ok-end_last_line.ensures).0

pub returns-clause-gathered : goal.returns-clause-gathered
returns-clause-gathered c =
    (lex_end (kept_alone c.args.whole) c.args.text.now c.args.splices.now c.loop-at.gathering c.end_last_line.new.self c.loop-at.at c.loop-at.base c.loop-at-test.false c.loop-at.invariant.gathered c.loop-at.invariant.state c.in_ok-end_last_line.ensures).1
