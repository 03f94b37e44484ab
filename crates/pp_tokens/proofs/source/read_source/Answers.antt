use Rattle.std.proofs.Common.{◌≡◌, ◌≤◌, ◌<◌, ◌+◌, ◌-◌, ◌==◌, Bool, true, ℕ, List, ◌∷◌, ◌++◌, [], length, drop, take, refl, sym, ◌∙◌, ap, subst, arith, length-append}
use Rattle.std.proofs.lemmas.Bool.{eqb-true, eqb-false}
use Rattle.std.proofs.lemmas.List.{append-nil, drop-drop, drop_all, take_all, length-take-le}
use Rattle.pp_tokens.specs.declared.source.Piece.{Piece}
use Rattle.pp_tokens.specs.declared.source.Piece.TheVariants.{Byte, Splice}
use Rattle.pp_tokens.specs.Phases.{newline_ended, source_text}
use Rattle.pp_tokens.specs.Lined.{Rising, lined}
use Rattle.pp_tokens.specs.parts.Seen.{Ascends}
use Rattle.pp_tokens.specs.parts.Gathered.{newlines}
use Rattle.pp_tokens.specs.parts.Pieces.{ends_line, FrontStays, IsFront}
use Rattle.pp_tokens.proofs.LastNewlines.{lines_in, ended_lines, lines_shorter}
use Rattle.pp_tokens.proofs.LinedText.{rising}
use Rattle.pp_tokens.proofs.Places.{ascends_more, ascends_line}
use Rattle.pp_tokens.proofs.ShortParts.{newlines_both}
use Rattle.pp_tokens.proofs.SourceSteps.{SourceState, line_now, source_start, source_front, source_byte, source_splice, source_done, empty_source, rest_lines}
use Rattle.pp_tokens.proofs.source.read_source.Goals as goal
use Rattle.pp_tokens.proofs.source.read_source.Goals.{in-Byte, in-Splice+in_ok-push-in-Splice}

-- a body without bytes is its text
unread : (trigraphs : Bool) (body : List ℕ) → length body ≡ 0 → lined [] 0 1 body ≡ source_text trigraphs body
unread trigraphs [] none = empty_source trigraphs [] none
unread trigraphs (b ∷ bs) none = absurd (omega arith)

pub returns-then-is_empty-clause-source : goal.returns-then-is_empty-clause-source
returns-then-is_empty-clause-source c =
    let none : length c.args.body.items ≡ 0 = sym c.args.body.ok.0 ∙ eqb-true _ 0 (sym c.is_empty.ensures ∙ c.if-is_empty.true) in
    rw c.new-splices.ensures.items (unread c.args.trigraphs c.args.body.items none)

none_rises : Rising 0 []
unfolding Rising
none_rises = tt

pub returns-then-is_empty-clause-rising : goal.returns-then-is_empty-clause-rising
returns-then-is_empty-clause-rising c = rw c.new-splices.ensures.items none_rises

none_ascends : Ascends 0 [] 0
unfolding Ascends
none_ascends = omega arith

pub loop-at-init : goal.loop-at-init
loop-at-init c =
    let body = c.args.body.items in
    let some : 0 < length body = omega (arith, eqb-false _ 0 (sym c.is_empty.ensures ∙ c.if-is_empty.false), c.args.body.ok.0) in
    let text : c.end_last_line.new.body.items ≡ newline_ended body = c.in_ok-end_last_line.ensures in
    let splices : c.new-splices.result.items ≡ [] = c.new-splices.ensures.items in
    let longer : length (newline_ended body) ≡ length (lines_in body) + 1 = ap length (ended_lines body some) ∙ length-append (lines_in body) (10 ∷ []) in
    record {
      size = ap length text;
      left = text;
      within = omega arith;
      small = rw splices (omega arith);
      ascends = rw splices none_ascends;
      last = λ past. absurd (omega (arith, past, longer));
      state = rw splices (subst (SourceState c.args.trigraphs body [] []) (sym (ended_lines body some)) (source_start c.args.trigraphs body (lines_in body) (ended_lines body some)));
    }

-- what stands from a place on is the same from a later one on
later : (xs ys : List ℕ) (at k : ℕ) → at ≤ k → drop at xs ≡ drop at ys → drop k xs ≡ drop k ys
later xs ys at k before same =
    let is : at + (k - at) ≡ k = omega arith in
    ap (λ j. drop j xs) (sym is) ∙ sym (drop-drop (k - at) at xs) ∙ ap (drop (k - at)) same ∙ drop-drop (k - at) at ys ∙ ap (λ j. drop j ys) is

-- a list that was written over as a whole
written : (n : ℕ) (new old : List ℕ) → length new ≡ n → length old ≡ n → take n (new ++ drop (length new) old) ≡ new
written n new old size same =
    let none : drop (length new) old ≡ [] = drop_all (length new) old (omega (arith, size, same)) in
    ap (λ (l : List ℕ). take n (new ++ l)) none ∙ ap (take n) (append-nil new) ∙ take_all n new (omega (arith, size))

longer_by_one : (body : List ℕ) → length (newline_ended body) ≤ length body + 1
unfolding newline_ended
longer_by_one [] = omega arith
longer_by_one (b ∷ bs) =
    omega (arith, ap length (ended_lines (b ∷ bs) (omega arith)), length-append (lines_in (b ∷ bs)) (10 ∷ []), lines_shorter (b ∷ bs))

pub loop-at-preserved : goal.loop-at-preserved
loop-at-preserved c =
    let trigraphs = c.args.trigraphs in
    let body = c.args.body.items in
    let whole = newline_ended body in
    let lines = lines_in body in
    let some : 0 < length body = omega (arith, eqb-false _ 0 (sym c.is_empty.ensures ∙ c.if-is_empty.false), c.args.body.ok.0) in
    let text = c.loop-at.text.items in
    let splices = c.loop-at.splices.items in
    let at = c.loop-at.at in
    let to = c.loop-at.to in
    let run = c.front_of-run.result.run in
    let n = c.front_of-run.result.length in
    let piece = c.front_of-run.result.piece in
    let before : at < length whole = omega (arith, c.loop-at-test.true, c.len.ensures, c.loop-at.text.ok.0, c.loop-at.invariant.size) in
    let rest : c.split_at.result.1.now ≡ drop at whole = c.split_at.ensures.back ∙ ap (drop at) c.deref.ensures.value ∙ c.loop-at.invariant.left in
    let ended : c.split_at.result.1.now ≡ drop at lines ++ (10 ∷ []) = rest ∙ rest_lines whole lines at (ended_lines body some) before in
    let left : length c.split_at.result.1.now + at ≡ length whole = c.split_at.ensures.back_len ∙ ap length c.deref.ensures.value ∙ c.loop-at.invariant.size in
    let fits : run + n ≤ length c.split_at.result.1.now = c.front_of-run.ensures.within in
    let moves : 0 < n = c.front_of-run.ensures.moves in
    let below : to ≤ at = omega (arith, c.loop-at.invariant.small) in
    let moved = c.move_down.new.text in
    let held : c.deref_mut.result.now ≡ text = c.deref_mut.ensures.value in
    let front : take (to + run) moved ≡ take to text ++ take run (drop at whole) =
    c.move_down.ensures.front ∙ ap (λ (l : List ℕ). take to l ++ take run (drop at l)) held ∙ ap (λ (l : List ℕ). take to text ++ take run l) c.loop-at.invariant.left in
    let behind : drop (at + run) moved ≡ drop (at + run) whole =
    c.move_down.ensures.behind ∙ ap (drop (at + run)) held ∙ later text whole at (at + run) (omega arith) c.loop-at.invariant.left in
    let size : length moved ≡ length whole = c.move_down.ensures.size ∙ ap length held ∙ c.loop-at.invariant.size in
    let len : length whole ≡ c.loop-at.text.len = sym c.loop-at.invariant.size ∙ sym c.loop-at.text.ok.0 in
    let over : take c.loop-at.text.len (moved ++ drop (length moved) text) ≡ moved = written c.loop-at.text.len moved text (size ∙ len) (c.loop-at.invariant.size ∙ len) in
    let room : to + run < length moved = omega (arith, size, fits, moves, left, below) in
    let ascends : Ascends 0 splices (to + run) = ascends_more 0 splices to (to + run) (omega arith) c.loop-at.invariant.ascends in
    let stays : FrontStays trigraphs (drop at whole) run = subst (λ (l : List ℕ). FrontStays trigraphs l run) rest (c.front_of-run.ensures.run (drop at lines) ended) in
    let state : SourceState trigraphs body (take (to + run) moved) splices (drop run (drop at whole)) =
    subst (λ (t : List ℕ). SourceState trigraphs body t splices (drop run (drop at whole))) (sym front)
    (source_front trigraphs body (take to text) splices (drop at whole) run
    (subst (Ascends 0 splices) (sym (length-take-le to text (omega (arith, below, before, c.loop-at.invariant.size)))) c.loop-at.invariant.ascends) stays c.loop-at.invariant.state) in
    let size_of : length (take (to + run) moved) ≡ to + run = length-take-le (to + run) moved (omega (arith, room)) in
    let ascends' : Ascends 0 splices (length (take (to + run) moved)) = subst (Ascends 0 splices) (sym size_of) ascends in
    let line = line_now (take (to + run) moved) splices in
    let is_front : IsFront trigraphs line (drop run (drop at whole)) piece n =
    subst (λ (l : List ℕ). IsFront trigraphs line (drop run l) piece n) rest (c.front_of-run.ensures.front (drop at lines) line ended) in
    let next : drop n (drop run (drop at whole)) ≡ drop (at + (run + n)) whole = drop-drop n run (drop at whole) ∙ drop-drop (run + n) at whole in
    let feeds : at + (run + n) ≡ length whole → ends_line piece ≡ true = (λ past. c.front_of-run.ensures.last (omega (arith, past, left))) in
    elim c.match-piece.branch [
      | in-Byte w ↦
          (let b = w.in-Byte.byte in
          let put = w.put.new.text in
          let on : w.deref_mut-in-Byte.result.now ≡ moved = w.deref_mut-in-Byte.ensures.value ∙ over in
          let kept : length put ≡ length whole = w.put.ensures.size ∙ ap length on ∙ size in
          let now : c.match-piece.text.items ≡ put =
          rw w.text-is (written c.loop-at.text.len put (take c.loop-at.text.len (moved ++ drop (length moved) text)) (kept ∙ len) (ap length over ∙ size ∙ len)) in
          let taken : take (to + run + 1) put ≡ take (to + run) moved ++ (b ∷ []) = w.put.ensures.front ∙ ap (λ (l : List ℕ). take (to + run) l ++ (b ∷ [])) on in
          let byte : IsFront trigraphs line (drop run (drop at whole)) (Byte b) n = subst (λ (p : Piece). IsFront trigraphs line (drop run (drop at whole)) p n) w.in-Byte.is is_front in
          let one : newlines ((take (to + run) moved) ++ (b ∷ [])) ≡ newlines (take (to + run) moved) + newlines (b ∷ []) = newlines_both (take (to + run) moved) (b ∷ []) in
          record {
            size = rw now kept;
            left = rw now (w.put.ensures.behind (at + (run + n)) (omega (arith, below, moves)) ∙ ap (drop (at + (run + n))) on ∙ later moved whole (at + run) (at + (run + n)) (omega arith) behind);
            within = omega (arith, fits, left);
            small = rw (w.to-is, w.splices-is) (omega (arith, c.loop-at.invariant.small, moves));
            ascends = rw (w.to-is, w.splices-is) (ascends_more 0 splices (to + run) (to + run + 1) (omega arith) ascends);
            last = λ past.
                rw (w.to-is, w.splices-is, now, taken)
                (let feed : (b == 10) ≡ true = subst (λ (p : Piece). ends_line p ≡ true) w.in-Byte.is (feeds past) in
                let counts : newlines (b ∷ []) ≡ 1 = rw feed refl in
                omega (arith, one, counts));
            state = rw (w.to-is, w.splices-is, now, taken, ← next) (source_byte trigraphs body (take (to + run) moved) splices (drop run (drop at whole)) b n ascends' byte state);
          })
      | in-Splice+in_ok-push-in-Splice w ↦
          (let now : c.match-piece.text.items ≡ moved = rw w.text-is over in
          let splice : IsFront trigraphs line (drop run (drop at whole)) Splice n = subst (λ (p : Piece). IsFront trigraphs line (drop run (drop at whole)) p n) w.in-Splice.is is_front in
          let longer : c.match-piece.splices.items ≡ splices ++ ((to + run) ∷ []) = rw w.splices-is w.in_ok-push-in-Splice.ensures.items in
          let grown : length (splices ++ ((to + run) ∷ [])) ≡ length splices + 1 = length-append splices ((to + run) ∷ []) in
          record {
            size = rw now size;
            left = rw now (later moved whole (at + run) (at + (run + n)) (omega arith) behind);
            within = omega (arith, fits, left);
            small = rw (w.to-is, longer) (omega (arith, grown, c.loop-at.invariant.small, moves));
            ascends = rw (w.to-is, longer) (ascends_line 0 splices (to + run) ascends);
            last = λ past. rw longer (omega (arith, grown));
            state = rw (w.to-is, longer, now, ← next)
                (subst (λ k. SourceState trigraphs body (take (to + run) moved) (splices ++ (k ∷ [])) (drop n (drop run (drop at whole)))) size_of
                (source_splice trigraphs body (take (to + run) moved) splices (drop run (drop at whole)) n splice state));
          })
    ]

pub overflow_cast-to : goal.overflow_cast-to
overflow_cast-to c =
    omega (
      arith,
      c.loop-at-test.true,
      c.len.ensures,
      c.loop-at.text.ok.0,
      c.loop-at.invariant.size,
      c.loop-at.invariant.small,
      c.front_of-run.ensures.within,
      c.front_of-run.ensures.moves,
      c.split_at.ensures.back_len,
      ap length c.deref.ensures.value,
      longer_by_one c.args.body.items,
      c.requires,
    )

pub returns-clause-source : goal.returns-clause-source
returns-clause-source c =
    rw c.truncate.ensures.items
    (source_done c.args.trigraphs c.args.body.items (take c.loop-at.to c.loop-at.text.items) c.loop-at.splices.items (drop c.loop-at.at (newline_ended c.args.body.items))
    (drop_all c.loop-at.at (newline_ended c.args.body.items) (omega (arith, c.loop-at-test.false, c.len.ensures, c.loop-at.text.ok.0, c.loop-at.invariant.size))) c.loop-at.invariant.state)

pub returns-clause-rising : goal.returns-clause-rising
returns-clause-rising c = rising 0 c.loop-at.splices.items c.loop-at.to c.loop-at.invariant.ascends

kept_length : (c : goal.After-truncate) → length (take c.loop-at.to c.loop-at.text.items) ≡ c.loop-at.to
kept_length c = length-take-le c.loop-at.to c.loop-at.text.items (omega (arith, c.loop-at.invariant.small, c.loop-at.invariant.within, c.loop-at.invariant.size))

pub returns-clause-small : goal.returns-clause-small
returns-clause-small c =
    let at_most : length (take c.loop-at.to c.loop-at.text.items) ≡ c.loop-at.to = kept_length c in
    rw c.truncate.ensures.items (omega (arith, at_most, c.loop-at.invariant.small, c.loop-at.invariant.within, longer_by_one c.args.body.items, c.requires))

pub returns-clause-short : goal.returns-clause-short
returns-clause-short c =
    let at_most : length (take c.loop-at.to c.loop-at.text.items) ≡ c.loop-at.to = kept_length c in
    let last = c.loop-at.invariant.last (omega (arith, c.loop-at-test.false, c.len.ensures, c.loop-at.text.ok.0, c.loop-at.invariant.size, c.loop-at.invariant.within)) in
    rw c.truncate.ensures.items (omega (arith, at_most, last, c.loop-at.invariant.small, c.loop-at.invariant.within, longer_by_one c.args.body.items, c.requires))
