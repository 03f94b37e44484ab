use Rattle.std.proofs.Common.{rules, Ok, List, map, length, take, drop, ◌≡◌, ◌+◌, ◌<◌, ◌∷◌, ◌++◌, [], refl, ap, sym, subst, ◌∙◌, arith}
use Rattle.std.proofs.lemmas.List.{take_all}
use Rattle.std.proofs.lemmas.Result.{err_from_is_err_and}
use Rattle.macro_expand.specs.Answered.{expanded_for, charged_for, arguments_for}
use Rattle.macro_expand.specs.declared.marked.Marked.{Marked as Kept}
use Rattle.macro_expand.specs.parts.Naming.{named_for, called_for}
use Rattle.macro_expand.specs.parts.Steps.{EachStaysFor}
use Rattle.macro_expand.specs.Seen.{marked_of, lists_of}
use Rattle.macro_expand.specs.parts.Parts.{parts_told}
use Rattle.macro_expand.proofs.AnsweredLaws.{before-nothing, before_all-nothing}
use Rattle.macro_expand.proofs.LoopLaws.{Stops-is, on_ok-map, on_ok-both, if_err-map, put_in-paid, put_in-stops, goes_on-left, goes_on-behind, goes_on-ordinary, keeps_step, stops_step, keeps_end}
use Rattle.macro_defs.specs.Runs.{run_tokens}
use Rattle.macro_expand.specs.parts.Placing.{lent_in}
use Rattle.macro_expand.specs.parts.Stamps.{Stamped, AllStamped, EachStamped, Alike, NameStamped, ArePutIn, stamp_of}
use Rattle.macro_expand.proofs.PlacingLemmas.{lent-placed}
use Rattle.macro_expand.proofs.StampLaws.{all-push, all-map, each-map, stamped-later, alike-stamped, arguments-turn, argument-stamped, stamps-turn, head-stamped, call-stamped, with-out}
use Rattle.macro_expand.proofs.NameLaws.{argument_skipped, argument_deep, argument_staying, argument_made, argument_fails, argument_stops, call_replaced, paste_stops, stands_is, turn_expanded, turn_stops, arguments_end}
use Rattle.macro_expand.proofs.expansion.+expanding.Goals as goal

pub expand_argument-returns-then-not-alone-clause-ok : goal.expand_argument-returns-then-not-alone-clause-ok
expand_argument-returns-then-not-alone-clause-ok g t c =
    argument_skipped (g.A.Answers.answerer c.args.source.now) c.args.answers.now c.args.mode c.args.depth c.args.work.now.left c.args.t.now.token c.args.alone c.args.argument.items
    c.new.result.items c.if-not-alone.true c.new.ensures.items

pub expand_argument-returns-then-depth-ge-ARGUMENT_DEPTH_LIMIT-clause-err : goal.expand_argument-returns-then-depth-ge-ARGUMENT_DEPTH_LIMIT-clause-err
expand_argument-returns-then-depth-ge-ARGUMENT_DEPTH_LIMIT-clause-err g t c =
    rw c.line.ensures (argument_deep (g.A.Answers.answerer c.args.source.now) c.args.answers.now c.args.mode c.args.depth c.args.work.now.left c.args.t.now.token c.args.alone c.args.argument.items
    c.if-not-alone.false c.if-depth-ge-ARGUMENT_DEPTH_LIMIT.true)

pub expand_argument-returns-then-stay-clause-ok : goal.expand_argument-returns-then-stay-clause-ok
expand_argument-returns-then-stay-clause-ok g t c =
    argument_staying (g.A.Answers.answerer c.args.source.now) c.args.answers.now c.args.mode c.args.depth c.args.work.now.left c.args.t.now.token c.args.alone c.args.argument.items
    c.if-not-alone.false c.if-depth-ge-ARGUMENT_DEPTH_LIMIT.false
    (subst (λ (l : List Kept). EachStaysFor (g.A.Answers.answerer c.args.source.now) c.args.mode (map marked_of l)) c.deref.ensures.value (c.stay.ensures c.if-stay.true))

pub expand_argument-returns-clause-ok : goal.expand_argument-returns-clause-ok
expand_argument-returns-clause-ok g t c =
    argument_made (g.A.Answers.answerer c.args.source.now) c.args.answers.now c.args.mode c.args.depth c.args.work.now.left c.args.t.now.token c.args.alone c.args.argument.items
    c.if-not-alone.false c.if-depth-ge-ARGUMENT_DEPTH_LIMIT.false c.args.argument.items refl c.expand_list.new.answers
    c.expand_list.new.work.left c.expand_list.result c.expand_list.ensures.ok

pub expand_argument-returns-clause-err : goal.expand_argument-returns-clause-err
expand_argument-returns-clause-err g t c =
    argument_fails (g.A.Answers.answerer c.args.source.now) c.args.answers.now c.args.mode c.args.depth c.args.work.now.left c.args.t.now.token c.args.alone c.args.argument.items
    c.if-not-alone.false c.if-depth-ge-ARGUMENT_DEPTH_LIMIT.false c.args.argument.items refl c.expand_list.new.answers
    c.expand_list.new.work.left c.expand_list.result c.expand_list.ensures.err

pub expand_arguments-loop-i-init : goal.expand_arguments-loop-i-init
expand_arguments-loop-i-init g t c =
    record {
      becomes = sym (before_all-nothing _);
      same = refl;
      spends = omega arith;
      later = omega arith;
      stamped = λ sets each. (sets, ((λ k below. refl), (tt, each)));
    }

pub expand_arguments-returns-in_err-expanded-clause-err : goal.expand_arguments-returns-in_err-expanded-clause-err
expand_arguments-returns-in_err-expanded-clause-err g t c =
    let p = err_from_is_err_and c.from_residual.result c.from_residual.ensures.1 in
    let below : c.loop-i.i < length c.args.written.items = omega (arith, c.loop-i.invariant.same) in
    rw (p.1, p.2) (turn_stops (g.A.Answers.answerer c.args.source.now) c.loop-i.answers c.args.mode c.args.depth c.args.t.now.token (parts_told c.args.call.now.parts)
    (arguments_for (g.A.Answers.answerer c.args.source.now) c.args.answers.now c.args.mode c.args.depth c.args.t.now.token (parts_told c.args.call.now.parts) 0
    c.args.work.now.left (lists_of c.args.written.items))
    (take c.loop-i.i c.loop-i.lists.items) (drop c.loop-i.i c.loop-i.lists.items) (drop (c.loop-i.i + 1) c.take_argument-argument.new.lists.items) c.loop-i.i c.loop-i.work.left
    c.take_argument-argument.result c.take_argument-argument.ensures.taken c.loop-i.invariant.becomes c.index-alone.result.now
    (stands_is c.args.call.now.alone.items (length c.args.written.items) c.loop-i.i (parts_told c.args.call.now.parts) c.index-alone.result.now c.requires.alone.0
    c.requires.alone.1 below c.index-alone.ensures)
    c.expand_argument.new.answers _ c.in_err-expanded.ensures.err)

pub expand_arguments-loop-i-preserved : goal.expand_arguments-loop-i-preserved
expand_arguments-loop-i-preserved g t c =
    let below : c.loop-i.i < length c.args.written.items = omega (arith, c.loop-i.invariant.same) in
    let taken : drop c.loop-i.i c.loop-i.lists.items ≡ c.take_argument-argument.result ∷ drop (c.loop-i.i + 1) c.put_argument.new.lists.items =
    c.take_argument-argument.ensures.taken ∙ ap (λ l. c.take_argument-argument.result ∷ l) (sym c.put_argument.ensures.behind) in
    let put : take (c.loop-i.i + 1) c.put_argument.new.lists.items ≡ take c.loop-i.i c.loop-i.lists.items ++ c.in_ok-expanded.expanded ∷ [] =
    c.put_argument.ensures.front ∙ ap (λ l. l ++ c.in_ok-expanded.expanded ∷ []) c.take_argument-argument.ensures.front in
    record {
      becomes = turn_expanded (g.A.Answers.answerer c.args.source.now) c.loop-i.answers c.args.mode c.args.depth c.args.t.now.token (parts_told c.args.call.now.parts)
          (arguments_for (g.A.Answers.answerer c.args.source.now) c.args.answers.now c.args.mode c.args.depth c.args.t.now.token (parts_told c.args.call.now.parts) 0
          c.args.work.now.left (lists_of c.args.written.items))
          (take c.loop-i.i c.loop-i.lists.items) (drop c.loop-i.i c.loop-i.lists.items) (drop (c.loop-i.i + 1) c.put_argument.new.lists.items) c.loop-i.i c.loop-i.work.left
          c.take_argument-argument.result taken c.loop-i.invariant.becomes c.index-alone.result.now
          (stands_is c.args.call.now.alone.items (length c.args.written.items) c.loop-i.i (parts_told c.args.call.now.parts) c.index-alone.result.now c.requires.alone.0
          c.requires.alone.1 below c.index-alone.ensures)
          (take (c.loop-i.i + 1) c.put_argument.new.lists.items) c.in_ok-expanded.expanded c.expand_argument.new.answers c.expand_argument.new.work.left put c.in_ok-expanded.ensures.ok;
      same = c.put_argument.ensures.same ∙ c.take_argument-argument.ensures.same ∙ c.loop-i.invariant.same;
      spends = omega (arith, c.in_ok-expanded.ensures.spends, c.loop-i.invariant.spends);
      later = omega (arith, c.in_ok-expanded.ensures.stamps, c.loop-i.invariant.later);
      stamped = λ sets each.
          arguments-turn sets c.args.stamps.now c.loop-i.stamps c.expand_argument.new.stamps c.take_argument-argument.result c.in_ok-expanded.expanded
          (take c.loop-i.i c.loop-i.lists.items) (drop c.loop-i.i c.loop-i.lists.items) (drop (c.loop-i.i + 1) c.put_argument.new.lists.items)
          (take (c.loop-i.i + 1) c.put_argument.new.lists.items) c.loop-i.invariant.later c.in_ok-expanded.ensures.stamps taken put
          (c.loop-i.invariant.stamped sets each) c.in_ok-expanded.ensures.stamped;
    }

pub expand_arguments-returns-clause-ok : goal.expand_arguments-returns-clause-ok
expand_arguments-returns-clause-ok g t c =
    arguments_end (g.A.Answers.answerer c.args.source.now) c.loop-i.answers c.args.mode c.args.depth c.args.t.now.token (parts_told c.args.call.now.parts) _
    c.loop-i.lists.items c.loop-i.i c.loop-i.work.left (omega (arith, c.loop-i.invariant.same, c.loop-i-test.false)) c.loop-i.invariant.becomes

pub expand_call-returns-in_err-expanded-clause-err : goal.expand_call-returns-in_err-expanded-clause-err
expand_call-returns-in_err-expanded-clause-err g t c =
    let p = err_from_is_err_and c.from_residual.result c.from_residual.ensures.1 in
    rw (p.1, p.2) (argument_stops (g.A.Answers.answerer c.args.source.now) c.args.answers.now c.expand_arguments.new.answers c.args.mode c.args.depth c.args.work.now.left c.args.t.now c.args.call.now
    (lists_of c.args.written.items) (map marked_of c.args.pending.now) _ c.in_err-expanded.ensures.err)

pub expand_call-returns-in_err-made-clause-err : goal.expand_call-returns-in_err-made-clause-err
expand_call-returns-in_err-made-clause-err g t c =
    let p = err_from_is_err_and c.from_residual-in_err-made.result c.from_residual-in_err-made.ensures.1 in
    rw (p.1, p.2) (paste_stops (g.A.Answers.answerer c.args.source.now) c.args.answers.now c.expand_arguments.new.answers c.args.mode c.args.depth c.args.work.now.left c.args.t.now c.args.call.now
    (lists_of c.args.written.items) (map marked_of c.args.pending.now)
    (lists_of c.in_ok-expanded.expanded.items) c.expand_arguments.new.work.left c.in_ok-expanded.ensures.ok _
    (rw c.as_slice.ensures.value at c.in_err-made.ensures.err))

pub expand_call-returns-clause-ok : goal.expand_call-returns-clause-ok
expand_call-returns-clause-ok g t c =
    on_ok-both c.put_in.result
    (put_in-paid (g.A.Answers.answerer c.args.source.now) c.args.mode c.args.depth c.expand_arguments.new.answers c.expand_arguments.new.work.left c.in_ok-made.made.items c.args.pending.now
    (called_for (g.A.Answers.answerer c.args.source.now) c.args.answers.now c.args.mode c.args.depth c.args.work.now.left c.args.t.now c.args.call.now (lists_of c.args.written.items)
    (map marked_of c.args.pending.now))
    (call_replaced (g.A.Answers.answerer c.args.source.now) c.args.answers.now c.expand_arguments.new.answers c.args.mode c.args.depth c.args.work.now.left c.args.t.now c.args.call.now
    (lists_of c.args.written.items) (map marked_of c.args.pending.now)
    (lists_of c.in_ok-expanded.expanded.items) c.expand_arguments.new.work.left c.in_ok-expanded.ensures.ok c.in_ok-made.made.items
    (rw c.as_slice.ensures.value at c.in_ok-made.ensures.ok))
    c.put_in.new.work.left c.put_in.new.pending) c.put_in.ensures.ok c.put_in.ensures.paid

pub expand_call-returns-clause-err : goal.expand_call-returns-clause-err
expand_call-returns-clause-err g t c =
    put_in-stops (g.A.Answers.answerer c.args.source.now) c.args.mode c.args.depth c.expand_arguments.new.answers c.expand_arguments.new.work.left c.in_ok-made.made.items c.args.pending.now
    (called_for (g.A.Answers.answerer c.args.source.now) c.args.answers.now c.args.mode c.args.depth c.args.work.now.left c.args.t.now c.args.call.now (lists_of c.args.written.items)
    (map marked_of c.args.pending.now))
    (call_replaced (g.A.Answers.answerer c.args.source.now) c.args.answers.now c.expand_arguments.new.answers c.args.mode c.args.depth c.args.work.now.left c.args.t.now c.args.call.now
    (lists_of c.args.written.items) (map marked_of c.args.pending.now)
    (lists_of c.in_ok-expanded.expanded.items) c.expand_arguments.new.work.left c.in_ok-expanded.ensures.ok c.in_ok-made.made.items
    (rw c.as_slice.ensures.value at c.in_ok-made.ensures.ok))
    c.put_in.result c.put_in.ensures.err

pub expand_head-returns-in-Ordinary-clause-ok : goal.expand_head-returns-in-Ordinary-clause-ok
expand_head-returns-in-Ordinary-clause-ok g t c =
    on_ok-map c.put.result (goes_on-ordinary (g.A.Answers.answerer c.args.source.now) c.args.mode c.args.depth c.args.answers.now c.args.work.now.left c.args.t c.args.out.now.items c.put.new.out.items c.args.pending.now (sym c.in-Ordinary.ensures)) c.put.ensures.ok

pub expand_list-loop-t-init : goal.expand_list-loop-t-init
expand_list-loop-t-init g t c =
    rw (c.in_ok-out.ensures.items, c.of-pending.ensures) (sym (before-nothing _), (omega arith, (omega arith, λ sets all. (sets, ((λ k below. refl), (all, tt))))))

pub expand_list-loop-t-preserved : goal.expand_list-loop-t-preserved
expand_list-loop-t-preserved g t c = (
  keeps_step (g.A.Answers.answerer c.args.source.now) c.args.mode c.args.depth
      (expanded_for (g.A.Answers.answerer c.args.source.now) c.args.answers.now c.args.mode c.args.depth c.args.work.now.left (map marked_of c.args.given.items))
      c.loop-t.out.items c.expand_head.new.out.items c.in-Some.t c.loop-t.answers c.expand_head.new.answers c.loop-t.work.left c.expand_head.new.work.left c.loop-t.pending c.pop.new.self c.expand_head.new.pending c.in-Some.ensures.first c.in_ok-expand_head.ensures.ok c.loop-t.invariant.0,
  (
    omega (arith, c.in_ok-expand_head.ensures.spends, c.loop-t.invariant.1.0),
    (
      omega (arith, c.in_ok-expand_head.ensures.stamps, c.loop-t.invariant.1.1.0),
      λ sets all.
          stamps-turn sets c.args.stamps.now c.loop-t.stamps c.expand_head.new.stamps c.in-Some.t c.loop-t.pending c.pop.new.self c.loop-t.out.items c.expand_head.new.pending
          c.expand_head.new.out.items c.loop-t.invariant.1.1.0 c.in-Some.ensures.first (c.loop-t.invariant.1.1.1 sets all) c.in_ok-expand_head.ensures.stamped,
    ),
  ),
)

pub expand_list-returns-in_err-expand_head-clause-err : goal.expand_list-returns-in_err-expand_head-clause-err
expand_list-returns-in_err-expand_head-clause-err g t c =
    let p = err_from_is_err_and c.from_residual-in_err-expand_head.result c.from_residual-in_err-expand_head.ensures.1 in
    rw (p.1, p.2) (stops_step (g.A.Answers.answerer c.args.source.now) c.args.mode c.args.depth
    (expanded_for (g.A.Answers.answerer c.args.source.now) c.args.answers.now c.args.mode c.args.depth c.args.work.now.left (map marked_of c.args.given.items))
    c.loop-t.out.items c.in-Some.t c.loop-t.answers c.expand_head.new.answers c.loop-t.work.left c.loop-t.pending c.pop.new.self _ c.in-Some.ensures.first c.in_err-expand_head.ensures.err c.loop-t.invariant.0)

pub expand_list-returns-clause-ok : goal.expand_list-returns-clause-ok
expand_list-returns-clause-ok g t c =
    keeps_end (g.A.Answers.answerer c.args.source.now) c.args.mode c.args.depth
    (expanded_for (g.A.Answers.answerer c.args.source.now) c.args.answers.now c.args.mode c.args.depth c.args.work.now.left (map marked_of c.args.given.items))
    c.loop-t.out.items c.loop-t.answers c.loop-t.work.left c.loop-t.pending c.in_default.ensures.first.0 c.loop-t.invariant.0

pub expand_name-returns-in-Itself-clause-ok : goal.expand_name-returns-in-Itself-clause-ok
expand_name-returns-in-Itself-clause-ok g t c =
    on_ok-map c.put.result
    (goes_on-left (g.A.Answers.answerer c.args.source.now) c.args.mode c.args.depth c.args.answers.now c.read_name.new.answers c.args.work.now.left c.args.t c.args.out.now.items c.put.new.out.items c.args.pending.now
    c.read_name.new.pending (c.in_ok-read_name.ensures.ok c.args.mode c.args.depth c.args.work.now.left c.requires.role
    ∙ ap (λ n. named_for (g.A.Answers.answerer c.args.source.now) c.read_name.new.answers c.args.mode c.args.depth c.args.work.now.left c.args.t n (map marked_of c.read_name.new.pending)) c.in-Itself.is)) c.put.ensures.ok

pub expand_name-returns-in-Object-clause-ok : goal.expand_name-returns-in-Object-clause-ok
expand_name-returns-in-Object-clause-ok g t c =
    on_ok-both c.put_in.result
    (λ joined paid. goes_on-behind (g.A.Answers.answerer c.args.source.now) c.args.mode c.args.depth c.args.answers.now c.read_name.new.answers c.args.work.now.left c.put_in.new.work.left c.args.t c.args.out.now.items
    c.args.pending.now c.put_in.new.pending
    (put_in-paid (g.A.Answers.answerer c.args.source.now) c.args.mode c.args.depth c.read_name.new.answers c.args.work.now.left c.in-Object.made.items c.read_name.new.pending
    (expanded_for (g.A.Answers.answerer c.args.source.now) c.args.answers.now c.args.mode c.args.depth c.args.work.now.left (marked_of c.args.t ∷ map marked_of c.args.pending.now))
    (c.in_ok-read_name.ensures.ok c.args.mode c.args.depth c.args.work.now.left c.requires.role
    ∙ ap (λ n. named_for (g.A.Answers.answerer c.args.source.now) c.read_name.new.answers c.args.mode c.args.depth c.args.work.now.left c.args.t n (map marked_of c.read_name.new.pending)) c.in-Object.is) c.put_in.new.work.left c.put_in.new.pending joined paid)) c.put_in.ensures.ok c.put_in.ensures.paid

pub expand_name-returns-in-Object-clause-err : goal.expand_name-returns-in-Object-clause-err
expand_name-returns-in-Object-clause-err g t c =
    put_in-stops (g.A.Answers.answerer c.args.source.now) c.args.mode c.args.depth c.read_name.new.answers c.args.work.now.left c.in-Object.made.items c.read_name.new.pending
    (expanded_for (g.A.Answers.answerer c.args.source.now) c.args.answers.now c.args.mode c.args.depth c.args.work.now.left (marked_of c.args.t ∷ map marked_of c.args.pending.now))
    (c.in_ok-read_name.ensures.ok c.args.mode c.args.depth c.args.work.now.left c.requires.role
    ∙ ap (λ n. named_for (g.A.Answers.answerer c.args.source.now) c.read_name.new.answers c.args.mode c.args.depth c.args.work.now.left c.args.t n (map marked_of c.read_name.new.pending)) c.in-Object.is) c.put_in.result c.put_in.ensures.err

pub expand_name-returns-in-Lent-clause-ok : goal.expand_name-returns-in-Lent-clause-ok
expand_name-returns-in-Lent-clause-ok g t c =
    on_ok-both c.put_in_lent.result
    (λ joined paid. goes_on-behind (g.A.Answers.answerer c.args.source.now) c.args.mode c.args.depth c.args.answers.now c.read_name.new.answers c.args.work.now.left c.put_in_lent.new.work.left c.args.t c.args.out.now.items
    c.args.pending.now c.put_in_lent.new.pending
    (put_in-paid (g.A.Answers.answerer c.args.source.now) c.args.mode c.args.depth c.read_name.new.answers c.args.work.now.left (lent_in c.args.t.token c.in-Lent.hidden (stamp_of c.args.stamps.now) (run_tokens c.in-Lent.body)) c.read_name.new.pending
    (expanded_for (g.A.Answers.answerer c.args.source.now) c.args.answers.now c.args.mode c.args.depth c.args.work.now.left (marked_of c.args.t ∷ map marked_of c.args.pending.now))
    (c.in_ok-read_name.ensures.ok c.args.mode c.args.depth c.args.work.now.left c.requires.role
    ∙ ap (λ n. named_for (g.A.Answers.answerer c.args.source.now) c.read_name.new.answers c.args.mode c.args.depth c.args.work.now.left c.args.t n (map marked_of c.read_name.new.pending)) c.in-Lent.is
    ∙ ap (λ ms. charged_for (g.A.Answers.answerer c.args.source.now) c.read_name.new.answers c.args.mode c.args.depth c.args.work.now.left (Ok ms) (map marked_of c.read_name.new.pending))
    (sym (lent-placed c.args.t.token c.in-Lent.hidden (stamp_of c.args.stamps.now) (run_tokens c.in-Lent.body)))) c.put_in_lent.new.work.left c.put_in_lent.new.pending joined paid)) c.put_in_lent.ensures.ok c.put_in_lent.ensures.paid

pub expand_name-returns-in-Lent-clause-err : goal.expand_name-returns-in-Lent-clause-err
expand_name-returns-in-Lent-clause-err g t c =
    put_in-stops (g.A.Answers.answerer c.args.source.now) c.args.mode c.args.depth c.read_name.new.answers c.args.work.now.left (lent_in c.args.t.token c.in-Lent.hidden (stamp_of c.args.stamps.now) (run_tokens c.in-Lent.body)) c.read_name.new.pending
    (expanded_for (g.A.Answers.answerer c.args.source.now) c.args.answers.now c.args.mode c.args.depth c.args.work.now.left (marked_of c.args.t ∷ map marked_of c.args.pending.now))
    (c.in_ok-read_name.ensures.ok c.args.mode c.args.depth c.args.work.now.left c.requires.role
    ∙ ap (λ n. named_for (g.A.Answers.answerer c.args.source.now) c.read_name.new.answers c.args.mode c.args.depth c.args.work.now.left c.args.t n (map marked_of c.read_name.new.pending)) c.in-Lent.is
    ∙ ap (λ ms. charged_for (g.A.Answers.answerer c.args.source.now) c.read_name.new.answers c.args.mode c.args.depth c.args.work.now.left (Ok ms) (map marked_of c.read_name.new.pending))
    (sym (lent-placed c.args.t.token c.in-Lent.hidden (stamp_of c.args.stamps.now) (run_tokens c.in-Lent.body)))) c.put_in_lent.result c.put_in_lent.ensures.err

pub expand_name-returns-in-Call-clause-ok : goal.expand_name-returns-in-Call-clause-ok
expand_name-returns-in-Call-clause-ok g t c =
    on_ok-map c.expand_call.result
    (λ called. goes_on-behind (g.A.Answers.answerer c.args.source.now) c.args.mode c.args.depth c.args.answers.now c.expand_call.new.answers c.args.work.now.left c.expand_call.new.work.left c.args.t c.args.out.now.items
    c.args.pending.now c.expand_call.new.pending
    ((c.in_ok-read_name.ensures.ok c.args.mode c.args.depth c.args.work.now.left c.requires.role
    ∙ ap (λ n. named_for (g.A.Answers.answerer c.args.source.now) c.read_name.new.answers c.args.mode c.args.depth c.args.work.now.left c.args.t n (map marked_of c.read_name.new.pending)) c.in-Call.is) ∙ called)) c.expand_call.ensures.ok

pub expand_name-returns-in-Call-clause-err : goal.expand_name-returns-in-Call-clause-err
expand_name-returns-in-Call-clause-err g t c =
    if_err-map c.expand_call.result
    (λ e. Stops-is e _ _ _ (c.in_ok-read_name.ensures.ok c.args.mode c.args.depth c.args.work.now.left c.requires.role
    ∙ ap (λ n. named_for (g.A.Answers.answerer c.args.source.now) c.read_name.new.answers c.args.mode c.args.depth c.args.work.now.left c.args.t n (map marked_of c.read_name.new.pending)) c.in-Call.is)) c.expand_call.ensures.err

-- What the stamps say.

pub expand_argument-returns-then-not-alone-clause-stamped : goal.expand_argument-returns-then-not-alone-clause-stamped
expand_argument-returns-then-not-alone-clause-stamped g t c sets all =
    (sets, ((λ k below. refl), (tt, subst (AllStamped sets c.args.stamps.now) (sym c.new.ensures.items) tt)))

pub expand_argument-returns-then-stay-clause-stamped : goal.expand_argument-returns-then-stay-clause-stamped
expand_argument-returns-then-stay-clause-stamped g t c sets all = (sets, ((λ k below. refl), (tt, all)))

pub expand_arguments-returns-in_err-expanded-clause-stamps : goal.expand_arguments-returns-in_err-expanded-clause-stamps
expand_arguments-returns-in_err-expanded-clause-stamps g t c = omega (arith, c.in_err-expanded.ensures.stamps, c.loop-i.invariant.later)

pub expand_arguments-returns-clause-stamps : goal.expand_arguments-returns-clause-stamps
expand_arguments-returns-clause-stamps g t c = c.loop-i.invariant.later

pub expand_arguments-returns-clause-stamped : goal.expand_arguments-returns-clause-stamped
expand_arguments-returns-clause-stamped g t c sets each =
    let st = c.loop-i.invariant.stamped sets each in
    (st.0, (st.1.0, subst (EachStamped st.0 c.loop-i.stamps) (take_all c.loop-i.i c.loop-i.lists.items (omega (arith, c.loop-i.invariant.same, c.loop-i-test.false))) st.1.1.0))

pub expand_call-call_tokens-requires-clause-alike : goal.expand_call-call_tokens-requires-clause-alike
expand_call-call_tokens-requires-clause-alike g t c =
    let given = c.requires.stamped in
    let st = c.in_ok-expanded.ensures.stamped given.0 given.1.1.0 in
    rw c.as_slice.ensures.value
    (each-map (Stamped st.0 c.expand_arguments.new.stamps) (Alike c.args.t.now)
    (λ m of_m. alike-stamped st.0 c.expand_arguments.new.stamps c.args.t.now m
    (stamped-later given.0 st.0 c.args.stamps.now c.expand_arguments.new.stamps st.1.0 c.in_ok-expanded.ensures.stamps c.args.t.now given.1.0) of_m)
    c.in_ok-expanded.expanded.items st.1.1)

pub expand_call-returns-clause-stamped : goal.expand_call-returns-clause-stamped
expand_call-returns-clause-stamped g t c sets of_t each close pending =
    let st = c.in_ok-expanded.ensures.stamped sets each in
    let s1 = c.expand_arguments.new.stamps in
    on_ok-map c.put_in.result (call-stamped sets c.args.stamps.now s1 c.put_in.new.stamps c.put_in.new.pending c.in_ok-expanded.ensures.stamps (st.0, st.1.0))
    (c.put_in.ensures.stamped st.0 (subst (λ n. ArePutIn n c.in_ok-made.made.items) c.stamp_of.ensures c.in_ok-made.ensures.fresh)
    (all-map (Stamped sets c.args.stamps.now) (Stamped st.0 s1) (stamped-later sets st.0 c.args.stamps.now s1 st.1.0 c.in_ok-expanded.ensures.stamps) c.args.pending.now pending))

pub expand_head-returns-in-Ordinary-clause-stamped : goal.expand_head-returns-in-Ordinary-clause-stamped
expand_head-returns-in-Ordinary-clause-stamped g t c sets of_t pending out =
    on_ok-map c.put.result
    (λ e. (sets, ((λ k below. refl), (pending, subst (AllStamped sets c.args.stamps.now) (sym e) (all-push (Stamped sets c.args.stamps.now) c.args.out.now.items c.args.t out of_t)))))
    c.put.ensures.ok

pub expand_head-returns-in-Defined-clause-stamped : goal.expand_head-returns-in-Defined-clause-stamped
expand_head-returns-in-Defined-clause-stamped g t c sets of_t pending out =
    on_ok-map c.expand_defined.result (λ p. (sets, ((λ k below. refl), p))) (c.expand_defined.ensures.stamped sets c.args.stamps.now of_t pending out)

pub expand_head-returns-in-FileName-clause-stamped : goal.expand_head-returns-in-FileName-clause-stamped
expand_head-returns-in-FileName-clause-stamped g t c sets of_t pending out =
    on_ok-map c.expand_file_name.result (λ p. (sets, ((λ k below. refl), (subst (AllStamped sets c.args.stamps.now) (sym c.expand_file_name.ensures.pending) pending, p))))
    (c.expand_file_name.ensures.stamped sets c.args.stamps.now of_t out)

pub expand_head-returns-in-LineNumber-clause-stamped : goal.expand_head-returns-in-LineNumber-clause-stamped
expand_head-returns-in-LineNumber-clause-stamped g t c sets of_t pending out =
    on_ok-map c.expand_line_number.result (λ p. (sets, ((λ k below. refl), (subst (AllStamped sets c.args.stamps.now) (sym c.expand_line_number.ensures.pending) pending, p))))
    (c.expand_line_number.ensures.stamped sets c.args.stamps.now of_t out)

pub expand_list-returns-in_err-expand_head-clause-stamps : goal.expand_list-returns-in_err-expand_head-clause-stamps
expand_list-returns-in_err-expand_head-clause-stamps g t c = omega (arith, c.in_err-expand_head.ensures.stamps, c.loop-t.invariant.1.1.0)

pub expand_list-returns-clause-stamps : goal.expand_list-returns-clause-stamps
expand_list-returns-clause-stamps g t c = c.loop-t.invariant.1.1.0

pub expand_list-returns-clause-stamped : goal.expand_list-returns-clause-stamped
expand_list-returns-clause-stamped g t c sets all =
    let st = c.loop-t.invariant.1.1.1 sets all in
    (st.0, (st.1.0, (tt, st.1.1.1)))

pub expand_name-returns-in-Itself-clause-stamped : goal.expand_name-returns-in-Itself-clause-stamped
expand_name-returns-in-Itself-clause-stamped g t c sets of_t pending out =
    let read = c.in_ok-read_name.ensures.stamped sets c.args.stamps.now pending in
    on_ok-map c.put.result
    (λ e. (sets, ((λ k below. refl), (read.0, subst (AllStamped sets c.args.stamps.now) (sym e) (all-push (Stamped sets c.args.stamps.now) c.args.out.now.items c.args.t out of_t)))))
    c.put.ensures.ok

pub expand_name-returns-in-Object-clause-stamped : goal.expand_name-returns-in-Object-clause-stamped
expand_name-returns-in-Object-clause-stamped g t c sets of_t pending out =
    let read = c.in_ok-read_name.ensures.stamped sets c.args.stamps.now pending in
    let made = subst (NameStamped sets c.args.stamps.now c.stamp_of.result) c.in-Object.is read.1 in
    on_ok-map c.put_in.result (with-out sets c.args.stamps.now c.put_in.new.stamps c.put_in.new.pending c.args.out.now.items c.put_in.ensures.stamps out)
    (c.put_in.ensures.stamped sets (subst (λ n. ArePutIn n c.in-Object.made.items) c.stamp_of.ensures made) read.0)

pub expand_name-returns-in-Lent-clause-stamped : goal.expand_name-returns-in-Lent-clause-stamped
expand_name-returns-in-Lent-clause-stamped g t c sets of_t pending out =
    let read = c.in_ok-read_name.ensures.stamped sets c.args.stamps.now pending in
    on_ok-map c.put_in_lent.result (with-out sets c.args.stamps.now c.put_in_lent.new.stamps c.put_in_lent.new.pending c.args.out.now.items c.put_in_lent.ensures.stamps out)
    (c.put_in_lent.ensures.stamped sets read.0)

pub expand_name-returns-in-Call-clause-stamped : goal.expand_name-returns-in-Call-clause-stamped
expand_name-returns-in-Call-clause-stamped g t c sets of_t pending out =
    let read = c.in_ok-read_name.ensures.stamped sets c.args.stamps.now pending in
    let call = subst (NameStamped sets c.args.stamps.now c.stamp_of.result) c.in-Call.is read.1 in
    on_ok-map c.expand_call.result (with-out sets c.args.stamps.now c.expand_call.new.stamps c.expand_call.new.pending c.args.out.now.items c.expand_call.ensures.stamps out)
    (c.expand_call.ensures.stamped sets of_t call.0 call.1 read.0)

pub expand_list-expand_head-requires : goal.expand_list-expand_head-requires
expand_list-expand_head-requires g t c = λ κs lives. (
  search rules,
  (
    lives.0,
    (
      lives.1,
      (
        c.requires.shallow,
        head-stamped c.requires.stamped.0 c.args.stamps.now c.loop-t.stamps c.in-Some.t c.loop-t.pending c.pop.new.self c.loop-t.out.items c.in-Some.ensures.first
            (c.loop-t.invariant.1.1.1 c.requires.stamped.0 c.requires.stamped.1),
      ),
    ),
  ),
)

pub expand_arguments-expand_argument-requires : goal.expand_arguments-expand_argument-requires
expand_arguments-expand_argument-requires g t c = λ κs lives. (
  search rules,
  (
    lives.0,
    (
      lives.1,
      (
        c.requires.shallow,
        argument-stamped c.requires.stamped.0 c.args.stamps.now c.loop-i.stamps c.take_argument-argument.result (take c.loop-i.i c.loop-i.lists.items) (drop c.loop-i.i c.loop-i.lists.items)
            (drop (c.loop-i.i + 1) c.take_argument-argument.new.lists.items) c.take_argument-argument.ensures.taken (c.loop-i.invariant.stamped c.requires.stamped.0 c.requires.stamped.1),
      ),
    ),
  ),
)

pub expand_name-expand_call-requires : goal.expand_name-expand_call-requires
expand_name-expand_call-requires g t c = λ κs lives. (
  search rules,
  (
    lives.0,
    (
      lives.1,
      (
        let read = c.in_ok-read_name.ensures.stamped c.requires.stamped.0 c.args.stamps.now c.requires.stamped.1.1 in
            let call = subst (NameStamped c.requires.stamped.0 c.args.stamps.now c.stamp_of.result) c.in-Call.is read.1 in
            (c.requires.stamped.0, (c.requires.stamped.1.0, call)),
        (c.requires.shallow, search rules),
      ),
    ),
  ),
)
