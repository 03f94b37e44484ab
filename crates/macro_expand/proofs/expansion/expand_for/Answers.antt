use Rattle.std.proofs.Common.{List, map, [], ap, sym, subst, ◌∙◌, arith}
use Rattle.macro_expand.specs.declared.marked.Marked.{Marked as Kept}
use Rattle.macro_expand.specs.Seen.{marked_of}
use Rattle.macro_expand.proofs.PendingLemmas.{plain_unmarked}
use Rattle.std.proofs.lemmas.Result.{err_from_is_err_and}
use Rattle.macro_expand.specs.Answered.{expanded_for}
use Rattle.macro_expand.proofs.AnsweredLaws.{before-nothing}
use Rattle.macro_expand.proofs.LoopLaws.{keeps_tokens_step, stops_tokens_step, keeps_tokens_end}
use Rattle.macro_expand.specs.parts.Stamps.{AllStamped}
use Rattle.macro_expand.proofs.StampLaws.{plain-stamped, popped-stamped, pending-stamped}
use Rattle.macro_expand.proofs.expansion.expand_for.Goals as goal

pub loop-t-init : goal.loop-t-init
loop-t-init g c = (
  (
    [],
    (
      ap (expanded_for (g.A.Answers.answerer c.args.source.now) c.args.answers.now c.args.mode 0 c.args.work.now.left)
          (sym (ap (λ (l : List Kept). map marked_of l) c.over-pending.ensures ∙ plain_unmarked c.args.run.now))
          ∙ sym (before-nothing _),
      c.new-out.ensures.items,
    ),
  ),
  (c.new-step.ensures.items, (omega arith, ((λ k. []), subst (AllStamped (λ k. []) 1) (sym c.over-pending.ensures) (plain-stamped (λ k. []) 1 c.args.run.now)))),
)

pub loop-t-preserved : goal.loop-t-preserved
loop-t-preserved g c = (
  keeps_tokens_step (g.A.Answers.answerer c.args.source.now) c.args.mode 0 _ c.loop-t.out.items c.keep_tokens.new.out.items c.loop-t.step.items c.expand_head.new.out.items c.in-Some.t
      c.loop-t.answers c.expand_head.new.answers c.loop-t.work.left c.expand_head.new.work.left c.loop-t.pending _ c.expand_head.new.pending
      c.in-Some.ensures.first c.loop-t.invariant.1.0 c.in_ok-expand_head.ensures.ok c.in_ok-keep_tokens.ensures.ok c.loop-t.invariant.0,
  (
    c.in_ok-keep_tokens.ensures.emptied,
    (
      omega (arith, c.in_ok-expand_head.ensures.spends, c.loop-t.invariant.1.1.0),
      (let head = popped-stamped c.loop-t.stamps c.in-Some.t c.loop-t.pending c.pop.new.self c.in-Some.ensures.first c.loop-t.invariant.1.1.1 in
          pending-stamped head.0 c.loop-t.stamps c.expand_head.new.stamps c.expand_head.new.pending c.expand_head.new.out.items
          (c.in_ok-expand_head.ensures.stamped head.0 head.1.0 head.1.1 (subst (AllStamped head.0 c.loop-t.stamps) (sym c.loop-t.invariant.1.0) tt))),
    ),
  ),
)

pub returns-in_err-expand_head-clause-err : goal.returns-in_err-expand_head-clause-err
returns-in_err-expand_head-clause-err g c =
    let p = err_from_is_err_and c.from_residual.result c.from_residual.ensures.1 in
    rw (p.1, p.2)
    (stops_tokens_step (g.A.Answers.answerer c.args.source.now) c.args.mode 0 _ c.loop-t.out.items c.in-Some.t c.loop-t.answers c.expand_head.new.answers
    c.loop-t.work.left c.loop-t.pending _ _ c.in-Some.ensures.first c.in_err-expand_head.ensures.err c.loop-t.invariant.0)

pub returns-clause-ok : goal.returns-clause-ok
returns-clause-ok g c =
    rw c.of.ensures
    (keeps_tokens_end (g.A.Answers.answerer c.args.source.now) c.args.mode 0 _ c.loop-t.out.items c.loop-t.answers c.loop-t.work.left c.loop-t.pending
    c.in_default.ensures.first.0 c.loop-t.invariant.0)

pub expand_head-requires-clause-stamped : goal.expand_head-requires-clause-stamped
expand_head-requires-clause-stamped g c = popped-stamped c.loop-t.stamps c.in-Some.t c.loop-t.pending c.pop.new.self c.in-Some.ensures.first c.loop-t.invariant.1.1.1
