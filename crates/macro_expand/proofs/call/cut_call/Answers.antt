use Rattle.std.proofs.Common.{◌∙◌, sym, ap, subst, map, List, arith}
use Rattle.macro_expand.specs.declared.marked.Marked.{Marked as Kept}
use Rattle.macro_expand.specs.parts.Reading.{ends_call, nesting_after}
use Rattle.macro_expand.specs.parts.Stamps.{Stamped, AllStamped}
use Rattle.macro_expand.specs.Seen.{marked_of}
use Rattle.macro_expand.proofs.CallLaws.{ReadSoFar, read-goes_on, read-ended, read-unended}
use Rattle.macro_expand.proofs.call.cut_call.Goals as goal

pub returns-then-is_end-clause-ok : goal.returns-then-is_end-clause-ok
returns-then-is_end-clause-ok c =
    let ts = map marked_of c.args.pending.now in
    let cutting = c.loop-t.cutting in
    read-ended c.args.cuts ts cutting c.in-Some.t (map marked_of c.pop.new.self)
    (subst (λ (l : List Kept). ReadSoFar c.args.cuts ts cutting (map marked_of l)) c.in-Some.ensures.first c.loop-t.invariant.reads)
    (ap (ends_call cutting.nesting) (sym c.mark_of-mark.ensures) ∙ sym c.is_end.ensures ∙ c.if-is_end.true)
    c.in_ok-ended.field-0 c.in_ok-ended.ensures.pieces c.in_ok-ended.ensures.close

pub loop-t-preserved : goal.loop-t-preserved
loop-t-preserved c =
    let ts = map marked_of c.args.pending.now in
    let cutting = c.loop-t.cutting in
    record {
      reads = read-goes_on c.args.cuts ts cutting c.in-Some.t (map marked_of c.pop.new.self)
          (subst (λ (l : List Kept). ReadSoFar c.args.cuts ts cutting (map marked_of l)) c.in-Some.ensures.first c.loop-t.invariant.reads)
          (ap (ends_call cutting.nesting) (sym c.mark_of-mark.ensures) ∙ sym c.is_end.ensures ∙ c.if-is_end.false)
          c.take.new.self c.in_ok-take.ensures.ok (c.in_ok-take.ensures.nesting ∙ ap (nesting_after cutting.nesting) c.mark_of-mark.ensures);
      deep = c.in_ok-take.ensures.deep;
      shorter = omega (arith, c.in-Some.ensures.len);
      stamped = λ sets next all.
          (let have = c.loop-t.invariant.stamped sets next all in
          let popped = subst (AllStamped sets next) c.in-Some.ensures.first have.1 in
          (c.in_ok-take.ensures.stamped sets next have.0 popped.0, popped.1));
    }

pub returns-clause-ok : goal.returns-clause-ok
returns-clause-ok c =
    let ts = map marked_of c.args.pending.now in
    read-unended c.args.cuts ts c.loop-t.cutting
    (subst (λ (l : List Kept). ReadSoFar c.args.cuts ts c.loop-t.cutting (map marked_of l)) c.in_default.ensures.first.0 c.loop-t.invariant.reads)

pub returns-then-is_end-clause-stamped : goal.returns-then-is_end-clause-stamped
returns-then-is_end-clause-stamped c sets next all =
    let have = c.loop-t.invariant.stamped sets next all in
    let popped = subst (AllStamped sets next) c.in-Some.ensures.first have.1 in
    (popped.1, (c.in_ok-ended.ensures.stamped sets next have.0, subst (Stamped sets next) (sym c.in_ok-ended.ensures.close) popped.0))
