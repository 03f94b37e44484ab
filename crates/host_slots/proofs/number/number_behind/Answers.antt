use Rattle.std.proofs.Common.{◌+◌, drop, sym, ap, ◌∙◌, arith}
use Rattle.std.proofs.lemmas.List.{drop_more, drop_all}
use Rattle.host_slots.specs.parts.Numbers.{number_behind}
use Rattle.host_slots.proofs.Digits.{behind-some, behind-none, behind-end}
use Rattle.host_slots.proofs.number.number_behind.Goals as goal

pub returns-in_err-n-clause-number : goal.returns-in_err-n-clause-number
returns-in_err-n-clause-number c =
    c.from_residual.ensures
    ∙ sym (
    c.loop-b.invariant.read
    ∙ ap (number_behind c.args.most c.loop-b.n) (drop_more c.args.digits.now c.loop-b.b-index 0 c.loop-b-test.true)
    ∙ behind-none c.args.most c.loop-b.n _ (drop (c.loop-b.b-index + 1) c.args.digits.now) (sym c.in_err-n.ensures.number)
    )

pub loop-b-preserved : goal.loop-b-preserved
loop-b-preserved c = record {
  read =
      c.loop-b.invariant.read
      ∙ ap (number_behind c.args.most c.loop-b.n) (drop_more c.args.digits.now c.loop-b.b-index 0 c.loop-b-test.true)
      ∙ behind-some c.args.most c.loop-b.n _ c.in_ok-n.n (drop (c.loop-b.b-index + 1) c.args.digits.now) (sym c.in_ok-n.ensures.number);
  later = omega (arith, c.loop-b.invariant.later, c.in_ok-n.ensures.later);
  within = omega (arith, c.in_ok-n.ensures.later);
}

pub returns-clause-number : goal.returns-clause-number
returns-clause-number c =
    sym (
    c.loop-b.invariant.read
    ∙ ap (number_behind c.args.most c.loop-b.n) (drop_all c.loop-b.b-index c.args.digits.now c.loop-b-test.false)
    ∙ behind-end c.args.most c.loop-b.n c.loop-b.invariant.within
    )
