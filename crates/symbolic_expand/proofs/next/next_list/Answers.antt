use Rattle.std.proofs.Common.{arith, ap, ◌∙◌, sym, refl, Some}
use Rattle.std.proofs.lemmas.List.{nil_from_length}
use Rattle.symbolic_expand.specs.parts.Enumeration.{next_numbers}
use Rattle.symbolic_expand.proofs.NextLaws.{next_is, next_keeps}
use Rattle.symbolic_expand.proofs.next.next_list.Goals as goal

pub returns-then-can_rise : goal.returns-then-can_rise
returns-then-can_rise c =
    next_is c.args.taken.items c.loop-last.taken.items c.pop.new.self.items c.in-Some.last c.loop-last.invariant c.in-Some.ensures.items (c.if-can_rise.ensures.rises refl)
    ∙ ap Some (sym (rw c.as_slice.ensures.value at c.in_ok-list.ensures))

pub loop-last-preserved : goal.loop-last-preserved
loop-last-preserved c =
    next_keeps c.args.taken.items c.loop-last.taken.items c.pop.new.self.items c.in-Some.last c.loop-last.invariant c.in-Some.ensures.items (c.if-can_rise.ensures.stays refl)

pub returns : goal.returns
unfolding next_numbers
returns c =
    c.loop-last.invariant ∙ ap next_numbers (nil_from_length c.loop-last.taken.items (omega (arith, c.in_default.ensures.cases.0, c.loop-last.taken.ok.0)))
