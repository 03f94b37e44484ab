use Rattle.std.proofs.Common.{rules, arith, Some, sym, ap, ◌∙◌}
use Rattle.std.proofs.lemmas.Str.Pattern.{split_parts}
use Rattle.run_words.specs.Asked.{numbers_in}
use Rattle.run_words.proofs.Parts.{parts, numbers_behind, number-at, none-at, last-number, last-none}
use Rattle.run_words.proofs.order.numbers_in.Goals as goal

pub returns-in_default-number_in : goal.returns-in_default-number_in
returns-in_default-number_in c =
    let cut = rw c.in-Some.is at (split_parts 44 c.loop-part.rest.now c.split_once.result c.split_once.ensures.cases (omega arith)) in
    sym (c.loop-part.invariant.read ∙ none-at c.loop-part.numbers.items c.loop-part.rest.now c.in-Some.part.now c.in-Some.behind.now cut.0 cut.1 c.in_default-number_in.ensures.number)

pub loop-part-preserved : goal.loop-part-preserved
loop-part-preserved c =
    let cut = rw c.in-Some.is at (split_parts 44 c.loop-part.rest.now c.split_once.result c.split_once.ensures.cases (omega arith)) in
    record {
      text = search rules;
      read =
          c.loop-part.invariant.read
          ∙ number-at c.loop-part.numbers.items c.loop-part.rest.now c.in-Some.part.now c.in-Some.behind.now c.in-Some-number_in.number cut.0 cut.1 c.in-Some-number_in.ensures.number
          ∙ ap (λ before. numbers_behind before (numbers_in (parts c.in-Some.behind.now))) (sym c.in_ok-push.ensures.items);
    }

pub returns-in_default-number_in-2 : goal.returns-in_default-number_in-2
returns-in_default-number_in-2 c =
    let lacks = rw c.in_default.is at (split_parts 44 c.loop-part.rest.now c.split_once.result c.split_once.ensures.cases (omega arith)) in
    sym (c.loop-part.invariant.read ∙ last-none c.loop-part.numbers.items c.loop-part.rest.now lacks c.in_default-number_in-2.ensures.number)

pub returns : goal.returns
returns c =
    let lacks = rw c.in_default.is at (split_parts 44 c.loop-part.rest.now c.split_once.result c.split_once.ensures.cases (omega arith)) in
    ap (λ numbers. Some numbers) c.in_ok-push-2.ensures.items
    ∙ sym (c.loop-part.invariant.read ∙ last-number c.loop-part.numbers.items c.loop-part.rest.now c.in-Some-number_in-2.number lacks c.in-Some-number_in-2.ensures.number)
