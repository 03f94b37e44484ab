use Rattle.std.proofs.Common.{None, Some, refl, sym, ap, ◌∙◌}
use Rattle.std.specs.Option.{option_map}
use Rattle.std.proofs.lemmas.Bool.{not-false, not-true}
use Rattle.run_words.specs.parts.Flagged.{given_by}
use Rattle.run_words.proofs.AllWords.{few-words, other-command, behind-command}
use Rattle.run_words.proofs.asked.asked_in.Goals as goal

pub returns-in_default-clause-asked : goal.returns-in_default-clause-asked
returns-in_default-clause-asked c = few-words c.args.ends (λ word. word.now) c.args.words.now c.in_default.len_below

pub returns-then-ne-clause-asked : goal.returns-then-ne-clause-asked
returns-then-ne-clause-asked c = other-command c.args.ends (λ word. word.now) _ c.args.words.now c.in-len2-up.len_at_least (not-true _ (sym c.if-ne.ensures))

pub returns-in_default-2-clause-asked : goal.returns-in_default-2-clause-asked
returns-in_default-2-clause-asked c =
    behind-command c.args.ends (λ word. word.now) _ _ c.args.words.now c.in-len2-up.len_at_least None _ (not-false _ (sym c.if-ne.ensures))
    (sym (ap (λ o. option_map (λ order. order.items) o) c.in_default-2.is) ∙ c.in_ok-order.ensures) refl

pub returns-in_default-3-clause-asked : goal.returns-in_default-3-clause-asked
returns-in_default-3-clause-asked c =
    behind-command c.args.ends (λ word. word.now) _ _ c.args.words.now c.in-len2-up.len_at_least (Some c.in-Some.order.items) None (not-false _ (sym c.if-ne.ensures))
    (sym (ap (λ o. option_map (λ order. order.items) o) c.in-Some.is) ∙ c.in_ok-order.ensures)
    (sym (ap (λ o. option_map given_by o) c.in_default-3.is) ∙ c.in_ok-flags.ensures.flags)

pub returns-clause-asked : goal.returns-clause-asked
returns-clause-asked c =
    c.asked_by.ensures.asked
    ∙ behind-command c.args.ends (λ word. word.now) _ _ c.args.words.now c.in-len2-up.len_at_least (Some c.in-Some.order.items) (Some (given_by c.in-Some-2.flags)) (not-false _ (sym c.if-ne.ensures))
    (sym (ap (λ o. option_map (λ order. order.items) o) c.in-Some.is) ∙ c.in_ok-order.ensures)
    (sym (ap (λ o. option_map given_by o) c.in-Some-2.is) ∙ c.in_ok-flags.ensures.flags)
