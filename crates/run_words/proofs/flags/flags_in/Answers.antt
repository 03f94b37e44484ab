use Rattle.std.proofs.Common.{sym, ap, ◌∙◌}
use Rattle.std.specs.Option.{option_map}
use Rattle.run_words.specs.parts.Flagged.{given_by}
use Rattle.run_words.proofs.Pairs.{more-flags, no-flags}
use Rattle.run_words.proofs.flags.flags_in.Goals as goal

pub returns-in-Ok-None-clause-flags : goal.returns-in-Ok-None-clause-flags
returns-in-Ok-None-clause-flags c =
    no-flags (λ word. word.now) _ _ c.loop-rest.rest.now (given_by c.loop-rest.flags) _ c.in-len2-up.len_at_least c.loop-rest.invariant.given
    (sym (ap (λ o. option_map given_by o) c.in-Ok-None.field-0-is) ∙ c.in-Ok-None.ensures.flags)

pub loop-rest-preserved : goal.loop-rest-preserved
loop-rest-preserved c = record {
  given =
      more-flags (λ word. word.now) _ _ c.loop-rest.rest.now (given_by c.loop-rest.flags) _ c.in-len2-up.len_at_least c.loop-rest.invariant.given (given_by c.in-Ok-Some.given)
      (sym (ap (λ o. option_map given_by o) c.in-Ok-Some.field-0-is) ∙ c.in-Ok-Some.ensures.flags);
  fits = rw c.in-Ok-Some.field-0-is at c.in-Ok-Some.ensures.fits;
}
