use Rattle.std.proofs.Common.{List, sym, subst, ◌∙◌}
use Rattle.pp_tokens.specs.declared.Token.{Token}
use Rattle.pp_tokens.specs.Tokens.{rest_of}
use Rattle.daemon_cpp.specs.Prep.{world_of, condition}
use Rattle.daemon_cpp.specs.parts.Showing.{Leads, here_seen}
use Rattle.daemon_cpp.proofs.Conditions.{probeless-leads}
use Rattle.daemon_cpp.proofs.condition.condition.Goals as goal

pub returns-then-not-has_probe_word-clause-leads : goal.returns-then-not-has_probe_word-clause-leads
returns-then-not-has_probe_word-clause-leads g c =
    λ told is.
    probeless-leads (world_of told c.args.places.setup.now) c.args.kept.now c.answered_condition.new.kept c.args.places.source.now (here_seen c.args.places) c.args.at (rest_of c.args.tokens) c.answered_condition.result
    (c.parts_without_probe.ensures (rest_of c.args.tokens) (sym c.if-not-has_probe_word.ensures)) c.answered_condition.ensures.leads

pub returns-in-Ok-clause-leads : goal.returns-in-Ok-clause-leads
returns-in-Ok-clause-leads g c =
    λ told is.
    subst (λ (ts : List Token). Leads c.args.kept.now c.probing_condition.new.kept c.args.places.source.now (here_seen c.args.places) (λ state. condition (world_of told c.args.places.setup.now) c.args.at ts state) c.probing_condition.result)
    (c.as_slice.ensures ∙ c.in-Ok.ensures) (c.probing_condition.ensures.leads told is)
