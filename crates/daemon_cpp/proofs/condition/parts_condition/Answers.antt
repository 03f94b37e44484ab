use Rattle.std.proofs.Common.{List, subst}
use Rattle.pp_tokens.specs.declared.Token.{Token}
use Rattle.daemon_cpp.specs.Prep.{world_of, answer_parts, answered_condition}
use Rattle.daemon_cpp.specs.parts.Showing.{Leads, here_seen}
use Rattle.daemon_cpp.proofs.Steps.{leads-then}
use Rattle.daemon_cpp.proofs.condition.parts_condition.Goals as goal

pub returns-in-Ok-clause-leads : goal.returns-in-Ok-clause-leads
returns-in-Ok-clause-leads g c =
    λ told is.
    leads-then c.args.kept.now c.answer_parts.new.kept c.answered_condition.new.kept c.args.places.source.now (here_seen c.args.places)
    (λ state. answer_parts (world_of told c.args.places.setup.now) c.args.at c.args.parts state) (λ ts after. answered_condition c.args.at ts after) c.in-Ok.tokens c.answered_condition.result
    (c.in-Ok.ensures.leads told is)
    (subst (λ (ts : List Token). Leads c.answer_parts.new.kept c.answered_condition.new.kept c.args.places.source.now (here_seen c.args.places) (λ state. answered_condition c.args.at ts state) c.answered_condition.result)
    c.as_slice.ensures c.answered_condition.ensures.leads)
