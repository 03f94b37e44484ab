use Rattle.daemon_cpp.specs.Prep.{world_of}
use Rattle.daemon_cpp.specs.parts.Showing.{here_seen}
use Rattle.daemon_cpp.proofs.Conditions.{probe-answered}
use Rattle.daemon_cpp.proofs.condition.answer_part.Goals as goal

pub returns-in_ok-answer_token-in-Ok-clause-leads : goal.returns-in_ok-answer_token-in-Ok-clause-leads
returns-in_ok-answer_token-in-Ok-clause-leads g c =
    λ told is.
    probe-answered (world_of told c.args.places.setup.now) c.args.kept.now c.probe.new.kept c.args.places.source.now (here_seen c.args.places) c.args.at c.args.part c.in-Probe.name c.in_ok-answer_token-in-Ok.field-0 c.in-Probe.target c.in-Ok.is_found
    c.in-Probe.is c.in_ok-answer_token-in-Ok.ensures (c.in-Ok.ensures.leads told is)
