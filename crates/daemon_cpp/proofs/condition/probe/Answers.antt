use Rattle.std.proofs.Common.{Some, None, Ok, Err, refl, ◌∙◌, ap}
use Rattle.daemon_cpp.specs.Diagnostics.{BadProbe}
use Rattle.daemon_cpp.specs.Prep.{world_of, header_reached, probe_named}
use Rattle.daemon_cpp.specs.parts.Showing.{here_seen}
use Rattle.daemon_cpp.proofs.Conditions.{then-leads, refused-leads}
use Rattle.daemon_cpp.proofs.condition.probe.Goals as goal

pub returns-in-Ok-Some-clause-leads : goal.returns-in-Ok-Some-clause-leads
returns-in-Ok-Some-clause-leads g c =
    λ told is.
    then-leads c.args.kept.now c.header_reached.new.kept c.header_reached.new.kept c.args.places.source.now (here_seen c.args.places)
    (λ state. header_reached c.args.at c.args.target.now state) (λ header after. probe_named (world_of told c.args.places.setup.now) c.args.at header after) c.header_reached.result (Some c.in-Ok-Some.header) c.probe_named.result
    (c.in-Ok-Some.is ∙ ap Ok c.in-Ok-Some.field-0-is) c.header_reached.ensures.leads (c.probe_named.ensures.leads told is c.header_reached.new.kept c.args.at)

pub returns-in-Ok-None-clause-leads : goal.returns-in-Ok-None-clause-leads
returns-in-Ok-None-clause-leads g c =
    λ told is.
    then-leads c.args.kept.now c.header_reached.new.kept c.header_reached.new.kept c.args.places.source.now (here_seen c.args.places)
    (λ state. header_reached c.args.at c.args.target.now state) (λ header after. probe_named (world_of told c.args.places.setup.now) c.args.at header after) c.header_reached.result None (Err c.refused.result)
    (c.in-Ok-None.is ∙ ap Ok c.in-Ok-None.field-0-is) c.header_reached.ensures.leads
    (refused-leads c.header_reached.new.kept c.args.places.source.now (here_seen c.args.places) (λ after. probe_named (world_of told c.args.places.setup.now) c.args.at None after) c.args.at BadProbe c.refused.result (λ state. refl) c.refused.ensures)
