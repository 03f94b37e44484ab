use Rattle.std.proofs.Common.{◌≡◌, Option, None, Some, List, sym, ◌∙◌}
use Rattle.directive_scan.specs.declared.ConditionPart.{ConditionPart}
use Rattle.directive_scan.specs.Operands.{parts_of}
use Rattle.daemon_cpp.specs.Prep.{world_of, condition}
use Rattle.daemon_cpp.specs.Diagnostics.{BadProbe}
use Rattle.daemon_cpp.specs.parts.Showing.{here_seen}
use Rattle.daemon_cpp.proofs.Conditions.{parts-lead, malformed-same, refused-leads}
use Rattle.daemon_cpp.proofs.condition.probing_condition.Goals as goal

pub returns-in-Ok-Some-clause-leads : goal.returns-in-Ok-Some-clause-leads
returns-in-Ok-Some-clause-leads g c =
    λ told is.
    let parts : Some c.in-Ok-Some.parts ≡ parts_of c.args.tokens.now = sym c.in-Ok-Some.field-0-is ∙ c.in-Ok-Some.ensures in
    parts-lead (world_of told c.args.places.setup.now) c.args.kept.now c.parts_condition.new.kept c.args.places.source.now (here_seen c.args.places) c.args.at c.args.tokens.now c.in-Ok-Some.parts c.parts_condition.result
    parts (c.parts_condition.ensures.leads told is)

pub returns-in-Ok-None-clause-leads : goal.returns-in-Ok-None-clause-leads
returns-in-Ok-None-clause-leads g c =
    λ told is.
    let parts : ◌≡◌ {A = Option (List ConditionPart)} None (parts_of c.args.tokens.now) = sym c.in-Ok-None.field-0-is ∙ c.in-Ok-None.ensures in
    refused-leads c.args.kept.now c.args.places.source.now (here_seen c.args.places) (λ state. condition (world_of told c.args.places.setup.now) c.args.at c.args.tokens.now state) c.args.at BadProbe c.refused.result
    (λ state. malformed-same (world_of told c.args.places.setup.now) c.args.at c.args.tokens.now state parts) c.refused.ensures
