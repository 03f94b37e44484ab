use Rattle.directive_scan.specs.declared.Directive.TheVariants.{If, Elif, Ifdef, Ifndef}
use Rattle.pp_tokens.specs.Tokens.{rest_of}
use Rattle.directive_scan.specs.Spots.{directive_seen}
use Rattle.daemon_cpp.specs.Prep.{world_of}
use Rattle.daemon_cpp.specs.parts.Showing.{here_seen}
use Rattle.daemon_cpp.proofs.Conditions.{directive-leads}
use Rattle.daemon_cpp.proofs.condition.test_directive_ref.Goals as goal

pub returns-in-If-clause-leads : goal.returns-in-If-clause-leads
returns-in-If-clause-leads g c =
    λ told is.
    directive-leads (world_of told c.args.places.setup.now) c.args.kept.now c.condition.new.kept c.args.places.source.now (here_seen c.args.places) c.args.at (directive_seen c.args.line) (If (rest_of c.in-If.tokens)) c.condition.result
    c.in-If.ensures (c.condition.ensures.leads told is)

pub returns-in-Elif-clause-leads : goal.returns-in-Elif-clause-leads
returns-in-Elif-clause-leads g c =
    λ told is.
    directive-leads (world_of told c.args.places.setup.now) c.args.kept.now c.condition-in-Elif.new.kept c.args.places.source.now (here_seen c.args.places) c.args.at (directive_seen c.args.line) (Elif (rest_of c.in-Elif.tokens)) c.condition-in-Elif.result
    c.in-Elif.ensures (c.condition-in-Elif.ensures.leads told is)

pub returns-in-Ifdef-clause-leads : goal.returns-in-Ifdef-clause-leads
returns-in-Ifdef-clause-leads g c =
    λ told is.
    directive-leads (world_of told c.args.places.setup.now) c.args.kept.now c.args.kept.now c.args.places.source.now (here_seen c.args.places) c.args.at (directive_seen c.args.line) (Ifdef (rest_of c.in-Ifdef.tokens)) c.name_condition.result
    c.in-Ifdef.ensures c.name_condition.ensures.leads

pub returns-in-Ifndef-clause-leads : goal.returns-in-Ifndef-clause-leads
returns-in-Ifndef-clause-leads g c =
    λ told is.
    directive-leads (world_of told c.args.places.setup.now) c.args.kept.now c.args.kept.now c.args.places.source.now (here_seen c.args.places) c.args.at (directive_seen c.args.line) (Ifndef (rest_of c.in-Ifndef.tokens)) c.name_condition-in-Ifndef.result
    c.in-Ifndef.ensures c.name_condition-in-Ifndef.ensures.leads
