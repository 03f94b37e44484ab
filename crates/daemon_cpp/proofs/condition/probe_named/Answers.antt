use Rattle.daemon_cpp.specs.Prep.{world_of}
use Rattle.daemon_cpp.specs.parts.Showing.{here_seen}
use Rattle.daemon_cpp.proofs.Conditions.{named-leads}
use Rattle.daemon_cpp.proofs.condition.probe_named.Goals as goal

pub returns-clause-leads : goal.returns-clause-leads
returns-clause-leads g c =
    λ told is kept at.
    named-leads (world_of told c.args.places.setup.now) kept c.args.places.source.now (here_seen c.args.places) at c.args.header.now c.is_found.result (c.is_found.ensures.found told is) c.is_found.ensures.untold
