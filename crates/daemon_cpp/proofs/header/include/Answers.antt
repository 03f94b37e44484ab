use Rattle.daemon_cpp.specs.Prep.{world_of, header_reached, include_named}
use Rattle.daemon_cpp.specs.parts.Showing.{here_seen}
use Rattle.daemon_cpp.proofs.Including.{includes-then}
use Rattle.daemon_cpp.proofs.header.include.Goals as goal

pub returns-in-Ok-clause-includes : goal.returns-in-Ok-clause-includes
returns-in-Ok-clause-includes g c =
    λ told is.
    includes-then c.args.kept.now c.header_reached.new.kept c.header_reached.new.kept c.args.places.source.now (here_seen c.args.places) c.args.at
    (λ state. header_reached c.args.at c.args.target.now state)
    (λ header entering state. include_named (world_of told c.args.places.setup.now) entering c.args.next c.args.at header state)
    c.in-Ok.header c.include_named.result c.in-Ok.ensures.leads
    (c.include_named.ensures.includes told is)
