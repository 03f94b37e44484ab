use Rattle.daemon_cpp.specs.parts.Showing.{here_seen}
use Rattle.daemon_cpp.proofs.Including.{includes-found}
use Rattle.daemon_cpp.proofs.header.found_file.Goals as goal

pub returns-in-Some-clause-includes : goal.returns-in-Some-clause-includes
returns-in-Some-clause-includes c =
    λ world.
    includes-found c.args.kept.now c.args.places.source.now (here_seen c.args.places) c.args.at world c.args.angle c.args.name.now c.args.found c.in-Some.hit c.unless_marked.result
    c.in-Some.is c.unless_marked.ensures
