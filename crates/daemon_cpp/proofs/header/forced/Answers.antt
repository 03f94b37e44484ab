use Rattle.std.proofs.Common.{false}
use Rattle.search_path.specs.Asks.{forced_ask}
use Rattle.daemon_cpp.specs.Prep.{world_of, found_file}
use Rattle.daemon_cpp.specs.parts.Showing.{here_seen}
use Rattle.daemon_cpp.proofs.Including.{includes-forced, includes-silent}
use Rattle.daemon_cpp.proofs.header.forced.Goals as goal

pub returns-in-Ok-clause-includes : goal.returns-in-Ok-clause-includes
returns-in-Ok-clause-includes g c =
    λ told is.
    includes-forced c.args.kept.now c.args.places.source.now (here_seen c.args.places) (world_of told c.args.places.setup.now) c.args.name.now
    c.in_ok-ask.ask c.in-Ok.found c.found_file.result
    c.in_ok-ask.ensures
    (c.in-Ok.ensures.found told is)
    (c.found_file.ensures.includes (world_of told c.args.places.setup.now))

pub returns-in-Err-clause-includes : goal.returns-in-Err-clause-includes
returns-in-Err-clause-includes g c =
    λ told is.
    includes-silent c.args.kept.now c.args.kept.now c.args.places.source.now (here_seen c.args.places) 0
    (λ entering state. found_file (world_of told c.args.places.setup.now) entering 0 false c.args.name.now state ((world_of told c.args.places.setup.now).find (forced_ask c.args.name.now)))
    c.in-Err.stop
    c.in-Err.ensures.silent
