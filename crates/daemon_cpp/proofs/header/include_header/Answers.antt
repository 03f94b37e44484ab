use Rattle.std.proofs.Common.{Some}
use Rattle.daemon_cpp.specs.Prep.{world_of, include_named}
use Rattle.daemon_cpp.specs.parts.Showing.{here_seen}
use Rattle.daemon_cpp.proofs.Including.{includes-header, includes-silent}
use Rattle.daemon_cpp.proofs.header.include_header.Goals as goal

pub returns-in-Ok-clause-includes : goal.returns-in-Ok-clause-includes
returns-in-Ok-clause-includes g c =
    λ told is.
    includes-header c.args.kept.now c.args.places.source.now (here_seen c.args.places) c.args.at (world_of told c.args.places.setup.now) c.args.next c.args.header.now
    c.as_slice-name.result.now c.in_ok-ask.ask c.in-Ok.found c.found_file.result
    c.as_slice-name.ensures c.in_ok-ask.ensures (c.in-Ok.ensures.found told is)
    (c.found_file.ensures.includes (world_of told c.args.places.setup.now))

pub returns-in-Err-clause-includes : goal.returns-in-Err-clause-includes
returns-in-Err-clause-includes g c =
    λ told is.
    includes-silent c.args.kept.now c.args.kept.now c.args.places.source.now (here_seen c.args.places) c.args.at
    (λ entering state. include_named (world_of told c.args.places.setup.now) entering c.args.next c.args.at (Some c.args.header.now) state) c.in-Err.stop
    c.in-Err.ensures.silent
