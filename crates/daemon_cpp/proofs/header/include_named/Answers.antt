use Rattle.std.proofs.Common.{Option, ap}
use Rattle.directive_scan.specs.declared.HeaderName.{HeaderName}
use Rattle.daemon_cpp.specs.Prep.{world_of, include_named}
use Rattle.std.proofs.Common.{Some}
use Rattle.daemon_cpp.specs.parts.Showing.{here_seen}
use Rattle.daemon_cpp.proofs.Including.{includes-same}
use Rattle.daemon_cpp.proofs.header.include_named.Goals as goal

pub returns-in-Some-clause-includes : goal.returns-in-Some-clause-includes
returns-in-Some-clause-includes g c =
    λ told is.
    includes-same c.args.kept.now c.args.kept.now c.args.places.source.now (here_seen c.args.places) c.args.at
    (λ entering state. include_named (world_of told c.args.places.setup.now) entering c.args.next c.args.at (Some c.in-Some.header) state)
    (λ entering state. include_named (world_of told c.args.places.setup.now) entering c.args.next c.args.at c.args.header state)
    c.include_header.result
    (λ entering state shows. ap (λ (h : Option HeaderName). include_named (world_of told c.args.places.setup.now) entering c.args.next c.args.at h state) c.in-Some.is)
    (c.include_header.ensures.includes told is)
