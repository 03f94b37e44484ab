use Rattle.std.proofs.Common.{ap}
use Rattle.directive_scan.specs.Spots.{directive_seen, piece_seen}
use Rattle.daemon_cpp.specs.Prep.{world_of}
use Rattle.daemon_cpp.specs.parts.Showing.{here_seen}
use Rattle.daemon_cpp.proofs.Conditions.{line-leads}
use Rattle.daemon_cpp.proofs.condition.test_line.Goals as goal

pub returns-in-Line-clause-leads : goal.returns-in-Line-clause-leads
returns-in-Line-clause-leads g c =
    λ told is.
    line-leads (world_of told c.args.places.setup.now) c.args.kept.now c.test_directive_ref.new.kept c.args.places.source.now (here_seen c.args.places) c.in-Line.at (directive_seen c.in-Line.what) (piece_seen c.args.piece) c.test_directive_ref.result
    (ap piece_seen c.in-Line.is) (c.test_directive_ref.ensures.leads told is)
