use Rattle.daemon_cpp.specs.parts.Showing.{here_seen}
use Rattle.daemon_cpp.proofs.Moving.{moves-marked}
use Rattle.daemon_cpp.proofs.pieces.mark_once.Goals as goal

pub returns-clause-moves : goal.returns-clause-moves
returns-clause-moves c = moves-marked c.args.kept.now c.mark.new.self c.args.places.source.now (here_seen c.args.places) c.in_ok-mark.ensures
