use Rattle.daemon_cpp.specs.parts.Showing.{here_seen}
use Rattle.daemon_cpp.proofs.Moving.{moves-renumbered}
use Rattle.daemon_cpp.proofs.pieces.renumber.Goals as goal

pub returns-in_ok-new-in-Ok-clause-moves : goal.returns-in_ok-new-in-Ok-clause-moves
returns-in_ok-new-in-Ok-clause-moves c =
    rw c.in_ok-new-in-Ok.ensures
    (moves-renumbered c.args.kept.now c.read_line.new.kept c.args.places.source.now (here_seen c.args.places) c.args.at c.args.tokens.now c.in-Ok.new c.in-Ok.ensures.leads)
