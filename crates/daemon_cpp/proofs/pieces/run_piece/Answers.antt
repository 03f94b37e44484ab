use Rattle.std.proofs.Common.{ap}
use Rattle.pp_tokens.specs.Tokens.{rest_of}
use Rattle.directive_scan.specs.declared.Piece.TheVariants.{Run, Line}
use Rattle.directive_scan.specs.Spots.{directive_seen, piece_seen}
use Rattle.daemon_cpp.specs.Prep.{world_of, text_step}
use Rattle.daemon_cpp.specs.parts.Showing.{here_seen}
use Rattle.daemon_cpp.proofs.Moving.{moves-onward, piece-moves}
use Rattle.daemon_cpp.proofs.pieces.run_piece.Goals as goal

pub returns-in-Run-clause-moves : goal.returns-in-Run-clause-moves
returns-in-Run-clause-moves g c =
    λ told is.
    piece-moves (world_of told c.args.places.setup.now) c.args.kept.now c.run_text.new.kept c.args.places.source.now (here_seen c.args.places) (piece_seen c.args.piece) (Run (rest_of c.in-Run.tokens)) c.onward.result
    (ap piece_seen c.in-Run.is)
    (moves-onward c.args.kept.now c.run_text.new.kept c.args.places.source.now (here_seen c.args.places) (λ state. text_step (rest_of c.in-Run.tokens) state) c.run_text.result c.onward.result c.onward.ensures c.run_text.ensures.goes)

pub returns-in-Line-clause-moves : goal.returns-in-Line-clause-moves
returns-in-Line-clause-moves g c =
    λ told is.
    piece-moves (world_of told c.args.places.setup.now) c.args.kept.now c.run_line.new.kept c.args.places.source.now (here_seen c.args.places) (piece_seen c.args.piece) (Line c.in-Line.at (directive_seen c.in-Line.what)) c.run_line.result
    (ap piece_seen c.in-Line.is)
    (c.run_line.ensures.moves told is)
