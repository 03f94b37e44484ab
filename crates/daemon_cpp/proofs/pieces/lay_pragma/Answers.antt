use Rattle.std.proofs.Common.{ap, Err}
use Rattle.cpp_output.specs.Layout.{pragma}
use Rattle.daemon_cpp.specs.parts.Showing.{here_seen}
use Rattle.daemon_cpp.proofs.Moving.{moves-laid, moves-full}
use Rattle.daemon_cpp.proofs.pieces.lay_pragma.Goals as goal

pub returns-in-Ok-clause-moves : goal.returns-in-Ok-clause-moves
returns-in-Ok-clause-moves c =
    moves-laid c.args.kept.now c.pragma.new.self c.args.places.source.now (here_seen c.args.places) (pragma c.args.at c.args.tokens.now)
    c.in-Ok.ensures.ok.0 c.in-Ok.ensures.ok.1

pub returns-in-Err-Full-clause-moves : goal.returns-in-Err-Full-clause-moves
returns-in-Err-Full-clause-moves c =
    moves-full c.args.kept.now c.pragma.new.self c.args.places.source.now (here_seen c.args.places) (pragma c.args.at c.args.tokens.now) c.refused.result
    (c.in-Err-Full.ensures.full (ap Err c.in-Err-Full.field-0-is)) c.refused.ensures
