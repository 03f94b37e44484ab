use Rattle.std.proofs.Common.{sym, ◌<◌, ◌≤◌, length, arith}
use Rattle.directive_scan.specs.Spots.{role_told, piece_seen}
use Rattle.daemon_cpp.specs.Prep.{world_of}
use Rattle.daemon_cpp.specs.parts.Showing.{here_seen}
use Rattle.daemon_cpp.proofs.Sections.{at-end, at-endif, at-test, test-stops}
use Rattle.daemon_cpp.proofs.section.seek_line.Goals as goal

pub returns-then-line-len-clause-seeks : goal.returns-then-line-len-clause-seeks
returns-then-line-len-clause-seeks g c =
    let past : length c.args.pieces.now ≤ c.skip-line.result = omega (arith, c.if-line-len.true, c.len.ensures) in
    λ told is. at-end (world_of told c.args.places.setup.now) c.args.pieces.now c.args.places.source.now (here_seen c.args.places) c.args.from c.skip-line.result c.skip-line.ensures.rest c.args.kept.now past

pub returns-then-is_endif-clause-seeks : goal.returns-then-is_endif-clause-seeks
returns-then-is_endif-clause-seeks g c =
    let within : c.skip-line.result < length c.args.pieces.now = omega (arith, c.if-line-len.false, c.len.ensures) in
    λ told is. at-endif (world_of told c.args.places.setup.now) c.args.pieces.now c.args.places.source.now (here_seen c.args.places) c.args.from c.skip-line.result c.skip-line.ensures.rest
    (role_told c.nesting.result) within c.nesting.ensures c.args.kept.now (sym c.if-is_endif.ensures)

pub returns-in-Ok-clause-seeks : goal.returns-in-Ok-clause-seeks
returns-in-Ok-clause-seeks g c =
    let within : c.skip-line.result < length c.args.pieces.now = omega (arith, c.if-line-len.false, c.len.ensures) in
    λ told is. at-test (world_of told c.args.places.setup.now) c.args.pieces.now c.args.places.source.now (here_seen c.args.places) c.args.from c.skip-line.result c.skip-line.ensures.rest
    (role_told c.nesting.result) within c.nesting.ensures c.args.kept.now c.test_line.new.kept (piece_seen c.piece.result) c.piece.ensures.shown (sym c.if-is_endif.ensures)
    c.in-Ok.holds (c.in-Ok.ensures.leads told is)

pub returns-in-Err-clause-seeks : goal.returns-in-Err-clause-seeks
returns-in-Err-clause-seeks g c =
    let within : c.skip-line.result < length c.args.pieces.now = omega (arith, c.if-line-len.false, c.len.ensures) in
    λ told is. test-stops (world_of told c.args.places.setup.now) c.args.pieces.now c.args.places.source.now (here_seen c.args.places) c.args.from c.skip-line.result c.skip-line.ensures.rest
    (role_told c.nesting.result) within c.nesting.ensures c.args.kept.now c.test_line.new.kept (piece_seen c.piece.result) c.piece.ensures.shown (sym c.if-is_endif.ensures)
    c.in-Err.stop (c.in-Err.ensures.leads told is)
