use Rattle.std.proofs.Common.{Bool, Result, Ok, ◌∙◌, ap, subst}
use Rattle.directive_scan.specs.declared.Piece.{Piece}
use Rattle.directive_scan.specs.Groups.{role_of}
use Rattle.directive_scan.specs.Spots.{piece_seen}
use Rattle.daemon_cpp.specs.declared.stop.Stop.{Stop}
use Rattle.daemon_cpp.specs.Prep.{world_of, piece_test}
use Rattle.daemon_cpp.specs.parts.Showing.{Leads, here_seen}
use Rattle.daemon_cpp.proofs.Readers.{opening-holds, opening-seeks, opening-stops}
use Rattle.daemon_cpp.proofs.cpp.read_opening.Goals as goal

pub returns-in-Ok-true-clause-seeks : goal.returns-in-Ok-true-clause-seeks
returns-in-Ok-true-clause-seeks g c = λ told is.
    let p : Piece = piece_seen c.piece.result in
    opening-holds c.args.places.source.now (here_seen c.args.places) (world_of told c.args.places.setup.now) c.args.pieces.now c.args.line p c.piece.ensures.shown c.requires.below (ap role_of c.piece.ensures.shown ∙ c.requires.role p)
    c.args.kept.now c.test_line.new.kept
    (subst (λ (r : Result Bool Stop). Leads c.args.kept.now c.test_line.new.kept c.args.places.source.now (here_seen c.args.places) (λ state. piece_test (world_of told c.args.places.setup.now) p state) r) (c.in-Ok-true.is ∙ ap Ok c.in-Ok-true.field-0-test) (c.test_line.ensures.leads told is))

pub returns-in-Ok-false-clause-seeks : goal.returns-in-Ok-false-clause-seeks
returns-in-Ok-false-clause-seeks g c = λ told is.
    let p : Piece = piece_seen c.piece.result in
    opening-seeks c.args.places.source.now (here_seen c.args.places) (world_of told c.args.places.setup.now) c.args.pieces.now c.args.line p c.piece.ensures.shown c.requires.below (ap role_of c.piece.ensures.shown ∙ c.requires.role p)
    c.args.kept.now c.test_line.new.kept c.seek.new.kept c.seek.result
    (subst (λ (r : Result Bool Stop). Leads c.args.kept.now c.test_line.new.kept c.args.places.source.now (here_seen c.args.places) (λ state. piece_test (world_of told c.args.places.setup.now) p state) r) (c.in-Ok-false.is ∙ ap Ok c.in-Ok-false.field-0-test) (c.test_line.ensures.leads told is))
    (c.seek.ensures.seeks told (c.in-Ok-false.ensures.same ∙ is))

pub returns-in-Err-clause-seeks : goal.returns-in-Err-clause-seeks
returns-in-Err-clause-seeks g c = λ told is.
    let p : Piece = piece_seen c.piece.result in
    opening-stops c.args.places.source.now (here_seen c.args.places) (world_of told c.args.places.setup.now) c.args.pieces.now c.args.line p c.piece.ensures.shown c.requires.below (ap role_of c.piece.ensures.shown ∙ c.requires.role p)
    c.args.kept.now c.test_line.new.kept c.in-Err.stop
    (subst (λ (r : Result Bool Stop). Leads c.args.kept.now c.test_line.new.kept c.args.places.source.now (here_seen c.args.places) (λ state. piece_test (world_of told c.args.places.setup.now) p state) r) c.in-Err.is (c.test_line.ensures.leads told is))
