use Rattle.std.proofs.Common.{◌<◌, List, length, ap, ◌∙◌, arith}
use Rattle.std.proofs.lemmas.List.{take_all}
use Rattle.directive_scan.specs.declared.Piece.{Piece}
use Rattle.directive_scan.specs.Spots.{piece_seen}
use Rattle.search_path.specs.Search.{search}
use Rattle.sheet_build.specs.parts.Stored.{sheet_of_parts, asked_from}
use Rattle.sheet_build.proofs.Adding.{pieces-next}
use Rattle.sheet_build.proofs.building.parts_of_pieces.Goals as goal

pub loop-number-preserved : goal.loop-number-preserved
loop-number-preserved g c =
    let below : c.loop-number.number < length c.args.pieces.now = omega arith in
    record {
      same = c.in_ok-add_piece.ensures.same ∙ c.loop-number.invariant.same;
      parts = λ told is.
          pieces-next (search told c.args.setup.now) c.args.visit.now c.args.pieces.now c.loop-number.number (piece_seen c.piece.result) (sheet_of_parts c.loop-number.parts) (sheet_of_parts c.add_piece.new.parts)
          below c.piece.ensures.shown (c.loop-number.invariant.parts told is) (c.in_ok-add_piece.ensures.adds told (c.loop-number.invariant.same ∙ is));
      later = omega (arith, c.loop-number.invariant.later, c.in_ok-add_piece.ensures.cause.later);
      reads = c.in_ok-add_piece.ensures.no_read ∙ c.loop-number.invariant.reads;
    }

pub returns-clause-parts : goal.returns-clause-parts
returns-clause-parts g c = λ told is.
    c.loop-number.invariant.parts told is
    ∙ ap (λ (ps : List Piece). asked_from (search told c.args.setup.now) c.args.visit.now ps) (take_all c.loop-number.number c.args.pieces.now (omega arith))
