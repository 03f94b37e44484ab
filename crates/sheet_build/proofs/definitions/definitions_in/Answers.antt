use Rattle.std.proofs.Common.{◌<◌, List, length, map, ap, ◌∙◌, arith}
use Rattle.std.specs.List.{filter_map}
use Rattle.std.proofs.lemmas.List.{take_all}
use Rattle.directive_scan.specs.declared.Piece.{Piece}
use Rattle.directive_scan.specs.Spots.{piece_seen}
use Rattle.sheet_build.specs.Sheet.{named_pair, definition_in}
use Rattle.sheet_build.proofs.Adding.{definitions-next}
use Rattle.sheet_build.proofs.definitions.definitions_in.Goals as goal

pub loop-number-preserved : goal.loop-number-preserved
loop-number-preserved c =
    let below : c.loop-number.number < length c.args.pieces.now = omega arith in
    definitions-next c.args.pieces.now c.loop-number.number (piece_seen c.piece.result) (map named_pair c.loop-number.defs) (map named_pair c.add_piece.new.defs)
    below c.piece.ensures.shown c.loop-number.invariant c.in_ok-add_piece.ensures

pub returns : goal.returns
returns c =
    c.loop-number.invariant
    ∙ ap (λ (ps : List Piece). filter_map definition_in ps) (take_all c.loop-number.number c.args.pieces.now (omega arith))
