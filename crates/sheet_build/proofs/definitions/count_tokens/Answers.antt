use Rattle.std.proofs.Common.{◌<◌, ◌-◌, ◌^◌, List, length, ap, ◌∙◌, arith}
use Rattle.std.specs.Prelude.{min}
use Rattle.std.specs.List.{filter_map}
use Rattle.std.proofs.lemmas.List.{take_all}
use Rattle.directive_scan.specs.declared.Piece.{Piece}
use Rattle.directive_scan.specs.Spots.{piece_seen}
use Rattle.sheet_build.specs.Sheet.{definition_in}
use Rattle.sheet_build.specs.Weights.{tokens_defined}
use Rattle.sheet_build.proofs.Counting.{count-next}
use Rattle.sheet_build.proofs.definitions.count_tokens.Goals as goal

pub loop-number-preserved : goal.loop-number-preserved
loop-number-preserved c =
    let below : c.loop-number.number < length c.args.pieces.now = omega arith in
    count-next (2 ^ 64 - 1) c.args.pieces.now c.loop-number.number (piece_seen c.piece.result) c.loop-number.tokens c.saturating_add-tokens.result c.in_ok-piece_tokens.field-0
    below c.piece.ensures.shown c.loop-number.invariant c.in_ok-piece_tokens.ensures c.saturating_add-tokens.ensures

pub returns : goal.returns
returns c =
    c.loop-number.invariant
    ∙ ap (λ (ps : List Piece). min (2 ^ 64 - 1) (tokens_defined (filter_map definition_in ps))) (take_all c.loop-number.number c.args.pieces.now (omega arith))
