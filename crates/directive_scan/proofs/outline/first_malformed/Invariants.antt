use Rattle.std.proofs.Common.{map}
use Rattle.pp_tokens.specs.Lines.{LexedFile}
use Rattle.directive_scan.specs.Spots.{piece_at, EachKnowsName}
use Rattle.directive_scan.proofs.OpenFronts.{ReadTo}
use Rattle.directive_scan.proofs.outline.first_malformed.Given as goal

-- the pieces before this one leave the stack's conditionals open
abbrev pub invariant-loop-spot : goal.invariant-loop-spot
invariant-loop-spot l = (file : LexedFile) → EachKnowsName file l.spots → ReadTo (map (piece_at file) l.spots) l.spot-index l.stack.items
