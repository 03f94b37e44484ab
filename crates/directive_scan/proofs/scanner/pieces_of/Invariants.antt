use Rattle.std.proofs.Common.{◌≡◌, map, take}
use Rattle.directive_scan.specs.Spots.{piece_at}
use Rattle.directive_scan.proofs.scanner.pieces_of.Given as goal

abbrev pub invariant-loop-spot : goal.invariant-loop-spot
invariant-loop-spot l = l.pieces ≡ map (piece_at l.lexed) (take l.spot-index l.spots)
