use Rattle.std.proofs.Common.{◌≡◌, ◌++◌, map, drop, None}
use Rattle.std.specs.Option.{option_map, option_copied}
use Rattle.macro_expand.specs.Replacement.{pieces_of}
use Rattle.macro_expand.specs.parts.Pieces.{arguments_seen}
use Rattle.macro_expand.specs.Seen.{part_seen, parts_seen, piece_of}
use Rattle.macro_expand.proofs.pieces.read_pieces.Given as goal

abbrev pub invariant-loop-k : goal.invariant-loop-k
invariant-loop-k l =
    map piece_of l.out.items ++ pieces_of (arguments_seen l.arguments) (option_map part_seen (option_copied l.before)) (parts_seen (drop l.k l.parts))
    ≡ pieces_of (arguments_seen l.arguments) None (parts_seen l.parts)
