use Rattle.std.proofs.Common.{◌≡◌, map, None, false}
use Rattle.macro_expand.specs.Replacement.{joins_made}
use Rattle.macro_expand.specs.parts.Pasting.{joined_from, MadeIsOne}
use Rattle.macro_expand.specs.Seen.{piece_of}
use Rattle.macro_expand.proofs.paste.join_pieces.Given as goal

-- the tokens put out so far, before what the other pieces become after the operand on the left
abbrev pub invariant-loop-p : goal.invariant-loop-p
invariant-loop-p l = (joins_made None false (map piece_of l.fn.pieces.items) ≡ joined_from l.joining (map piece_of l.p-iterator.rest.items)) × MadeIsOne l.joining
