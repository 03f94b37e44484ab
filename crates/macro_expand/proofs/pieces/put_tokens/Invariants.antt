use Rattle.std.proofs.Common.{◌≡◌, ◌++◌, map, drop}
use Rattle.macro_expand.specs.Replacement.{Real, with_space}
use Rattle.macro_expand.specs.parts.Pieces.{spaced_from}
use Rattle.macro_expand.specs.Seen.{marked_of, piece_of}
use Rattle.macro_expand.proofs.pieces.put_tokens.Given as goal

abbrev pub invariant-loop-t : goal.invariant-loop-t
invariant-loop-t l =
    map piece_of l.out.items ++ map Real (spaced_from l.first l.space (map marked_of (drop l.t-index l.tokens)))
    ≡ map piece_of l.initial.out.items ++ map Real (with_space l.space (map marked_of l.tokens))
