use Rattle.std.proofs.Common.{◌≡◌, ◌++◌, map, drop}
use Rattle.macro_expand.specs.Replacement.{with_space}
use Rattle.macro_expand.specs.parts.Pieces.{spaced_from}
use Rattle.macro_expand.specs.declared.marked.Marked.{Marked as Kept}
use Rattle.macro_expand.specs.parts.Stamps.{AllAlike}
use Rattle.macro_expand.specs.Seen.{marked_of}
use Rattle.macro_expand.proofs.pieces.put_copies.Given as goal

abbrev pub invariant-loop-t : goal.invariant-loop-t
invariant-loop-t l =
    (map marked_of l.out.items ++ spaced_from l.first l.space (map marked_of (drop l.t-index l.tokens))
    ≡ map marked_of l.initial.out.items ++ with_space l.space (map marked_of l.tokens))
    × ((t : Kept) → AllAlike t l.initial.out.items → AllAlike t l.tokens → AllAlike t l.out.items)
