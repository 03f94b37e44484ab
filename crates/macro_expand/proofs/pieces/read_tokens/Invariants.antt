use Rattle.std.proofs.Common.{◌≡◌, ◌++◌, map, drop}
use Rattle.macro_expand.specs.parts.Pieces.{arguments_seen, tokens_of_parts}
use Rattle.macro_expand.specs.declared.marked.Marked.{Marked as Kept}
use Rattle.macro_expand.specs.parts.Stamps.{AllAlike, EachAlike}
use Rattle.macro_expand.specs.Seen.{marked_of, parts_seen}
use Rattle.macro_expand.proofs.pieces.read_tokens.Given as goal

abbrev pub invariant-loop-p : goal.invariant-loop-p
invariant-loop-p l =
    (map marked_of l.out.items ++ tokens_of_parts (arguments_seen l.arguments) (parts_seen (drop l.p-index l.parts))
    ≡ tokens_of_parts (arguments_seen l.arguments) (parts_seen l.parts))
    × ((t : Kept) → EachAlike t l.arguments.expanded.now → AllAlike t l.out.items)
