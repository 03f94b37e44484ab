use Rattle.std.proofs.Common.{◌≡◌, ◌++◌, map, true, drop}
use Rattle.macro_expand.specs.Replacement.{spellings}
use Rattle.macro_expand.specs.Seen.{marked_of}
use Rattle.macro_expand.proofs.stringize.put_tokens.Given as goal

abbrev pub invariant-loop-t : goal.invariant-loop-t
invariant-loop-t l =
    l.text.items ++ spellings l.first (map marked_of (drop l.t-index l.tokens)) ≡ l.initial.text.items ++ spellings true (map marked_of l.tokens)
