use Rattle.std.proofs.Common.{◌≡◌, ◌+◌, drop}
use Rattle.pp_tokens.specs.Grammar.{number_length}
use Rattle.pp_tokens.proofs.marks.number_length.Given as goal

abbrev pub invariant-loop-i : goal.invariant-loop-i
invariant-loop-i l = number_length l.first l.bytes ≡ l.i + number_length l.last (drop l.i l.bytes)
