use Rattle.std.proofs.Common.{◌≡◌, drop}
use Rattle.pp_tokens.specs.parts.Unpaired.{delimiter_length}
use Rattle.pp_tokens.proofs.Closing.{further}
use Rattle.pp_tokens.proofs.quoted.delimiter_length.Given as goal

abbrev pub invariant-loop-i : goal.invariant-loop-i
invariant-loop-i l = delimiter_length l.delimiter l.bytes ≡ further l.i (delimiter_length l.delimiter (drop l.i l.bytes))
