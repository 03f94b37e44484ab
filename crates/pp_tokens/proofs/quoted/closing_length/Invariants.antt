use Rattle.std.proofs.Common.{◌≡◌, false, drop}
use Rattle.pp_tokens.specs.parts.Unpaired.{closing_length}
use Rattle.pp_tokens.proofs.Closing.{further}
use Rattle.pp_tokens.proofs.quoted.closing_length.Given as goal

abbrev pub invariant-loop-i : goal.invariant-loop-i
invariant-loop-i l = closing_length l.quote false l.bytes ≡ further l.i (closing_length l.quote l.escaped (drop l.i l.bytes))
