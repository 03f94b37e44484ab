use Rattle.std.proofs.Common.{◌≡◌, ◌≤◌, take}
use Rattle.pp_tokens.specs.parts.Gathered.{newlines}
use Rattle.pp_tokens.proofs.lexer.newlines_in_short.Given as goal

abbrev pub invariant-loop-byte : goal.invariant-loop-byte
invariant-loop-byte l = record {
  few : l.count ≤ l.byte-index;
  counted : newlines (take l.byte-index l.part) ≡ l.count;
}
