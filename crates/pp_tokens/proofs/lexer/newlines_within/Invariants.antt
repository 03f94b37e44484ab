use Rattle.std.proofs.Common.{◌≡◌, ◌≤◌, ◌+◌, ◌-◌, length, drop}
use Rattle.pp_tokens.specs.parts.Gathered.{newlines}
use Rattle.pp_tokens.proofs.lexer.newlines_within.Given as goal

abbrev pub invariant-loop-at : goal.invariant-loop-at
invariant-loop-at l = record {
  within : l.at ≤ length l.part;
  few : l.count ≤ l.at;
  counted : newlines l.part ≡ l.count + newlines (drop l.at l.part);
}

abbrev pub decreases-loop-at : goal.decreases-loop-at
decreases-loop-at l = length l.part - l.at
