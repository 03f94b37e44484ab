use Rattle.std.proofs.Common.{◌≡◌, ◌≤◌, ◌-◌, ◌+◌, length, drop}
use Rattle.pp_tokens.specs.Lined.{lined}
use Rattle.pp_tokens.specs.parts.TextLines.{text_left}
use Rattle.pp_tokens.specs.parts.Unpaired.{KnowsUnpaired}
use Rattle.pp_tokens.proofs.text_line.far_end.Given as goal

abbrev pub invariant-loop-at : goal.invariant-loop-at
invariant-loop-at l = record {
  within : l.at ≤ length l.text;
  later : l.from ≤ l.at;
  counted : l.base ≤ l.at + 1;
  known : KnowsUnpaired l.unpaired l.text l.at;
  left : text_left (lined l.splices l.from l.line (drop l.from l.text)) ≡ text_left (lined l.splices l.at l.base (drop l.at l.text));
}

abbrev pub decreases-loop-at : goal.decreases-loop-at
decreases-loop-at l = length l.text - l.at
