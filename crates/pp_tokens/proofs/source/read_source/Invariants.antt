use Rattle.std.proofs.Common.{◌≡◌, ◌≤◌, ◌<◌, ◌+◌, ◌-◌, length, take, drop}
use Rattle.pp_tokens.specs.Phases.{newline_ended}
use Rattle.pp_tokens.specs.parts.Seen.{Ascends}
use Rattle.pp_tokens.specs.parts.Gathered.{newlines}
use Rattle.pp_tokens.proofs.SourceSteps.{SourceState}
use Rattle.pp_tokens.proofs.source.read_source.Given as goal

abbrev pub invariant-loop-at : goal.invariant-loop-at
invariant-loop-at l = record {
  size : length l.text.items ≡ length (newline_ended l.fn.body.items);
  left : drop l.at l.text.items ≡ drop l.at (newline_ended l.fn.body.items);
  within : l.at ≤ length (newline_ended l.fn.body.items);
  small : l.to + length l.splices.items ≤ l.at;
  ascends : Ascends 0 l.splices.items l.to;
  last : l.at ≡ length (newline_ended l.fn.body.items) → 0 < newlines (take l.to l.text.items) + length l.splices.items;
  state : SourceState l.trigraphs l.fn.body.items (take l.to l.text.items) l.splices.items (drop l.at (newline_ended l.fn.body.items));
}

abbrev pub decreases-loop-at : goal.decreases-loop-at
decreases-loop-at l = length (newline_ended l.fn.body.items) - l.at
