use Rattle.std.proofs.Common.{◌≤◌, ◌-◌, ◌+◌, length}
use Rattle.pp_tokens.specs.DirectiveLines.{kept_alone}
use Rattle.pp_tokens.specs.parts.Gathered.{IsGathered}
use Rattle.pp_tokens.specs.Lined.{spliced_up_to}
use Rattle.pp_tokens.specs.parts.Unpaired.{KnowsUnpaired}
use Rattle.pp_tokens.proofs.LexSteps.{LexState}
use Rattle.pp_tokens.proofs.DirectiveSteps.{Outlined}
use Rattle.pp_tokens.proofs.lexer.gather_directives.Given as goal

abbrev pub invariant-loop-at : goal.invariant-loop-at
invariant-loop-at l = record {
  within : l.at ≤ length l.text;
  counted : l.base ≤ l.at + 1;
  passes : l.passed ≤ spliced_up_to l.splices l.at;
  known : KnowsUnpaired l.unpaired l.text l.at;
  few : length l.gathering.places.items ≤ l.at;
  gathered : IsGathered l.text l.gathering;
  outlined : Outlined l.whole l.text l.gathering;
  state : LexState (kept_alone l.whole) l.text l.splices l.gathering l.at l.base;
}

abbrev pub decreases-loop-at : goal.decreases-loop-at
decreases-loop-at l = length l.text - l.at
