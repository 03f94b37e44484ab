use Rattle.std.proofs.Common.{◌≡◌, ◌≤◌, ◌<◌, ◌-◌, ℕ, true, length, get_or}
use Rattle.pp_tokens.specs.Grammar.{is_white}
use Rattle.pp_tokens.proofs.lexer.white_end.Given as goal

abbrev pub invariant-loop-end : goal.invariant-loop-end
invariant-loop-end l = record {
  later : l.at < l.end;
  within : l.end ≤ length l.text;
  white : (i : ℕ) → l.at ≤ i → i < l.end → is_white (get_or l.text i 0) ≡ true;
}

abbrev pub decreases-loop-end : goal.decreases-loop-end
decreases-loop-end l = length l.text - l.end
