use Rattle.std.proofs.Common.{◌≡◌, map, length, Some}
use Rattle.run_words.specs.Asked.{with_flags, nothing_given}
use Rattle.run_words.specs.parts.Flagged.{given_by, FlagsFit}
use Rattle.run_words.proofs.flags.flags_in.Given as goal

-- what is left gives, behind what is given so far, what all words give
abbrev pub invariant-loop-rest : goal.invariant-loop-rest
invariant-loop-rest l = record {
  given : with_flags (map (λ word. word.now) l.rest) (Some (given_by l.flags)) ≡ with_flags (map (λ word. word.now) l.fn.words) (Some nothing_given);
  fits : FlagsFit l.flags;
}

abbrev pub decreases-loop-rest : goal.decreases-loop-rest
decreases-loop-rest l = length l.rest
