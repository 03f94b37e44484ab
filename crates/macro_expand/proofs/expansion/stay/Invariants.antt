use Rattle.std.proofs.Common.{drop, map}
use Rattle.macro_expand.specs.parts.Steps.{EachStaysFor}
use Rattle.macro_expand.specs.Seen.{marked_of}
use Rattle.macro_expand.proofs.expansion.stay.Given as goal

abbrev pub invariant-loop-t : goal.invariant-loop-t
invariant-loop-t g l =
    EachStaysFor (g.A.Answers.answerer l.source) l.mode (map marked_of (drop l.t-index l.tokens)) → EachStaysFor (g.A.Answers.answerer l.source) l.mode (map marked_of l.tokens)
