use Rattle.std.proofs.Common.{◌++◌, ◌∷◌, []}
use Rattle.pp_tokens.specs.parts.Pieces.{FrontStays}
use Rattle.pp_tokens.proofs.source.short_run.Given as goal

abbrev pub invariant-loop-at : goal.invariant-loop-at
invariant-loop-at l = FrontStays l.trigraphs (l.rest ++ (10 ∷ [])) l.at
