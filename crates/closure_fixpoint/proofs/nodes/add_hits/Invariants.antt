use Rattle.std.proofs.Common.{◌≡◌, drop}
use Rattle.closure_fixpoint.specs.Gathering.{hits_walked}
use Rattle.closure_fixpoint.specs.parts.Walked.{with_paths}
use Rattle.closure_fixpoint.proofs.nodes.add_hits.Given as goal

abbrev pub invariant-loop-hit : goal.invariant-loop-hit
invariant-loop-hit l = with_paths l.walked (hits_walked (drop l.hit-index l.hits)) ≡ with_paths l.fn.walked (hits_walked l.hits)
