use Rattle.std.proofs.Common.{◌≡◌, drop}
use Rattle.closure_fixpoint.specs.Gathering.{searched_walked}
use Rattle.closure_fixpoint.specs.parts.Walked.{with_paths}
use Rattle.closure_fixpoint.proofs.nodes.add_searched.Given as goal

abbrev pub invariant-loop-number : goal.invariant-loop-number
invariant-loop-number l = with_paths l.walked (searched_walked (drop l.number l.searches)) ≡ with_paths l.fn.walked (searched_walked l.searches)
