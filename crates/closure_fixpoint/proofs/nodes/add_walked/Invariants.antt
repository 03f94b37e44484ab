use Rattle.std.proofs.Common.{◌≡◌, drop}
use Rattle.closure_fixpoint.specs.parts.Walked.{with_paths}
use Rattle.closure_fixpoint.proofs.nodes.add_walked.Given as goal

abbrev pub invariant-loop-path : goal.invariant-loop-path
invariant-loop-path l = with_paths l.walked (drop l.path-index l.paths) ≡ with_paths l.fn.walked l.paths
