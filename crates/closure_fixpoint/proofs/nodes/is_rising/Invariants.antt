use Rattle.std.proofs.Common.{drop}
use Rattle.std.specs.Prelude.{IsTrue}
use Rattle.closure_fixpoint.specs.Gathering.{are_rising}
use Rattle.closure_fixpoint.proofs.nodes.is_rising.Given as goal

abbrev pub invariant-loop-i : goal.invariant-loop-i
invariant-loop-i l = IsTrue (are_rising (drop l.i l.paths)) → IsTrue (are_rising l.paths)
