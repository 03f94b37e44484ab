use Rattle.std.proofs.Common.{◌≡◌, ◌+◌, take}
use Rattle.closure_fixpoint.specs.Naming.{Follows}
use Rattle.closure_fixpoint.specs.Targets.{heard_of, DoneWithAll}
use Rattle.closure_fixpoint.proofs.targets.of_targets.Given as goal

-- nothing is wanted of the targets so far
abbrev pub invariant-loop-target : goal.invariant-loop-target
invariant-loop-target l = record {
  follows : Follows l.naming l.job l.sheets;
  done : DoneWithAll l.job l.budget (heard_of l.searches l.sheets) l.found l.visit l.sheet (take l.target-index l.targets);
  counted : l.number ≡ l.first + l.target-index;
}
