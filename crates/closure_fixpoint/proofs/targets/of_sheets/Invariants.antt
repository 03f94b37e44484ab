use Rattle.std.proofs.Common.{◌≡◌, take, length}
use Rattle.closure_fixpoint.specs.Naming.{Follows, asked_targets}
use Rattle.closure_fixpoint.specs.Targets.{heard_of, DoneWithSheets}
use Rattle.closure_fixpoint.proofs.targets.of_sheets.Given as goal

-- nothing is wanted of the targets of the sheets so far
abbrev pub invariant-loop-told : goal.invariant-loop-told
invariant-loop-told l = record {
  follows : Follows l.naming l.job l.sheets;
  done : DoneWithSheets l.job l.budget (heard_of l.searches l.sheets) l.found (take l.told-index l.sheets);
  counted : l.number ≡ length (asked_targets (take l.told-index l.sheets));
}
