use Rattle.std.proofs.Common.{◌≡◌, drop}
use Rattle.closure_fixpoint.specs.Gathering.{sheets_walked}
use Rattle.closure_fixpoint.specs.parts.Walked.{with_paths}
use Rattle.closure_fixpoint.proofs.nodes.add_sheets.Given as goal

abbrev pub invariant-loop-told : goal.invariant-loop-told
invariant-loop-told l = with_paths l.walked (sheets_walked (drop l.told-index l.sheets)) ≡ with_paths l.fn.walked (sheets_walked l.sheets)
