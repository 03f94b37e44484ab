-- What the code's values mean.
use Rattle.closure_fixpoint.specs.declared.fixpoint.Wait.{Wait}
use Rattle.closure_fixpoint.specs.declared.fixpoint.Wait.TheVariants as wait
use Rattle.std.specs.Prelude.{Option, None, Some}
use Rattle.closure_fixpoint.specs.declared.fixpoint.End.{End}
use Rattle.closure_fixpoint.specs.declared.fixpoint.End.TheVariants as end
use Rattle.closure_fixpoint.specs.Told.{Pending, NothingAsked, OfSearch, OfSheet, Ended, Finished, RefusedBy}

abbrev pub pending_of : Wait → Pending
pending_of wait.Nothing = NothingAsked
pending_of (wait.Search ask include) = OfSearch ask include
pending_of (wait.Sheet visit) = OfSheet visit

abbrev pub ended_by : End → Ended
ended_by end.Done = Finished
ended_by (end.Refused refusal) = RefusedBy refusal

abbrev pub ended_of : Option End → Option Ended
ended_of None = None
ended_of (Some e) = Some (ended_by e)
