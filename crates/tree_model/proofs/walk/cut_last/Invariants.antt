use Rattle.std.proofs.Common.{◌≤◌, length}
use Rattle.tree_model.proofs.CutLemmas.{UnslashedFrom}
use Rattle.tree_model.proofs.walk.cut_last.Given as goal

abbrev pub invariant-loop-at : goal.invariant-loop-at
invariant-loop-at l = record { within : l.at ≤ length l.text; unslashed : UnslashedFrom l.text l.at }

abbrev pub decreases-loop-at : goal.decreases-loop-at
decreases-loop-at l = l.at
