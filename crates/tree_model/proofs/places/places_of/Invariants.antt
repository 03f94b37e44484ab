use Rattle.std.proofs.Common.{◌≡◌, take, true}
use Rattle.std.specs.List.{list_all}
use Rattle.tree_model.specs.parts.Placed.{is_placed}
use Rattle.tree_model.proofs.places.places_of.Given as goal

abbrev pub invariant-loop-i : goal.invariant-loop-i
invariant-loop-i l = list_all (is_placed l.places) (take l.i l.entries) ≡ true
