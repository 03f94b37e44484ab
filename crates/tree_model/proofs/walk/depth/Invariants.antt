use Rattle.std.proofs.Common.{◌≡◌, take, ◌==◌}
use Rattle.std.specs.List.{count_by}
use Rattle.base_types.specs.Ascii.{slash}
use Rattle.tree_model.proofs.walk.depth.Given as goal

abbrev pub invariant-loop-b : goal.invariant-loop-b
invariant-loop-b l = l.count ≡ count_by (λ b. b == slash) (take l.b-index l.stem)
