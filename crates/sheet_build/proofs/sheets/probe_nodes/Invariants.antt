use Rattle.std.proofs.Common.{◌≡◌, ◌-◌, ◌^◌, take, length}
use Rattle.std.specs.Prelude.{min, sum_by}
use Rattle.tree_model.specs.declared.walk.Located.{Located}
use Rattle.sheet_build.proofs.sheets.probe_nodes.Given as goal

abbrev pub invariant-loop-located : goal.invariant-loop-located
invariant-loop-located l = l.nodes ≡ min (2 ^ 64 - 1) (sum_by (λ (located : Located). length located.walked) (take l.located-index l.probes))
