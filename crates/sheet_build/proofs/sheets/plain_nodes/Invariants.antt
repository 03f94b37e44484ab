use Rattle.std.proofs.Common.{◌≡◌, ◌-◌, ◌^◌, take, length}
use Rattle.std.specs.Prelude.{min, sum_by}
use Rattle.search_path.specs.Search.{Hit}
use Rattle.sheet_build.proofs.sheets.plain_nodes.Given as goal

abbrev pub invariant-loop-hit : goal.invariant-loop-hit
invariant-loop-hit l = l.nodes ≡ min (2 ^ 64 - 1) (sum_by (λ (hit : Hit). length hit.1.walked) (take l.hit-index l.plain))
