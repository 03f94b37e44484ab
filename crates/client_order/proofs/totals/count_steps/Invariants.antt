use Rattle.std.proofs.Common.{◌≡◌, ◌≤◌, take}
use Rattle.client_order.specs.parts.Merged.{totals_of}
use Rattle.client_order.proofs.totals.count_steps.Given as goal

abbrev pub invariant-loop-step : goal.invariant-loop-step
invariant-loop-step l = record {
  totals : record { looks = l.looks; hits = l.hits; kept = l.kept; already = l.already; full = l.full } ≡ totals_of (take l.step-index l.steps);
  looks : l.looks ≤ l.step-index;
  hits : l.hits ≤ l.step-index;
  kept : l.kept ≤ l.step-index;
  already : l.already ≤ l.step-index;
  full : l.full ≤ l.step-index;
}
