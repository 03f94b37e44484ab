use Rattle.std.proofs.Common.{◌≡◌, ◌≤◌, drop}
use Rattle.host_slots.specs.parts.Numbers.{number_behind}
use Rattle.host_slots.proofs.number.number_behind.Given as goal

abbrev pub invariant-loop-b : goal.invariant-loop-b
invariant-loop-b l = record {
  read : number_behind l.most l.fn.n l.digits ≡ number_behind l.most l.n (drop l.b-index l.digits);
  later : l.fn.n ≤ l.n;
  within : l.n ≤ l.most;
}
