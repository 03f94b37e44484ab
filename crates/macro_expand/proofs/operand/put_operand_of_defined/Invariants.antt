use Rattle.std.proofs.Common.{◌≡◌, ◌≤◌, ◌++◌, length, take, drop}
use Rattle.macro_expand.proofs.operand.put_operand_of_defined.Given as goal

abbrev pub invariant-loop-token : goal.invariant-loop-token
invariant-loop-token l = record {
  put : l.out.items ≡ l.initial.out.items ++ take l._token l.initial.pending;
  left : l.pending ≡ drop l._token l.initial.pending;
  shorter : length l.pending ≤ length l.initial.pending;
}
