use Rattle.std.proofs.Common.{◌≡◌, ◌≤◌, drop}
use Rattle.daemon_cpp.proofs.Lines.{capped_from}
use Rattle.daemon_cpp.proofs.line.value_of.Given as goal

-- what the digits that are left add
abbrev pub invariant-loop-byte : goal.invariant-loop-byte
invariant-loop-byte l = record {
  kept : capped_from l.value (drop l.byte-index l.text) ≡ capped_from 0 l.text;
  small : l.value ≤ 2147483648;
}
