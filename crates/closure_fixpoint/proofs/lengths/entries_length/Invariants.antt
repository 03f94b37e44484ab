use Rattle.std.proofs.Common.{◌≡◌, ◌≤◌, ◌+◌, ◌*◌, length, take}
use Rattle.job_frames.specs.Spelling.{entry_bytes}
use Rattle.std.specs.List.{flat_map}
use Rattle.closure_fixpoint.proofs.lengths.entries_length.Given as goal

abbrev pub invariant-loop-entry : goal.invariant-loop-entry
invariant-loop-entry l = record {
  sum : l.sum ≡ 12 + length (flat_map entry_bytes (take l.entry-index l.entries));
  small : l.sum ≤ 12 + 17000000 * l.entry-index;
}
