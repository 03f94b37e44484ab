use Rattle.std.proofs.Common.{◌≡◌, ◌++◌, length, take}
use Rattle.std.specs.Prelude.{codes}
use Rattle.std.specs.List.{flat_map}
use Rattle.job_frames.specs.Spelling.{token, entry_bytes}
use Rattle.job_frames.proofs.writers.push_entries.Given as goal

abbrev pub invariant-loop-e : goal.invariant-loop-e
invariant-loop-e l = l.out.items ≡ l.fn.out.items ++ (token (codes "NFIL") (length l.entries) ++ flat_map entry_bytes (take l.e-index l.entries))
