use Rattle.std.proofs.Common.{◌≡◌, ◌≤◌, ◌+◌, ◌*◌, length, take}
use Rattle.job_frames.specs.Spelling.{field}
use Rattle.std.specs.Prelude.{codes}
use Rattle.std.specs.List.{flat_map}
use Rattle.closure_fixpoint.proofs.lengths.words_length.Given as goal

abbrev pub invariant-loop-word : goal.invariant-loop-word
invariant-loop-word l = record {
  sum : l.sum ≡ 12 + length (flat_map (field (codes "ARGV")) (take l.word-index l.words));
  small : l.sum ≤ 12 + 4200 * l.word-index;
}
