use Rattle.std.proofs.Common.{◌≡◌, map, drop, take}
use Rattle.closure_fixpoint.specs.parts.Worklist.{with_visits}
use Rattle.closure_fixpoint.proofs.worklist.add_visits.Given as goal

-- the files that are left give what all gave, and those so far were added
abbrev pub invariant-loop-file : goal.invariant-loop-file
invariant-loop-file l = record {
  left : with_visits l.found (map (λ file. file.0) (drop l.file-index l.files)) ≡ with_visits l.fn.found (map (λ file. file.0) l.files);
  so_far : l.found ≡ with_visits l.fn.found (map (λ file. file.0) (take l.file-index l.files));
}
