use Rattle.std.proofs.Common.{◌≡◌, drop}
use Rattle.closure_fixpoint.specs.Gathering as gathering
use Rattle.closure_fixpoint.specs.parts.Walked.{with_paths}
use Rattle.closure_fixpoint.proofs.nodes.add_files.Given as goal

abbrev pub invariant-loop-file : goal.invariant-loop-file
invariant-loop-file l = with_paths l.walked (gathering.walked_of (drop l.file-index l.files)) ≡ with_paths l.fn.walked (gathering.walked_of l.files)
