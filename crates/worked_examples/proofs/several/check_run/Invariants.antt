use Rattle.std.proofs.Common.{Some}
use Rattle.tree_model.specs.Trees.{tree_of}
use Rattle.worked_examples.proofs.several.check_run.Given as goal

-- the tree of the run's entries is the one that is named
abbrev pub ghosts-run_at_ends : goal.ghosts-run_at_ends
ghosts-run_at_ends g a = record { named = Some (tree_of a.entries.now) }
