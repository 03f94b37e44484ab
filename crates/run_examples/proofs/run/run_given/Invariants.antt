use Rattle.std.proofs.Common.{Some}
use Rattle.tree_model.specs.Trees.{tree_of}
use Rattle.run_examples.proofs.run.run_given.Given as goal

-- the tree of the run's entries is the one that is named
abbrev pub ghosts-run_named : goal.ghosts-run_named
ghosts-run_named g a = record { named = Some (tree_of a.entries.items) }
