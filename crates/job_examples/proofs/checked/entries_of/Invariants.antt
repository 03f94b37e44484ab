use Rattle.std.specs.Prelude.{IsTrue}
use Rattle.tree_model.specs.Entries.{links_fit}
use Rattle.job_examples.proofs.checked.entries_of.Given as goal

abbrev pub invariant-loop-path : goal.invariant-loop-path
invariant-loop-path l = IsTrue (links_fit l.entries.items)
