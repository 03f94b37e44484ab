use Rattle.std.specs.Prelude.{IsTrue}
use Rattle.tree_model.specs.Entries.{links_fit}
use Rattle.worked_examples.proofs.example.entries_of.Given as goal

abbrev pub invariant-loop-placed : goal.invariant-loop-placed
invariant-loop-placed l = IsTrue (links_fit l.entries.items)
