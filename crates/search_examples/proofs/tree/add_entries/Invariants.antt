use Rattle.std.specs.Prelude.{IsTrue}
use Rattle.tree_model.specs.Entries.{links_fit}
use Rattle.search_examples.proofs.tree.add_entries.Given as goal

abbrev pub invariant-loop-place : goal.invariant-loop-place
invariant-loop-place l = IsTrue (links_fit l.entries.items)
