use Rattle.std.proofs.Common.{IsTrue}
use Rattle.tree_model.specs.Entries.{links_fit}
use Rattle.sheet_examples.proofs.sheets.add_entries.Given as goal

abbrev pub invariant-loop-place : goal.invariant-loop-place
invariant-loop-place l = IsTrue (links_fit l.entries.items)
