use Rattle.std.specs.Prelude.{◌≡◌, IsTrue}
use Rattle.tree_model.specs.Entries.{links_fit}
use Rattle.case_texts.specs.Nodes.{entries_of}
use Rattle.case_texts.proofs.nodes.Nodes.into_entries.Given as goal

abbrev pub invariant-loop-node : goal.invariant-loop-node
invariant-loop-node l = (l.entries.items ≡ entries_of l.yielded) × IsTrue (links_fit l.entries.items)
