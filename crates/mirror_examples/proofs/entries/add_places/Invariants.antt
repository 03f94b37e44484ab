use Rattle.std.specs.Prelude.{IsTrue}
use Rattle.tree_model.specs.Entries.{bodies_fit, links_fit}
use Rattle.mirror_examples.proofs.entries.add_places.Given as goal

abbrev pub invariant-loop-place : goal.invariant-loop-place
invariant-loop-place l = IsTrue (links_fit l.entries.items) × IsTrue (bodies_fit l.entries.items)
