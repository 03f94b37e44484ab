use Rattle.std.proofs.Common.{sym, ◌∙◌, subst, IsTrue}
use Rattle.std.proofs.lemmas.Option.{none-some}
use Rattle.tree_model.specs.Entries.{Entries}
use Rattle.tree_model.specs.parts.Placed.{all_placed}
use Rattle.mirror_tree.proofs.mirror.Mirror.of.Goals as goal

pub invariant_of-result : goal.invariant_of-result
invariant_of-result c = record {
  made = c.requires.made;
  placed = subst (λ (es : Entries). IsTrue (all_placed c.of-places.result.known es)) c.as_slice.ensures c.of-places.ensures;
  is_tree = c.lists_make_trees.ensures c.args.entries c.requires.made;
  small = c.fitting_bodies_are_small.ensures c.args.entries c.requires.bodies;
  true_walks = record { same = λ text it found tree is. absurd (none-some it (sym (c.new.ensures text) ∙ found)) };
}
