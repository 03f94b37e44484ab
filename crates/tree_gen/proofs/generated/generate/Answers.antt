use Rattle.std.proofs.Common.{subst}
use Rattle.tree_model.specs.Entries.{Entries}
use Rattle.tree_gen.specs.Generated.{InOrder}
use Rattle.tree_gen.proofs.Apart.{nodes_apart}
use Rattle.tree_gen.proofs.Tree.{tree_made, links_right, bodies_small, nodes_counted}
use Rattle.tree_gen.proofs.Fits.{lines_short}
use Rattle.tree_gen.proofs.generated.generate.Goals as goal

pub in_order-requires : goal.in_order-requires
in_order-requires c = record { apart = rw c.in_ok-nodes.ensures (nodes_apart c.args.sources c.requires.few) }

pub returns-clause-tree : goal.returns-clause-tree
returns-clause-tree c =
    tree_made c.parents_make_trees.ensures c.args.sources c.in_ok-entries.entries.items c.requires.few
    (subst (λ (nodes : Entries). InOrder nodes c.in_ok-entries.entries.items) c.in_ok-nodes.ensures c.in_ok-entries.ensures)

pub returns-clause-links : goal.returns-clause-links
returns-clause-links c =
    links_right c.args.sources c.in_ok-entries.entries.items c.requires.few
    (subst (λ (nodes : Entries). InOrder nodes c.in_ok-entries.entries.items) c.in_ok-nodes.ensures c.in_ok-entries.ensures)

pub returns-clause-bodies : goal.returns-clause-bodies
returns-clause-bodies c =
    bodies_small c.args.sources c.in_ok-entries.entries.items c.requires.few
    (subst (λ (nodes : Entries). InOrder nodes c.in_ok-entries.entries.items) c.in_ok-nodes.ensures c.in_ok-entries.ensures)

pub returns-clause-count : goal.returns-clause-count
returns-clause-count c =
    nodes_counted c.args.sources c.in_ok-entries.entries.items
    (subst (λ (nodes : Entries). InOrder nodes c.in_ok-entries.entries.items) c.in_ok-nodes.ensures c.in_ok-entries.ensures)

pub returns-clause-short : goal.returns-clause-short
returns-clause-short c = rw c.in_ok-list.ensures (lines_short c.args.sources c.requires.few)
