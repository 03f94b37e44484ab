use Rattle.mirror_soundness.proofs.MadeTree.{makes_tree_of, part_of_whole}
use Rattle.mirror_soundness.proofs.Enough.{is_enough, touches_nodes, is_analysed}
use Rattle.mirror_soundness.proofs.mirror_is_enough.Goals as goal

pub returns-clause-tree : goal.returns-clause-tree
returns-clause-tree c tree job entries whole are =
    let made = makes_tree_of c.tests_decide.ensures tree job entries whole are c.parents_make_trees.ensures in
    (made, part_of_whole c.tests_decide.ensures tree job entries whole are c.entries_of_trees.ensures.nodes)

pub returns-clause-touched : goal.returns-clause-touched
returns-clause-touched c =
    touches_nodes c.closures.ensures.exist c.places_locate.ensures c.choice_fact.ensures c.outline_holds.ensures c.walked_law.ensures c.leads_law.ensures c.searches_locate.ensures

pub returns-clause-enough : goal.returns-clause-enough
returns-clause-enough c =
    is_enough c.closures.ensures.exist c.places_locate.ensures c.choice_fact.ensures c.outline_holds.ensures c.lists_make_trees.ensures c.entries_of_trees.ensures.entries
    c.entries_of_trees.ensures.nodes c.tests_decide.ensures c.parents_make_trees.ensures c.search_frame.ensures.found c.search_frame.ensures.not_found
    c.walked_law.ensures c.leads_law.ensures c.searches_locate.ensures

pub returns-clause-analysed : goal.returns-clause-analysed
returns-clause-analysed c = is_analysed
