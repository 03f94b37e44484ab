use Rattle.std.proofs.Common.{◌∙◌, ap, sym, subst, Some}
use Rattle.tree_model.specs.Reached.{reached}
use Rattle.tree_model.specs.parts.Glances.{Recalls}
use Rattle.tree_model.proofs.Further.{below_none, below_absent, below_a_file, below_a_dir}
use Rattle.tree_model.proofs.StepLemmas.{node_told}
use Rattle.tree_model.proofs.learn.look_below.Goals as goal

pub returns-in-Nowhere-clause-tells : goal.returns-in-Nowhere-clause-tells
returns-in-Nowhere-clause-tells g c told is =
    below_none told c.args.text.now c.args.name.now
    (subst (Recalls (reached told c.args.text.now) c.args.name.now) c.in-Nowhere.is (c.in_ok-recall_child.ensures told is))

pub returns-in-None-clause-tells : goal.returns-in-None-clause-tells
returns-in-None-clause-tells g c told is =
    let it = subst (Recalls (reached told c.args.text.now) c.args.name.now) c.in-Child.is (c.in_ok-recall_child.ensures told is) in
    below_absent told c.args.text.now c.args.name.now it.0 it.1 it.2 it.3.0 c.in-Child.path it.3.1
    (sym c.in-None.is ∙ node_told _ told _ _ is c.in_ok-node-in-Child.ensures.answer)

pub returns-in-Some-File-clause-tells : goal.returns-in-Some-File-clause-tells
returns-in-Some-File-clause-tells g c told is =
    let it = subst (Recalls (reached told c.args.text.now) c.args.name.now) c.in-Child.is (c.in_ok-recall_child.ensures told is) in
    below_a_file told c.args.text.now c.args.name.now it.0 it.1 it.2 it.3.0 c.in-Child.path it.3.1
    (sym (c.in-Some-File.is ∙ ap Some c.in-Some-File.field-0-is) ∙ node_told _ told _ _ is c.in_ok-node-in-Child.ensures.answer)

pub returns-in-Some-clause-tells : goal.returns-in-Some-clause-tells
returns-in-Some-clause-tells g c told is =
    let it = subst (Recalls (reached told c.args.text.now) c.args.name.now) c.in-Child.is (c.in_ok-recall_child.ensures told is) in
    let seen = rw c.in-Some.is at c.in_ok-nodes-in-Some-Dir.ensures in
    below_a_dir told c.args.text.now c.args.name.now it.0 it.1 it.2 it.3.0 c.in-Child.path it.3.1 (c.in-Some.nodes, c.in-Some.links)
    (seen told (c.in_ok-node-in-Child.ensures.same ∙ is))
    (sym (c.in-Some-Dir.is ∙ ap Some c.in-Some-Dir.field-0-is) ∙ node_told _ told _ _ is c.in_ok-node-in-Child.ensures.answer)
