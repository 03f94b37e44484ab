use Rattle.std.proofs.Common.{◌∙◌, ap, sym, subst, Some}
use Rattle.tree_model.specs.Trees.{entry_at}
use Rattle.tree_model.specs.Walk.{components}
use Rattle.tree_model.specs.Reached.{reached}
use Rattle.tree_model.specs.parts.Glances.{Recalls}
use Rattle.tree_model.proofs.Below.{entry_none, below_missing, below_file}
use Rattle.tree_model.proofs.StepLemmas.{node_told, child_named}
use Rattle.tree_model.proofs.glance.glance_below.Goals as goal

pub returns-in-None-clause-tells : goal.returns-in-None-clause-tells
returns-in-None-clause-tells g c told is before =
    let it = subst (Recalls (reached told c.args.text.now) c.args.name.now) c.in-Child.is (c.in_ok-recall_child.ensures told is) in
    below_missing told before (components c.args.text.now) c.args.name.now it.0 it.1 it.2 it.3.0
    (ap (entry_at told) (sym (child_named it.0 c.args.name.now c.in-Child.path it.3.1)) ∙ entry_none told c.in-Child.path (sym c.in-None.is ∙ node_told _ told _ _ is c.in_ok-node-in-Child.ensures.answer))

pub returns-in-Some-File-clause-tells : goal.returns-in-Some-File-clause-tells
returns-in-Some-File-clause-tells g c told is before =
    let it = subst (Recalls (reached told c.args.text.now) c.args.name.now) c.in-Child.is (c.in_ok-recall_child.ensures told is) in
    below_file told before (components c.args.text.now) c.args.name.now it.0 it.1 it.2 it.3.0 (g.met.T.Tree.whole c.args.tree.now told is) c.in-Child.path (child_named it.0 c.args.name.now c.in-Child.path it.3.1)
    (sym (c.in-Some-File.is ∙ ap Some c.in-Some-File.field-0-is) ∙ node_told _ told _ _ is c.in_ok-node-in-Child.ensures.answer)
