use Rattle.std.proofs.Common.{◌≡◌, Some, sym, ◌∙◌, ap}
use Rattle.std.proofs.lemmas.Result.{IfOk-weaker}
use Rattle.tree_model.specs.Trees as trees
use Rattle.tree_model.specs.Trees.{FileTree, node_at}
use Rattle.tree_model.specs.declared.entry.Node.TheVariants as node
use Rattle.closure_fixpoint.proofs.ToldTrees.{told-clause}
use Rattle.closure_fixpoint.proofs.entries.entry_at.Goals as goal

pub returns-in-Some-File-clause-entry : goal.returns-in-Some-File-clause-entry
returns-in-Some-File-clause-entry g c =
    λ told is.
    IfOk-weaker c.file_at.result
    (λ entry. node_at told c.args.path.now ≡ Some node.File → entry ≡ trees.entry_at told c.args.path.now)
    (λ entry. entry ≡ trees.entry_at told c.args.path.now)
    (λ entry h. h (sym (told-clause (g.T.Tree.told c.args.tree.now) told (λ (tree : FileTree). c.in_ok-node.field-0 ≡ node_at tree c.args.path.now) c.in_ok-node.ensures.answer is) ∙ c.in-Some-File.is ∙ ap (λ n. Some n) c.in-Some-File.field-0-is))
    (c.file_at.ensures.entry told (c.in_ok-node.ensures.same ∙ is))
