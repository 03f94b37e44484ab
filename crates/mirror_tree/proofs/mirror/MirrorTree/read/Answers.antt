use Rattle.std.proofs.Common.{rules, ◌≡◌, Some}
use Rattle.tree_model.specs.Trees.{tree_of, body_at}
use Rattle.mirror_tree.proofs.mirror.MirrorTree.read.Goals as goal

pub returns-in-File-clause-form : goal.returns-in-File-clause-form
returns-in-File-clause-form c =
    let there : body_at (tree_of c.args.self.now.entries) c.args.path.now ≡ Some c.in_ok-copied-in-File.field-0 = search rules in
    c.args.self.now.small c.args.path.now c.in_ok-copied-in-File.field-0 there
