use Rattle.std.specs.Bool.{one_answer}
use Rattle.tree_model.specs.Paths.{is_same_path, is_same_path-Decides}
use Rattle.tree_model.proofs.path.CanonPathPartialEq.eq.Goals as goal

pub returns : goal.returns
returns c =
    one_answer c.spells_same.result (is_same_path c.args.self.now c.args.other.now) c.spells_same.ensures (is_same_path-Decides c.args.self.now c.args.other.now)
