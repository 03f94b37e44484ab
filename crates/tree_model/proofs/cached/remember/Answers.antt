use Rattle.tree_model.specs.Paths.{is_same_path, is_same_path-Decides}
use Rattle.tree_model.specs.parts.Remembered.{known_in}
use Rattle.tree_model.proofs.RememberedLemmas.{others_stay, one_more, still_true}
use Rattle.tree_model.proofs.cached.remember.Goals as goal

pub returns-clause-others : goal.returns-clause-others
returns-clause-others c =
    others_stay is_same_path is_same_path-Decides c.args.known.now c.insert.new.self c.args.path.now c.in_ok-key.key c.in_ok-copy.copy c.insert.result c.in_ok-key.ensures c.insert.ensures.updates c.insert.ensures.err

pub returns-clause-true_of : goal.returns-clause-true_of
returns-clause-true_of c told told' =
    still_true told told' (known_in c.args.known.now) (known_in c.insert.new.self) c.args.path.now c.args.got.now
    (one_more is_same_path is_same_path-Decides c.args.known.now c.insert.new.self c.args.path.now c.in_ok-key.key c.args.got.now c.in_ok-copy.copy c.insert.result c.in_ok-key.ensures c.in_ok-copy.ensures.ok c.insert.ensures.updates c.insert.ensures.err)
