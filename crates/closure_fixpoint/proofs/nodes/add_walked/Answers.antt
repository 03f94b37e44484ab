use Rattle.std.proofs.Common.{◌<◌, ◌∷◌, [], List, length, arith}
use Rattle.tree_model.specs.Paths.{Path}
use Rattle.macro_defs.proofs.Fronts.{front_at}
use Rattle.closure_fixpoint.specs.parts.Walked.{with_paths}
use Rattle.closure_fixpoint.proofs.WalkedLaws.{walks-on, with-one}
use Rattle.closure_fixpoint.proofs.nodes.add_walked.Goals as goal

pub loop-path-preserved : goal.loop-path-preserved
loop-path-preserved c =
    let below : c.loop-path.path-index < length c.args.paths.now = omega arith in
    walks-on (λ (paths : List Path). paths) (c.path-item.result ∷ []) c.args.paths.now c.loop-path.path-index c.loop-path.walked c.add.new.self
    (with_paths c.args.walked.now c.args.paths.now)
    (front_at c.args.paths.now c.loop-path.path-index c.path-item.result below c.path-item.is)
    c.loop-path.invariant (with-one c.loop-path.walked c.path-item.result c.add.new.self c.in_ok-add.ensures)
