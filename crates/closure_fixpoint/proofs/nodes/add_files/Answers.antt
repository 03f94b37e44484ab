use Rattle.std.proofs.Common.{◌<◌, List, length, ap, arith}
use Rattle.tree_model.specs.declared.walk.Located.{Located}
use Rattle.macro_defs.proofs.Fronts.{front_at}
use Rattle.closure_fixpoint.specs.Gathering as gathering
use Rattle.closure_fixpoint.specs.parts.Walked.{with_paths}
use Rattle.closure_fixpoint.proofs.WalkedLaws.{walks-on}
use Rattle.closure_fixpoint.proofs.nodes.add_files.Goals as goal

pub loop-file-preserved : goal.loop-file-preserved
loop-file-preserved c =
    let below : c.loop-file.file-index < length c.args.files.now = omega arith in
    walks-on (λ (files : List Located). gathering.walked_of files) c.file-item.result.walked c.args.files.now c.loop-file.file-index c.loop-file.walked c.add_nodes.new.walked
    (with_paths c.args.walked.now (gathering.walked_of c.args.files.now))
    (ap (λ (files : List Located). gathering.walked_of files) (front_at c.args.files.now c.loop-file.file-index c.file-item.result below c.file-item.is))
    c.loop-file.invariant
    c.in_ok-add_nodes.ensures
