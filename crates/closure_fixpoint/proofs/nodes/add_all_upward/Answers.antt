use Rattle.std.proofs.Common.{◌<◌, ◌++◌, List, length, arith}
use Rattle.tree_model.specs.Paths.{Path}
use Rattle.closure_fixpoint.specs.parts.Walked.{upward_from, all_upward_from}
use Rattle.closure_fixpoint.proofs.Steps.{goes-on}
use Rattle.closure_fixpoint.proofs.WalkedLaws.{path-next}
use Rattle.closure_fixpoint.proofs.nodes.add_all_upward.Goals as goal

pub loop-number-preserved : goal.loop-number-preserved
loop-number-preserved c =
    let below : c.loop-number.number < length c.args.walked.now = omega arith in
    record {
      nodes =
          goes-on (λ (paths : List Path). all_upward_from c.args.walked.now paths) (upward_from c.args.walked.now c.at.result.now) c.args.walked.now c.loop-number.number c.loop-number.nodes.items
          c.add_upward_from.new.nodes.items (c.args.nodes.now.items ++ all_upward_from c.args.walked.now c.args.walked.now)
          (path-next (λ (p : Path). upward_from c.args.walked.now p) c.args.walked.now c.loop-number.number c.at.result.now below c.at.ensures)
          c.loop-number.invariant.nodes c.in_ok-add_upward_from.ensures.nodes;
      canonical = λ before. c.in_ok-add_upward_from.ensures.canonical (c.loop-number.invariant.canonical before);
    }
