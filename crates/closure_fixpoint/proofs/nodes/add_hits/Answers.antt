use Rattle.std.proofs.Common.{◌<◌, List, length, ap, arith}
use Rattle.search_path.specs.Search.{Hit}
use Rattle.macro_defs.proofs.Fronts.{front_at}
use Rattle.closure_fixpoint.specs.Gathering.{hits_walked}
use Rattle.closure_fixpoint.specs.parts.Walked.{with_paths}
use Rattle.closure_fixpoint.proofs.WalkedLaws.{walks-on}
use Rattle.closure_fixpoint.proofs.nodes.add_hits.Goals as goal

pub loop-hit-preserved : goal.loop-hit-preserved
loop-hit-preserved c =
    let below : c.loop-hit.hit-index < length c.args.hits.now = omega arith in
    walks-on (λ (hits : List Hit). hits_walked hits) c.hit-item.result.1.walked c.args.hits.now c.loop-hit.hit-index c.loop-hit.walked c.add_nodes.new.walked
    (with_paths c.args.walked.now (hits_walked c.args.hits.now))
    (ap (λ (hits : List Hit). hits_walked hits) (front_at c.args.hits.now c.loop-hit.hit-index c.hit-item.result below c.hit-item.is))
    c.loop-hit.invariant
    c.in_ok-add_nodes.ensures
