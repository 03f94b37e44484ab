use Rattle.std.proofs.Common.{◌<◌, List, Option, length, arith}
use Rattle.search_path.specs.Search.{Hit}
use Rattle.search_path.specs.declared.asking.Ask.{Ask}
use Rattle.closure_fixpoint.specs.Gathering.{found_walked, searched_walked}
use Rattle.closure_fixpoint.specs.parts.Walked.{with_paths}
use Rattle.closure_fixpoint.proofs.WalkedLaws.{walks-on}
use Rattle.closure_fixpoint.proofs.NodesTold.{searches-next}
use Rattle.closure_fixpoint.proofs.nodes.add_searched.Goals as goal

pub loop-number-preserved : goal.loop-number-preserved
loop-number-preserved c =
    let below : c.loop-number.number < length c.args.searches.now = omega arith in
    walks-on (λ (searches : List (Ask × Option Hit)). searched_walked searches) (found_walked c.found_by.result.now) c.args.searches.now c.loop-number.number
    c.loop-number.walked c.add_found.new.walked (with_paths c.args.walked.now (searched_walked c.args.searches.now))
    (searches-next c.args.searches.now c.loop-number.number c.found_by.result.now below c.found_by.ensures)
    c.loop-number.invariant c.in_ok-add_found.ensures
