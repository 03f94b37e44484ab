use Rattle.directive_scan.specs.declared.spots.Spot.TheVariants.{Text}
use Rattle.directive_scan.proofs.Spotted.{role_more}
use Rattle.directive_scan.proofs.spots.all_ended.Goals as goal
use Rattle.directive_scan.proofs.spots.all_ended.Goals.{in-Some+in_ok-spot+in_ok-push, in_default}

pub returns-clause-names : goal.returns-clause-names
returns-clause-names c each =
    elim c.match-run.branch [
      | in-Some+in_ok-spot+in_ok-push w ↦
          rw (w.ended-is, w.in_ok-push.ensures.items, w.in_ok-spot.ensures) (role_more c.args.file.now c.args.gathered.ended.items (Text w.in-Some.from w.tokens_before.result) each tt)
      | in_default w ↦ rw w.ended-is each
    ]
