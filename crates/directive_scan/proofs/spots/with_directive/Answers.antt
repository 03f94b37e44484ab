use Rattle.std.proofs.Common.{refl}
use Rattle.directive_scan.specs.declared.spots.Spot.TheVariants.{Line}
use Rattle.directive_scan.specs.Spots.{directive_on}
use Rattle.directive_scan.proofs.Spotted.{role_more, directive_more}
use Rattle.directive_scan.proofs.spots.with_directive.Goals as goal

pub returns-clause-names : goal.returns-clause-names
returns-clause-names c each =
    rw (c.in_ok-push.ensures.items, c.in_ok-spot.ensures)
    (role_more c.args.file.now c.in_ok-ended.ended.items (Line c.name_at.result c.args.line c.args.at) (c.in_ok-ended.ensures.names each) c.name_at.ensures)

pub returns-clause-shown : goal.returns-clause-shown
returns-clause-shown c others =
    let gathered = c.args.gathered in
    rw (c.in_ok-push.ensures.items, c.in_ok-spot.ensures)
    (directive_more c.args.file.now gathered.ended.items c.in_ok-ended.ended.items gathered.run c.args.line (Line c.name_at.result c.args.line c.args.at) c.args.at
    (directive_on c.args.file.now c.args.line) others c.in_ok-ended.ensures.shown refl)
