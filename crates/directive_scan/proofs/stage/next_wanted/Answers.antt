use Rattle.std.proofs.Common.{sym}
use Rattle.directive_scan.proofs.PartSteps.{opened, not_opened}
use Rattle.directive_scan.proofs.stage.next_wanted.Goals as goal

pub returns-then-not-opens-clause-shown : goal.returns-then-not-opens-clause-shown
returns-then-not-opens-clause-shown c parts others =
    not_opened parts c.args.name c.args.token.now others c.sort_of.result c.sort_of.ensures (sym c.if-not-opens.ensures)

pub returns-clause-shown : goal.returns-clause-shown
returns-clause-shown c parts others =
    rw c.new.ensures (opened parts c.args.name c.args.token.now others c.sort_of.result c.sort_of.ensures (sym c.if-not-opens.ensures))
