use Rattle.directive_scan.proofs.Asking.{asks_nothing}
use Rattle.std.specs.Arc.{arc_value}
use Rattle.directive_scan.specs.Spots.{tokens_between}
use Rattle.directive_scan.proofs.asked.asked_by.Goals as goal

pub returns-in_default : goal.returns-in_default
returns-in_default c =
    asks_nothing c.args.name (tokens_between (arc_value c.args.file.now) c.args.from c.args.end) c.in_default.not-If c.in_default.not-Ifdef c.in_default.not-Ifndef c.in_default.not-Elif c.in_default.not-Define
