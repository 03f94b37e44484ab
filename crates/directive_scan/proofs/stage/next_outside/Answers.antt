use Rattle.std.proofs.Common.{◌∙◌, sym}
use Rattle.std.proofs.lemmas.Result.{IfOk-weaker}
use Rattle.directive_scan.specs.Operands.{outside}
use Rattle.directive_scan.proofs.PartSteps.{asked, written_more}
use Rattle.directive_scan.proofs.stage.next_outside.Goals as goal

pub returns-then-asks-clause-shown : goal.returns-then-asks-clause-shown
returns-then-asks-clause-shown c others =
    rw c.in_ok-copied.ensures (asked c.args.parts.now c.args.token.now others c.sort_of-sort.result c.sort_of-sort.ensures (sym c.if-asks.ensures))

pub returns-clause-shown : goal.returns-clause-shown
returns-clause-shown c =
    IfOk-weaker c.with_written.result _ _
    (λ s same others. same others ∙ written_more c.args.parts.now c.args.token.now others c.sort_of-sort.result outside c.behind_other.result c.sort_of-sort.ensures c.behind_other.ensures.shown)
    c.with_written.ensures.shown
