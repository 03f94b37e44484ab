use Rattle.std.proofs.Common.{◌∙◌}
use Rattle.std.proofs.lemmas.Result.{IfOk-weaker}
use Rattle.directive_scan.specs.Operands.{behind_defined, behind_opening}
use Rattle.directive_scan.proofs.PartSteps.{written_more}
use Rattle.directive_scan.proofs.stage.next.Goals as goal

pub returns-in-BehindDefined-clause-shown : goal.returns-in-BehindDefined-clause-shown
returns-in-BehindDefined-clause-shown c =
    rw c.in-BehindDefined.is
    (IfOk-weaker c.with_written.result _ _
    (λ s same others. same others ∙ written_more c.args.parts.now c.args.token.now others c.sort_of.result behind_defined c.behind_defined.result c.sort_of.ensures c.behind_defined.ensures.shown)
    c.with_written.ensures.shown)

pub returns-in-BehindOpening-clause-shown : goal.returns-in-BehindOpening-clause-shown
returns-in-BehindOpening-clause-shown c =
    rw c.in-BehindOpening.is
    (IfOk-weaker c.with_written-in-BehindOpening.result _ _
    (λ s same others.
    same others
    ∙ written_more c.args.parts.now c.args.token.now others c.sort_of-in-BehindOpening.result behind_opening c.behind_opening.result c.sort_of-in-BehindOpening.ensures c.behind_opening.ensures.shown)
    c.with_written-in-BehindOpening.ensures.shown)
