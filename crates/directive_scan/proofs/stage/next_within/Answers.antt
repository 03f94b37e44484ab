use Rattle.std.proofs.Common.{◌∙◌}
use Rattle.std.proofs.lemmas.Result.{IfOk-weaker}
use Rattle.directive_scan.specs.declared.stage.Inner.TheVariants.{Malformed, End, Within}
use Rattle.directive_scan.proofs.PartSteps.{inner_more}
use Rattle.directive_scan.proofs.stage.next_within.Goals as goal

pub returns-in-Malformed-clause-shown : goal.returns-in-Malformed-clause-shown
returns-in-Malformed-clause-shown c others =
    inner_more c.args.parts.now c.args.name c.args.token.now c.args.tokens c.args.depth others c.sort_of.result Malformed c.sort_of.ensures c.in-Malformed.ensures.shown

pub returns-in-End-clause-shown : goal.returns-in-End-clause-shown
returns-in-End-clause-shown c =
    IfOk-weaker c.with_operand.result _ _
    (λ s same others. same others ∙ inner_more c.args.parts.now c.args.name c.args.token.now c.args.tokens c.args.depth others c.sort_of.result End c.sort_of.ensures c.in-End.ensures.shown)
    c.with_operand.ensures.shown

pub returns-in-Within-clause-shown : goal.returns-in-Within-clause-shown
returns-in-Within-clause-shown c =
    IfOk-weaker c.longer.result _ _
    (λ s is others.
    rw is
    (inner_more c.args.parts.now c.args.name c.args.token.now c.args.tokens c.args.depth others c.sort_of.result (Within c.in-Within.depth) c.sort_of.ensures c.in-Within.ensures.shown))
    c.longer.ensures
