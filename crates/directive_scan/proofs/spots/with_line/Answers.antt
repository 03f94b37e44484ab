use Rattle.std.proofs.Common.{◌∙◌, sym, ap}
use Rattle.std.proofs.lemmas.Result.{IfOk-weaker}
use Rattle.directive_scan.specs.Gathered.{tokens_at_line}
use Rattle.directive_scan.specs.Spots.{so_far}
use Rattle.directive_scan.proofs.Steps.{line-directive, line-text}
use Rattle.directive_scan.proofs.spots.with_line.Goals as goal

pub returns-in-Some-clause-shown : goal.returns-in-Some-clause-shown
returns-in-Some-clause-shown c =
    let behind = so_far c.args.file.now c.args.gathered.ended.items c.args.gathered.run c.args.line in
    IfOk-weaker c.with_directive.result _ _
    (λ g same others. same others ∙ ap behind (sym (line-directive (tokens_at_line c.args.file.now c.args.line) c.in-Some.at others c.in-Some.ensures)))
    c.with_directive.ensures.shown

pub returns-in-None-clause-shown : goal.returns-in-None-clause-shown
returns-in-None-clause-shown c others =
    let behind = so_far c.args.file.now c.args.gathered.ended.items c.args.gathered.run c.args.line in
    c.with_text.ensures.shown others ∙ ap behind (sym (line-text (tokens_at_line c.args.file.now c.args.line) others c.in-None.ensures))
