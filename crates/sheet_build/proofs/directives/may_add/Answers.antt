use Rattle.std.proofs.Common.{sym, ◌∙◌}
use Rattle.directive_scan.specs.Names.{tokens_behind}
use Rattle.directive_scan.specs.Spots.{directive_seen}
use Rattle.sheet_build.proofs.Adding.{others-add-nothing, if-adds-nothing, elif-adds-nothing}
use Rattle.sheet_build.proofs.directives.may_add.Goals as goal

pub returns-in-If : goal.returns-in-If
returns-in-If c none =
    let ts = tokens_behind c.args.line in
    if-adds-nothing (directive_seen c.args.line) ts c.in-If.ensures (c.parts_without_probe.ensures ts (sym c.has_probe.ensures ∙ none))

pub returns-in-Elif : goal.returns-in-Elif
returns-in-Elif c none =
    let ts = tokens_behind c.args.line in
    elif-adds-nothing (directive_seen c.args.line) ts c.in-Elif.ensures (c.parts_without_probe.ensures ts (sym c.has_probe-in-Elif.ensures ∙ none))

pub returns-in_default : goal.returns-in_default
returns-in_default c none =
    others-add-nothing (directive_seen c.args.line) c.name.result (tokens_behind c.args.line) c.name.ensures
    c.in_default.not-Include c.in_default.not-Next c.in_default.not-Line c.in_default.not-If c.in_default.not-Elif
