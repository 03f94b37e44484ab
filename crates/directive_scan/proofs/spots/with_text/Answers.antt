use Rattle.std.proofs.Common.{◌∙◌, ap}
use Rattle.std.specs.Prelude.{unwrap_or}
use Rattle.directive_scan.proofs.Spotted.{text_more, begins_more}
use Rattle.directive_scan.proofs.spots.with_text.Goals as goal

pub returns-clause-shown : goal.returns-clause-shown
returns-clause-shown c others =
    let run = c.args.gathered.run in
    text_more c.args.file.now c.args.gathered.ended.items run c.args.line c.unwrap_or-from.result others c.requires.below c.requires.begins
    (c.unwrap_or-from.ensures ∙ ap (unwrap_or run) c.tokens_before.ensures)

pub returns-clause-begins : goal.returns-clause-begins
returns-clause-begins c =
    let run = c.args.gathered.run in
    begins_more c.args.file.now run c.args.line c.unwrap_or-from.result c.requires.below c.requires.begins (c.unwrap_or-from.ensures ∙ ap (unwrap_or run) c.tokens_before.ensures)
