use Rattle.std.proofs.Common.{◌≡◌, map, ◌∙◌}
use Rattle.std.specs.List.{filter_map}
use Rattle.std.proofs.lemmas.Result.{IfOk-weaker}
use Rattle.pp_tokens.specs.Lines.{lexed}
use Rattle.pp_tokens.specs.DirectiveLines.{directives_alone}
use Rattle.directive_scan.specs.Directives.{pieces}
use Rattle.sheet_build.specs.Sheet.{named_pair, definition_in}
use Rattle.sheet_build.proofs.DirectivesAlone.{definitions_of_directives}
use Rattle.sheet_build.proofs.definitions.definitions_of_body.Goals as goal

pub returns : goal.returns
returns c =
    let body = c.args.body.now in
    let file = lexed c.args.trigraphs body in
    let read : c.in_ok-lexed.lexed ≡ directives_alone file =
    c.in_ok-lexed.ensures ∙ (λ i. directives_alone (lexed c.args.trigraphs (c.in_ok-text.ensures.items_if_clones_equal (λ x y e. e) i))) in
    IfOk-weaker c.definitions_in.result
    (λ defs. map named_pair defs ≡ filter_map definition_in c.in_ok-pieces.pieces)
    (λ defs. map named_pair defs ≡ filter_map definition_in (pieces file.lines))
    (λ defs e. e ∙ definitions_of_directives c.in_ok-pieces.pieces c.in_ok-lexed.lexed c.args.trigraphs body c.in_ok-pieces.ensures read (c.directives_stand_alone.ensures file.lines))
    c.definitions_in.ensures
