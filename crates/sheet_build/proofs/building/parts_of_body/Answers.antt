use Rattle.std.proofs.Common.{◌≡◌, ap, ◌∙◌}
use Rattle.std.proofs.lemmas.Result.{IfOk-weaker}
use Rattle.pp_tokens.specs.Lines.{LexedFile, lexed}
use Rattle.pp_tokens.specs.DirectiveLines.{asking_alone}
use Rattle.directive_scan.specs.Directives.{pieces}
use Rattle.search_path.specs.Search.{search}
use Rattle.sheet_build.specs.parts.Stored.{sheet_of_parts, asked_from}
use Rattle.sheet_build.proofs.AskingLines.{asked_of_directives}
use Rattle.sheet_build.proofs.building.parts_of_body.Goals as goal

pub returns-clause-parts : goal.returns-clause-parts
returns-clause-parts g c = λ told is.
    let find = search told c.args.setup.now in
    let visit = c.args.visit.now in
    let file = lexed c.args.setup.now.trigraphs c.args.body.now in
    let read : c.in_ok-lexed.lexed ≡ asking_alone file =
    c.in_ok-lexed.ensures ∙ (λ i. asking_alone (lexed (c.trigraphs.ensures i) (c.in_ok-text.ensures.items_if_clones_equal (λ x y e. e) i))) in
    let same : asked_from find visit c.in_ok-pieces.pieces ≡ asked_from find visit (pieces file.lines) =
    ap (asked_from find visit) (c.in_ok-pieces.ensures ∙ ap (λ (f : LexedFile). pieces f.lines) read) ∙ asked_of_directives find visit file.lines in
    IfOk-weaker c.parts_of_pieces.result
    (λ parts. sheet_of_parts parts ≡ asked_from find visit c.in_ok-pieces.pieces)
    (λ parts. sheet_of_parts parts ≡ asked_from find visit (pieces file.lines))
    (λ parts e. e ∙ same)
    (c.parts_of_pieces.ensures.parts told is)
