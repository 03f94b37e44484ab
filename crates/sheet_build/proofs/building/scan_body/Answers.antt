use Rattle.std.proofs.Common.{◌≡◌, ℕ, List, ap, ◌∙◌}
use Rattle.std.specs.List.{filter_map}
use Rattle.pp_tokens.specs.Lines.{lexed}
use Rattle.pp_tokens.specs.DirectiveLines.{directives_alone}
use Rattle.directive_scan.specs.Directives.{pieces}
use Rattle.search_path.specs.Search.{search}
use Rattle.sheet_build.specs.Sheet.{definition_in, sheet_from}
use Rattle.sheet_build.proofs.Adding.{with_defs}
use Rattle.sheet_build.proofs.DirectivesAlone.{sheet_of_directives}
use Rattle.sheet_build.proofs.building.scan_body.Goals as goal

pub returns-clause-file : goal.returns-clause-file
returns-clause-file g c = λ told is.
    let find = search told c.args.setup.now in
    let visit = c.args.visit.now in
    let trigraphs = c.args.setup.now.trigraphs in
    let body = c.args.body in
    let lines = (lexed trigraphs body).lines in
    let read : c.in_ok-lexed.lexed ≡ directives_alone (lexed c.trigraphs.result body) =
    c.in_ok-lexed.ensures ∙ ap (λ (b : List ℕ). directives_alone (lexed c.trigraphs.result b)) c.in_ok-into_vec.ensures in
    let same : sheet_from find visit c.in_ok-pieces.pieces ≡ sheet_from find visit (pieces lines) =
    sheet_of_directives find visit c.in_ok-pieces.pieces c.in_ok-lexed.lexed c.trigraphs.result trigraphs body
    c.in_ok-pieces.ensures read c.trigraphs.ensures (c.directives_stand_alone.ensures lines) in
    ap (with_defs (filter_map definition_in c.in_ok-pieces.pieces)) (c.in_ok-parts.ensures.parts told is)
    ∙ same
