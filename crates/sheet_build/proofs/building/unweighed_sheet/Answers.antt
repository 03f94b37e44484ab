use Rattle.std.proofs.Common.{◌≡◌, Option, Some, List, ℕ, sym, ap, subst, ◌∙◌}
use Rattle.std.specs.Prelude.{IfSome}
use Rattle.std.specs.List.{filter_map}
use Rattle.std.specs.Option.{option_map}
use Rattle.pp_tokens.specs.Lines.{lexed}
use Rattle.directive_scan.specs.Directives.{pieces}
use Rattle.tree_model.specs.Paths.{Text, Path}
use Rattle.tree_model.specs.Bodies.{body_at_path, body_within}
use Rattle.search_path.specs.Search.{search}
use Rattle.sheet_build.specs.Sheet.{body_of_place, definition_in}
use Rattle.sheet_build.specs.parts.Stored.{asked_from, sheet_with}
use Rattle.sheet_build.specs.declared.building.ReadFile.{ReadFile}
use Rattle.sheet_build.proofs.Adding.{with_defs}
use Rattle.sheet_build.proofs.Bodies.{sheet-body, small-body, file-at}
use Rattle.sheet_build.proofs.building.unweighed_sheet.Goals as goal

pub returns-clause-sheet : goal.returns-clause-sheet
returns-clause-sheet g c = λ told is.
    let setup = c.args.setup.now in
    let visit = c.args.visit.now in
    let body = c.in-Some.file.body in
    let defs = filter_map definition_in (pieces (lexed setup.trigraphs body).lines) in
    let found : Some body ≡ body_within (body_of_place told visit.place) =
    sym (ap (option_map (λ (f : ReadFile). f.body)) c.in-Some.is) ∙ c.in_ok-file.ensures.body told is in
    c.in_ok-sheet.ensures
    ∙ (λ i. sheet_with (filter_map definition_in (pieces (lexed (c.trigraphs.ensures i) ((c.in_ok-share.ensures ∙ c.in_ok-body.ensures) i)).lines)) c.in_ok-parts.parts)
    ∙ ap (with_defs defs)
    (c.in_ok-parts.ensures.parts told (c.in_ok-file.ensures.same ∙ is)
    ∙ ap (λ (b : List ℕ). asked_from (search told setup) visit (pieces (lexed setup.trigraphs b).lines)) (c.as_slice.ensures ∙ c.in_ok-body.ensures))
    ∙ sheet-body told setup visit body found

pub returns-clause-small : goal.returns-clause-small
returns-clause-small g c = λ told is.
    small-body told c.args.visit.now c.in-Some.file.body (sym (ap (option_map (λ (f : ReadFile). f.body)) c.in-Some.is) ∙ c.in_ok-file.ensures.body told is)

pub returns-clause-file : goal.returns-clause-file
returns-clause-file g c = λ told is.
    let there : IfSome c.in-Some.file.real (λ path. c.in-Some.file.body ≡ body_at_path told path) =
    subst (λ (read : Option ReadFile). IfSome read (λ f. IfSome f.real (λ path. f.body ≡ body_at_path told path))) c.in-Some.is (c.in_ok-file.ensures.real told is) in
    subst (λ (file : Option (Path × Text)). IfSome file (λ f. f.1 ≡ body_at_path told f.0)) (sym c.at_path.ensures)
    (file-at told c.in-Some.file.real c.in_ok-body.body c.in-Some.file.body c.in_ok-body.ensures there)
