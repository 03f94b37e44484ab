use Rattle.std.proofs.Common.{◌≡◌, true, length, sym, ap, ◌∙◌}
use Rattle.std.specs.Prelude.{nat_le}
use Rattle.std.specs.List.{filter_map}
use Rattle.std.specs.Option.{option_map}
use Rattle.std.proofs.lemmas.Result.{IfOk-weaker}
use Rattle.pp_tokens.specs.Lines.{lexed}
use Rattle.directive_scan.specs.Directives.{pieces}
use Rattle.base_types.specs.Limits.{body_limit}
use Rattle.search_path.specs.Search.{search}
use Rattle.sheet_build.specs.Sheet.{body_of_place, definition_in, sheet_from, sheet_of}
use Rattle.sheet_build.specs.parts.Stored.{sheet_with}
use Rattle.sheet_build.specs.declared.building.ReadFile.{ReadFile}
use Rattle.sheet_build.proofs.Bodies.{sheet-body, small-body}
use Rattle.sheet_build.proofs.building.scan_file.Goals as goal

pub returns-clause-file : goal.returns-clause-file
returns-clause-file g c = λ told is.
    let find = search told c.args.setup.now in
    let visit = c.args.visit.now in
    let trigraphs = c.args.setup.now.trigraphs in
    IfOk-weaker c.scan_body.result
    (λ file. sheet_with (filter_map definition_in file.pieces) file.parts ≡ sheet_from find visit (pieces (lexed trigraphs c.in-Some.file.body).lines))
    (λ file. sheet_with (filter_map definition_in file.pieces) file.parts ≡ sheet_of told c.args.setup.now visit)
    (λ file e.
    e
    ∙ sheet-body told c.args.setup.now visit c.in-Some.file.body (sym (ap (option_map (λ (f : ReadFile). f.body)) c.in-Some.is) ∙ c.in_ok-file.ensures.body told is))
    (c.scan_body.ensures.file told (c.in_ok-file.ensures.same ∙ is))

pub returns-clause-small : goal.returns-clause-small
returns-clause-small g c = λ told is.
    let visit = c.args.visit.now in
    IfOk-weaker c.scan_body.result
    (λ file. sheet_with (filter_map definition_in file.pieces) file.parts ≡ sheet_from (search told c.args.setup.now) visit (pieces (lexed c.args.setup.now.trigraphs c.in-Some.file.body).lines))
    (λ _. nat_le (length (body_of_place told visit.place)) body_limit ≡ true)
    (λ _ _. small-body told visit c.in-Some.file.body (sym (ap (option_map (λ (f : ReadFile). f.body)) c.in-Some.is) ∙ c.in_ok-file.ensures.body told is))
    (c.scan_body.ensures.file told (c.in_ok-file.ensures.same ∙ is))
