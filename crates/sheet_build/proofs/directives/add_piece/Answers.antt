use Rattle.std.proofs.Common.{refl, ◌≡◌, ◌∷◌, [], sym, ap, ◌∙◌}
use Rattle.std.proofs.lemmas.Result.{on_ok_weaker}
use Rattle.directive_scan.specs.declared.Directive.{Directive}
use Rattle.directive_scan.specs.declared.Piece.{Piece}
use Rattle.directive_scan.specs.declared.Piece.TheVariants.{Line}
use Rattle.directive_scan.specs.Spots.{piece_seen, directive_seen}
use Rattle.search_path.specs.Search.{search}
use Rattle.sheet_build.specs.parts.Stored.{sheet_of_parts, asked_from, joined_sheets}
use Rattle.sheet_build.proofs.directives.add_piece.Goals as goal

pub returns-in_ok-what-in-Line-clause-adds : goal.returns-in_ok-what-in-Line-clause-adds
returns-in_ok-what-in-Line-clause-adds g c = λ told is.
    let seen : Line c.in-Line.at c.in_ok-what-in-Line.what ≡ piece_seen c.args.piece = ap (λ (d : Directive). Line c.in-Line.at d) c.in_ok-what-in-Line.ensures ∙ sym (ap piece_seen c.in-Line.is) in
    on_ok_weaker c.add_directive.result
    (λ added. added c.in-Line.at ∙ ap (λ (p : Piece). joined_sheets (sheet_of_parts c.args.parts.now) (asked_from (search told c.args.setup.now) c.args.visit.now (p ∷ []))) seen)
    (c.add_directive.ensures.adds told is)

pub returns-then-not-may_add-clause-adds : goal.returns-then-not-may_add-clause-adds
returns-then-not-may_add-clause-adds g c = λ told is.
    let seen : Line c.in-Line.at (directive_seen c.in-Line.what) ≡ piece_seen c.args.piece = sym (ap piece_seen c.in-Line.is) in
    c.if-not-may_add.ensures refl (search told c.args.setup.now) c.args.visit.now c.in-Line.at (sheet_of_parts c.args.parts.now)
    ∙ ap (λ (p : Piece). joined_sheets (sheet_of_parts c.args.parts.now) (asked_from (search told c.args.setup.now) c.args.visit.now (p ∷ []))) seen
