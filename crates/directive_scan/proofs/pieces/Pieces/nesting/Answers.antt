use Rattle.std.proofs.Common.{◌<◌, List, length, get_or, ◌∙◌, sym, ap, arith}
use Rattle.std.specs.Arc.{arc_value}
use Rattle.std.proofs.lemmas.List.{length-map}
use Rattle.directive_scan.specs.declared.directive.Piece.{Piece}
use Rattle.directive_scan.specs.declared.pieces.Parts.{Parts}
use Rattle.directive_scan.specs.Groups.{role_of}
use Rattle.directive_scan.specs.Spots.{piece_at}
use Rattle.directive_scan.proofs.Roles.{role_here}
use Rattle.directive_scan.proofs.pieces.Pieces.nesting.Goals as goal

pub returns-in-Line : goal.returns-in-Line
returns-in-Line c p =
    let parts = arc_value c.self.inside.parts in
    let file = arc_value parts.lexed in
    let spots = parts.spots.items in
    let below : c.args.number < length spots = omega (arith, ap length c.self.view_is, length-map spots (piece_at file)) in
    role_here file spots c.args.number c.index.result.now c.in-Line.line c.in-Line.at c.in-Line.name c.nesting_of.result p c.self.invariant.0 below
    (sym (ap (λ (q : Parts). get_or q.spots.items c.args.number c.index.result.now) c.deref.ensures) ∙ (sym c.index.ensures ∙ c.in-Line.is)) c.nesting_of.ensures
    ∙ ap (λ (ps : List Piece). role_of (get_or ps c.args.number p)) c.self.view_is
