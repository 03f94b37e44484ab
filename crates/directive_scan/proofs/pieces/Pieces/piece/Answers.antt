use Rattle.std.proofs.Common.{◌<◌, List, length, get_or, drop, ◌∙◌, sym, ap, arith}
use Rattle.std.specs.Arc.{arc_value}
use Rattle.std.proofs.lemmas.List.{length-map}
use Rattle.directive_scan.specs.declared.directive.Piece.{Piece}
use Rattle.directive_scan.specs.declared.directive.Piece.TheVariants.{Line}
use Rattle.directive_scan.specs.declared.pieces.Parts.{Parts}
use Rattle.directive_scan.specs.Gathered.{tokens_at_line}
use Rattle.directive_scan.specs.Names.{directive_told}
use Rattle.directive_scan.specs.Spots.{piece_at}
use Rattle.directive_scan.proofs.Roles.{directive_here}
use Rattle.directive_scan.proofs.pieces.Pieces.piece.Goals as goal

pub returns-in-Line-clause-shown : goal.returns-in-Line-clause-shown
returns-in-Line-clause-shown c =
    let parts = arc_value c.self.inside.parts in
    let file = arc_value parts.lexed in
    let spots = parts.spots.items in
    let below : c.args.number < length spots = omega (arith, ap length c.self.view_is, length-map spots (piece_at file)) in
    let shown : Parts → Piece = λ q. Line c.in-Line.at (directive_told c.in-Line.name (drop 2 (tokens_at_line (arc_value q.lexed) c.in-Line.line))) in
    let here : Piece = shown c.deref-in-Line.result.now in
    ap shown c.deref-in-Line.ensures
    ∙ directive_here file spots c.args.number c.index.result.now c.in-Line.line c.in-Line.at c.in-Line.name here c.self.invariant.0 below
    (sym (ap (λ (q : Parts). get_or q.spots.items c.args.number c.index.result.now) c.deref.ensures) ∙ (sym c.index.ensures ∙ c.in-Line.is))
    ∙ ap (λ (ps : List Piece). get_or ps c.args.number here) c.self.view_is
