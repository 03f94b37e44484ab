use Rattle.std.proofs.Common.{ℕ, List, Option, sym, ◌∙◌, ap}
use Rattle.directive_scan.specs.declared.Piece.{Piece}
use Rattle.directive_scan.specs.Groups.{outline, role_of}
use Rattle.daemon_cpp.specs.Prep.{run_file, run_outline}
use Rattle.daemon_cpp.specs.parts.Reading.{front_events}
use Rattle.daemon_cpp.proofs.Openings.{begins-same}
use Rattle.daemon_cpp.proofs.opening.open_text.Goals as goal

pub returns-clause-begins : goal.returns-clause-begins
returns-clause-begins c = λ world file lexed place is.
    begins-same c.args.kept.now c.open_pieces.new.kept c.args.source.now file world
    (λ entering state. run_outline world entering (front_events c.args.included c.args.place.now) (outline role_of c.args.text.pieces) state)
    (λ entering state. run_file world entering (front_events c.args.included c.args.place.now) lexed lexed.unended state)
    c.open_pieces.result
    (λ entering state shows.
    ap (λ (line : Option ℕ). run_file world entering (front_events c.args.included c.args.place.now) lexed line state) (sym is.open_comment ∙ c.in_default.is)
    ∙ ap (λ (ps : List Piece). run_outline world entering (front_events c.args.included c.args.place.now) (outline role_of ps) state) (sym is.pieces))
    (c.open_pieces.ensures.begins world file place)
