use Rattle.std.proofs.Common.{◌≡◌, None, sym, ◌∙◌}
use Rattle.directive_scan.specs.Groups.{malformed_by, outline, role_of}
use Rattle.daemon_cpp.specs.Prep.{and_then, say, run_outline}
use Rattle.daemon_cpp.specs.parts.Reading.{front_events, run_flat, reading}
use Rattle.daemon_cpp.proofs.Openings.{begins-same, run-outline}
use Rattle.daemon_cpp.proofs.opening.open_pieces.Goals as goal

pub returns-in-None-clause-begins : goal.returns-in-None-clause-begins
returns-in-None-clause-begins c = λ world file place.
    let fine : malformed_by (outline role_of c.args.pieces) ≡ None = sym c.requires ∙ c.in-None.is in
    begins-same c.args.kept.now c.announced.new.kept c.args.source.now file world
    (λ entering state. and_then (λ after. run_flat world entering reading c.args.pieces after) (say (front_events c.args.included c.args.place.now) state))
    (λ entering state. run_outline world entering (front_events c.args.included c.args.place.now) (outline role_of c.args.pieces) state)
    c.announced.result
    (λ entering state shows. run-outline world entering (front_events c.args.included c.args.place.now) c.args.pieces state (c.nesting_told.ensures c.args.pieces) (c.one_outline.ensures role_of c.args.pieces) fine)
    (c.announced.ensures.begins world file)
