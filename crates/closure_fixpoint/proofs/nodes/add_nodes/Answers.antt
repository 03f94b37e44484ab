use Rattle.std.proofs.Common.{List, ◌++◌, ◌∙◌, ap}
use Rattle.tree_model.specs.Paths.{Path}
use Rattle.closure_fixpoint.specs.parts.Walked.{with_paths}
use Rattle.closure_fixpoint.proofs.WalkedLaws.{in-two-parts}
use Rattle.closure_fixpoint.proofs.nodes.add_nodes.Goals as goal

pub returns : goal.returns
returns c =
    let front = c.parts.result.0.now in
    let shared = c.parts.result.1.now in
    let behind = c.parts.result.2.now in
    in-two-parts c.begin.new.self c.add_walked.new.walked c.add_walked-3.new.walked front (shared ++ behind) c.in_ok-add_walked.ensures
    (in-two-parts c.add_walked.new.walked c.add_walked-2.new.walked c.add_walked-3.new.walked shared behind c.in_ok-add_walked-2.ensures c.in_ok-add_walked-3.ensures)
    ∙ ap (λ (nodes : List Path). with_paths c.begin.new.self nodes) c.parts.ensures
    ∙ ap (λ (walked : List Path). with_paths walked c.args.nodes.now) c.begin.ensures
