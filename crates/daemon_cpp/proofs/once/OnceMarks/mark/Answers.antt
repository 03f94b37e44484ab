use Rattle.std.proofs.Common.{◌||◌, List, ap, ◌∙◌}
use Rattle.std.specs.List.{list_any}
use Rattle.tree_model.specs.Paths.{Path, is_same_path}
use Rattle.daemon_cpp.proofs.Marks.{marked}
use Rattle.daemon_cpp.proofs.once.OnceMarks.mark.Goals as goal

pub returns : goal.returns
returns c =
    λ other.
    ap (λ (paths : List Path). list_any (is_same_path other) paths) c.in-Ok.ensures.keys
    ∙ marked c.self.inside.paths.keys c.in_ok-copy.field-0 other
    ∙ ap (λ (p : Path). is_same_path other p || list_any (is_same_path other) c.self.inside.paths.keys) c.in_ok-copy.ensures
    ∙ ap (λ (paths : List Path). is_same_path other c.args.path.now || list_any (is_same_path other) paths) c.self.view_is
