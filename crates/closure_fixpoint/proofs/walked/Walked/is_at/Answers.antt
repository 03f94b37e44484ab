use Rattle.std.proofs.Common.{◌≡◌, List, Some, IsTrue, sym, ◌∙◌, ap, subst}
use Rattle.std.specs.Option.{option_copied}
use Rattle.std.specs.List.{list_any, slice_get}
use Rattle.tree_model.specs.Paths.{Path, is_same_path}
use Rattle.closure_fixpoint.proofs.WalkedLaws.{passes-at}
use Rattle.closure_fixpoint.proofs.walked.Walked.is_at.Goals as goal

pub returns-in-Some : goal.returns-in-Some
returns-in-Some c = λ yes.
    let paths : List Path = c.self.inside.paths.keys in
    let there : slice_get paths c.args.number ≡ Some c.in-Some.other.now = sym c.get_index.ensures.key ∙ ap option_copied c.in-Some.is in
    subst (λ (l : List Path). IsTrue (list_any (is_same_path c.args.path.now) l)) c.self.view_is
    (passes-at (is_same_path c.args.path.now) paths c.args.number c.in-Some.other.now there (sym c.eq.ensures ∙ yes))
