use Rattle.std.proofs.Common.{◌≡◌, ℕ, List, sym, ◌∙◌, ap, subst, Some, rules}
use Rattle.std.specs.Prelude.{length}
use Rattle.tree_model.specs.Paths as paths
use Rattle.tree_model.proofs.PathLemmas.{no_path, some_path, root_path, spelling_from_test}
use Rattle.tree_model.proofs.path.CanonPath.of.Goals as goal

pub returns-then-not-is_spelling : goal.returns-then-not-is_spelling
returns-then-not-is_spelling c = no_path c.args.text.items (sym (c.if-not-is_spelling.ensures ∙ ap paths.is_spelling c.as_slice.ensures.value))

pub returns-then-len-eq1 : goal.returns-then-len-eq1
returns-then-len-eq1 c =
    let one : length c.args.text.items ≡ 1 = search rules in
    ap Some c.the_root.ensures ∙ root_path c.args.text.items (sym (c.if-not-is_spelling.ensures ∙ ap paths.is_spelling c.as_slice.ensures.value)) one

pub below_root-requires-clause-spelling : goal.below_root-requires-clause-spelling
below_root-requires-clause-spelling c =
    subst paths.IsSpelling (sym c.of.ensures) (spelling_from_test c.args.text.items (sym (c.if-not-is_spelling.ensures ∙ ap paths.is_spelling c.as_slice.ensures.value)))

pub returns : goal.returns
returns c =
    ap Some c.in_ok-path.ensures
    ∙ ap (λ (t : List ℕ). Some (paths.names_of t)) c.of.ensures
    ∙ some_path c.args.text.items (sym (c.if-not-is_spelling.ensures ∙ ap paths.is_spelling c.as_slice.ensures.value))
