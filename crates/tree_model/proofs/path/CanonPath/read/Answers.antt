use Rattle.std.proofs.Common.{ℕ, List, sym, ◌∙◌, ap, subst, Some}
use Rattle.tree_model.specs.Paths.{IsSpelling, names_of}
use Rattle.tree_model.proofs.PathLemmas.{no_path, some_path, root_path, spelling_from_test}
use Rattle.tree_model.proofs.path.CanonPath.read.Goals as goal

pub returns-then-not-is_spelling : goal.returns-then-not-is_spelling
returns-then-not-is_spelling c = no_path c.args.text.now (sym c.if-not-is_spelling.ensures)

pub returns-then-text-eq1 : goal.returns-then-text-eq1
returns-then-text-eq1 c = ap Some c.the_root.ensures ∙ root_path c.args.text.now (sym c.if-not-is_spelling.ensures) c.if-text-eq1.true

pub below_root-requires-clause-spelling : goal.below_root-requires-clause-spelling
below_root-requires-clause-spelling c =
    let same = c.in_ok-spelling.ensures in
    subst IsSpelling (sym same) (spelling_from_test c.args.text.now (sym c.if-not-is_spelling.ensures))

pub returns : goal.returns
returns c =
    let same = c.in_ok-spelling.ensures in
    ap Some c.in_ok-path.ensures ∙ ap (λ (t : List ℕ). Some (names_of t)) same ∙ some_path c.args.text.now (sym c.if-not-is_spelling.ensures)
