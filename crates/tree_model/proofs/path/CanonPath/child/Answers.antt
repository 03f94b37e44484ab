use Rattle.std.proofs.Common.{length, arith, sym, ◌∙◌, ap, List, ℕ, ◌∷◌, ◌++◌, Some}
use Rattle.base_types.specs.Ascii.{slash}
use Rattle.tree_model.specs.Paths.{IsCanonical}
use Rattle.tree_model.proofs.PathLemmas.{below_slash, child-canonical, child_some, spelling_of}
use Rattle.tree_model.proofs.path.CanonPath.child.Goals as goal

pub below_root-requires-clause-spelling : goal.below_root-requires-clause-spelling
below_root-requires-clause-spelling c =
    let long = ap (λ (t : List ℕ). length t) c.stem-stem.ensures.value in
    let canonical : IsCanonical (c.args.name.now ∷ c.args.self.now) =
    child-canonical c.args.self.now c.args.name.now c.stem-stem.ensures.canonical (sym c.if-not-is_name.ensures) (omega (arith, long)) in
    spelling_of (c.args.name.now ∷ c.args.self.now) c.in_ok-spelling.spelling canonical
    (c.in_ok-spelling.ensures ∙ ap (λ (t : List ℕ). t ++ slash ∷ c.args.name.now) c.stem-stem.ensures.value)

pub below_root-requires-clause-below : goal.below_root-requires-clause-below
below_root-requires-clause-below c is =
    let long = ap (λ (t : List ℕ). length t) c.stem-stem.ensures.value in
    let canonical : IsCanonical (c.args.name.now ∷ c.args.self.now) =
    child-canonical c.args.self.now c.args.name.now c.stem-stem.ensures.canonical (sym c.if-not-is_name.ensures) (omega (arith, long)) in
    below_slash (c.args.name.now ∷ c.args.self.now) canonical.names
    (ap (λ (t : List ℕ). t ++ slash ∷ c.args.name.now) (sym c.stem-stem.ensures.value) ∙ sym c.in_ok-spelling.ensures ∙ is)

pub returns : goal.returns
returns c =
    let long = ap (λ (t : List ℕ). length t) c.stem-stem.ensures.value in
    let canonical : IsCanonical (c.args.name.now ∷ c.args.self.now) =
    child-canonical c.args.self.now c.args.name.now c.stem-stem.ensures.canonical (sym c.if-not-is_name.ensures) (omega (arith, long)) in
    ap Some c.in_ok-path.ensures ∙ child_some c.args.self.now c.args.name.now c.in_ok-spelling.spelling canonical
    (c.in_ok-spelling.ensures ∙ ap (λ (t : List ℕ). t ++ slash ∷ c.args.name.now) c.stem-stem.ensures.value)
