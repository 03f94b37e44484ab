use Rattle.std.proofs.Common.{◌≡◌, ◌++◌, ◌∷◌, [], List, ℕ, Bor, Option, None, Some, true, is_some, refl, sym, ◌∙◌, ap, subst, append_assoc}
use Rattle.std.specs.Prelude.{All}
use Rattle.std.specs.Option.{option_map}
use Rattle.std.proofs.lemmas.List.Elements.{All-push}
use Rattle.tree_model.specs.Paths.{Path, IsCanonical, parent, parent_spelling}
use Rattle.closure_fixpoint.specs.Gathering.{upward}
use Rattle.closure_fixpoint.proofs.nodes.add_upward.Goals as goal

-- above a path that has a parent stands the parent
below_root : (path : Path) (above : Option (Bor (List ℕ))) → is_some above ≡ true → option_map (λ t. t.now) above ≡ parent_spelling path → upward path ≡ path ∷ upward (parent path)
below_root [] None some is = absurd (cc)
below_root [] (Some text) some is = absurd (cc)
below_root (name ∷ path) above some is = refl

pub loop-alloc-preserved : goal.loop-alloc-preserved
loop-alloc-preserved c =
    let nodes : List Path = c.loop-alloc.nodes.items in
    record {
      way =
          ap (λ (list : List Path). list ++ upward c.in_ok-up.up) c.in_ok-push.ensures.items
          ∙ append_assoc nodes (c.loop-alloc.at ∷ []) (upward c.in_ok-up.up)
          ∙ ap (λ (list : List Path). nodes ++ list)
          (ap (λ (up : Path). c.loop-alloc.at ∷ upward up) c.in_ok-up.ensures
          ∙ sym (below_root c.loop-alloc.at c.parent_bytes.result (sym c.is_some.ensures ∙ c.loop-alloc-test.true) c.parent_bytes.ensures.value))
          ∙ c.loop-alloc.invariant.way;
      canonical = λ before.
          subst (λ (list : List Path). All IsCanonical list) (sym c.in_ok-push.ensures.items)
          (All-push IsCanonical nodes c.loop-alloc.at (c.loop-alloc.invariant.canonical before) c.parent_bytes.ensures.canonical);
    }
