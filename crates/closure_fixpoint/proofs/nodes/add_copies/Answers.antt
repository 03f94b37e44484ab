use Rattle.std.proofs.Common.{◌<◌, ◌++◌, ◌∷◌, [], List, length, arith, sym, subst}
use Rattle.std.specs.Prelude.{All}
use Rattle.std.proofs.lemmas.List.Elements.{All-push}
use Rattle.tree_model.specs.Paths.{Path, IsCanonical}
use Rattle.macro_defs.proofs.Fronts.{front_at}
use Rattle.closure_fixpoint.proofs.Steps.{goes-on}
use Rattle.closure_fixpoint.proofs.nodes.add_copies.Goals as goal

pub loop-path-preserved : goal.loop-path-preserved
loop-path-preserved c =
    let below : c.loop-path.path-index < length c.args.paths.now = omega arith in
    record {
      items =
          goes-on (λ (paths : List Path). paths) (c.path-item.result ∷ []) c.args.paths.now c.loop-path.path-index c.loop-path.copies.items c.add_copy.new.copies.items
          (c.args.copies.now.items ++ c.args.paths.now)
          (front_at c.args.paths.now c.loop-path.path-index c.path-item.result below c.path-item.is)
          c.loop-path.invariant.items c.in_ok-add_copy.ensures.items;
      canonical = λ before.
          subst (λ (list : List Path). All IsCanonical list) (sym c.in_ok-add_copy.ensures.items)
          (All-push IsCanonical c.loop-path.copies.items c.path-item.result (c.loop-path.invariant.canonical before) c.add_copy.ensures.canonical);
    }
