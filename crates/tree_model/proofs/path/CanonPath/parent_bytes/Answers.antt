use Rattle.std.proofs.Common.{false, ◌≡◌, true}
use Rattle.tree_model.proofs.PathLemmas.{parent_above, parent_some}
use Rattle.tree_model.proofs.path.CanonPath.parent_bytes.Goals as goal

pub returns : goal.returns
returns c = record {
  value = parent_some c.args.self.now c.before_last.result.now (λ e. let t : false ≡ true = c.if-is_root.ensures.1 e in cc)
      (parent_above c.args.self.now c.bytes.result.now c.before_last.result.now c.bytes.ensures.canonical c.bytes.ensures.value c.before_last.ensures);
  canonical = c.bytes.ensures.canonical;
}
