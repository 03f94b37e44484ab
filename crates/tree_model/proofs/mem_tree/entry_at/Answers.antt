use Rattle.std.proofs.Common.{◌≡◌, sym, ◌∙◌, ap, List, ℕ, [], true, false, Some, refl}
use Rattle.tree_model.specs.Trees.{by_bytes, tree_of, entry_at}
use Rattle.tree_model.proofs.TreeLemmas.{at_root, at_path}
use Rattle.tree_model.proofs.mem_tree.entry_at.Goals as goal

pub returns-then-is_root : goal.returns-then-is_root
returns-then-is_root c =
    let root : c.args.path.now ≡ [] = c.if-is_root.ensures.0 refl in
    ap Some c.requires.root ∙ sym (at_root c.args.entries.now) ∙ ap (entry_at (tree_of c.args.entries.now)) (sym root)

pub returns : goal.returns
returns c =
    c.entry.ensures ∙ ap (λ (t : List ℕ). by_bytes t c.args.entries.now) c.bytes.ensures.value
    ∙ at_path c.args.entries.now c.args.path.now c.requires.made (λ e. let t : false ≡ true = c.if-is_root.ensures.1 e in cc) c.bytes.ensures.canonical
