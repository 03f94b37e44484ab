use Rattle.std.proofs.Common.{rules}
use Rattle.std.proofs.lemmas.Cmp.{nat_list_cmp_total, eq_by_cmp_equiv}
use Rattle.std.proofs.lemmas.List.Sorted.{answers_always, ranks_by, IsPermutation-map}
use Rattle.std.proofs.lemmas.Map.Keys.{IsDistinct-IsPermutation}
use Rattle.tree_model.specs.Paths.{spelled}
use Rattle.tree_model.specs.Entries.{below}
use Rattle.tree_gen.proofs.Order.{key, keys, same, sorted_increase}
use Rattle.tree_gen.proofs.generated.in_order.Goals as goal

pub returns : goal.returns
returns c =
    let moved = c.sort_by.ensures.permutation in
    record {
      same = moved;
      order =
          sorted_increase c.sort_by.new.self.items
          (c.in_ok-sort_by.ensures.sorted (λ a b. below (spelled a.0) (spelled b.0)) (ranks_by nat_list_cmp_total key) (answers_always _ _ _ (λ f a r g h. search rules)))
          (IsDistinct-IsPermutation same (eq_by_cmp_equiv nat_list_cmp_total).symm (keys c.args.entries.items) (keys c.sort_by.new.self.items)
          (IsPermutation-map key c.args.entries.items c.sort_by.new.self.items moved) c.requires.apart);
    }
