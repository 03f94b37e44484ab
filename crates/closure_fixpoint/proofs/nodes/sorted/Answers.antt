use Rattle.std.proofs.Common.{◌≡◌, rules, All, IsTrue}
use Rattle.std.specs.Prelude.{◌↔◌}
use Rattle.std.proofs.lemmas.Result.{IfOk-weaker}
use Rattle.base_types.specs.Members.{Member}
use Rattle.tree_model.specs.Paths.{Path, IsCanonical}
use Rattle.closure_fixpoint.specs.Gathering.{are_rising, paths_once}
use Rattle.closure_fixpoint.proofs.Orders.{up-from_sort, sorted-rises, sorted-same, sorted-canonical}
use Rattle.closure_fixpoint.proofs.nodes.sorted.Goals as goal

pub returns-clause-rising : goal.returns-clause-rising
returns-clause-rising c =
    let up = up-from_sort c.sort_unstable_by.new.self.items c.sort_unstable_by.ensures.sorted (λ a r q k. search rules) in
    IfOk-weaker c.each_once.result (λ list. list.items ≡ paths_once c.deref.result.now) (λ list. IsTrue (are_rising list.items))
    (λ list is. sorted-rises c.args.nodes.items c.sort_unstable_by.new.self.items c.deref.result.now list.items c.deref.ensures.value up is)
    c.each_once.ensures

pub returns-clause-same : goal.returns-clause-same
returns-clause-same c =
    let up = up-from_sort c.sort_unstable_by.new.self.items c.sort_unstable_by.ensures.sorted (λ a r q k. search rules) in
    IfOk-weaker c.each_once.result (λ list. list.items ≡ paths_once c.deref.result.now) (λ list. (path : Path) → Member path list.items ↔ Member path c.args.nodes.items)
    (λ list is. sorted-same c.args.nodes.items c.sort_unstable_by.new.self.items c.deref.result.now list.items c.deref.ensures.value up is c.sort_unstable_by.ensures.permutation c.requires c.spellings_are_apart.ensures.apart)
    c.each_once.ensures

pub returns-clause-canonical : goal.returns-clause-canonical
returns-clause-canonical c =
    let up = up-from_sort c.sort_unstable_by.new.self.items c.sort_unstable_by.ensures.sorted (λ a r q k. search rules) in
    IfOk-weaker c.each_once.result (λ list. list.items ≡ paths_once c.deref.result.now) (λ list. All IsCanonical list.items)
    (λ list is. sorted-canonical c.args.nodes.items c.sort_unstable_by.new.self.items c.deref.result.now list.items c.deref.ensures.value up is c.sort_unstable_by.ensures.permutation c.requires)
    c.each_once.ensures
