use Rattle.std.proofs.Common.{List, subst}
use Rattle.std.specs.Prelude.{IfOk, IsTrue, ◌↔◌}
use Rattle.base_types.specs.Members.{Member}
use Rattle.tree_model.specs.Paths.{Path}
use Rattle.closure_fixpoint.specs.Gathering.{are_rising}
use Rattle.closure_fixpoint.proofs.nodes.in_order.Goals as goal

pub returns-then-is_rising-clause-rising : goal.returns-then-is_rising-clause-rising
returns-then-is_rising-clause-rising c = subst (λ (nodes : List Path). IsTrue (are_rising nodes)) c.deref.ensures.value (c.is_rising.ensures c.if-is_rising.true)

pub returns-then-is_rising-clause-same : goal.returns-then-is_rising-clause-same
returns-then-is_rising-clause-same c = λ path.
    subst (λ (nodes : List Path). Member path c.in_ok-copies.copies.items ↔ Member path nodes) c.in_ok-copies.ensures.items (λ m. m, λ m. m)

pub returns-clause-same : goal.returns-clause-same
returns-clause-same c =
    subst (λ (nodes : List Path). IfOk c.sorted.result (λ list. (path : Path) → Member path list.items ↔ Member path nodes)) c.in_ok-copies.ensures.items
    c.sorted.ensures.same
