use Rattle.client_order.proofs.RunBounds.{runs-are-bounded}
use Rattle.client_order.proofs.bounds.runs_are_bounded.Goals as goal

pub returns : goal.returns
returns c = runs-are-bounded c.closures.ensures.one
