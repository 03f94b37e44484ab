use Rattle.std.proofs.Common.{length, ap, ◌∙◌}
use Rattle.closure_fixpoint.proofs.searches.Searches.len.Goals as goal

pub returns : goal.returns
returns c = c.len.ensures.len ∙ ap length c.self.view_is
