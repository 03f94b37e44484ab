use Rattle.std.proofs.Common.{◌∙◌, sym, subst}
use Rattle.closure_fixpoint.specs.Progress.{LargeMeans}
use Rattle.closure_fixpoint.specs.Told.{Progress}
use Rattle.closure_fixpoint.specs.parts.Seen.{pending_of, ended_of}
use Rattle.closure_fixpoint.proofs.StandsLaws.{large_refused}
use Rattle.closure_fixpoint.proofs.fixpoint.Fixpoint.next.Goals as goal

pub refuse-requires-clause-means : goal.refuse-requires-clause-means
refuse-requires-clause-means c =
    let p : Progress = record {
      job = c.self.inside.job;
      budget = c.self.inside.budget;
      heard = record { searches = c.self.inside.searches; sheets = c.self.inside.sheets.items; large = c.self.inside.large };
      found = c.self.inside.found;
      pending = pending_of c.self.inside.wait;
      ended = ended_of c.self.inside.ended;
      broken = c.self.inside.broken;
    } in
    subst (λ (q : Progress). LargeMeans q.job q.heard) c.self.view_is (large_refused c.self.inside.naming p c.self.invariant (sym c.is_some.ensures ∙ c.if-is_some.true))
