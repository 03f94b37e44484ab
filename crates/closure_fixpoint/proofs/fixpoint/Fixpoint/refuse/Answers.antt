use Rattle.std.proofs.Common.{◌≡◌, sym, subst, Some}
use Rattle.search_path.specs.declared.asking.Visit.{Visit}
use Rattle.closure_fixpoint.specs.declared.job_analysis.Refusal.TheVariants.{Large}
use Rattle.closure_fixpoint.specs.Told.{Progress, RefusalMeans}
use Rattle.closure_fixpoint.specs.parts.Seen.{pending_of, ended_of}
use Rattle.closure_fixpoint.proofs.StandsLaws.{by_refused}
use Rattle.closure_fixpoint.proofs.fixpoint.Fixpoint.refuse.Goals as goal

pub invariant_of-self : goal.invariant_of-self
invariant_of-self c =
    let p : Progress = record {
      job = c.self.inside.job;
      budget = c.self.inside.budget;
      heard = record { searches = c.self.inside.searches; sheets = c.self.inside.sheets.items; large = c.self.inside.large };
      found = c.self.inside.found;
      pending = pending_of c.self.inside.wait;
      ended = ended_of c.self.inside.ended;
      broken = c.self.inside.broken;
    } in
    by_refused c.self.inside.naming p c.self.invariant c.args.refusal
    (subst (λ (q : Progress). RefusalMeans q.job q.budget q.heard c.args.refusal) (sym c.self.view_is) c.requires.means)
    (subst (λ (q : Progress). (visit : Visit) → q.heard.large ≡ Some visit → c.args.refusal ≡ Large) (sym c.self.view_is) c.requires.large)
