use Rattle.std.proofs.Common.{◌≡◌, ◌∙◌, sym, ap, subst, List, None}
use Rattle.search_path.specs.declared.asking.Visit.{Visit}
use Rattle.sheet_build.specs.Sheet.{SheetData}
use Rattle.closure_fixpoint.specs.Progress.{Heard}
use Rattle.closure_fixpoint.specs.parts.Plan.{IsReady, PlanMeans}
use Rattle.closure_fixpoint.specs.Targets.{heard_of}
use Rattle.closure_fixpoint.specs.Told.{Progress}
use Rattle.closure_fixpoint.specs.parts.Seen.{pending_of, ended_of}
use Rattle.closure_fixpoint.proofs.StandsLaws.{heard_is, is_ready}
use Rattle.closure_fixpoint.proofs.fixpoint.Fixpoint.plan.Goals as goal

pub make_plan-requires-clause-ready : goal.make_plan-requires-clause-ready
make_plan-requires-clause-ready c =
    let p : Progress = record {
      job = c.self.inside.job;
      budget = c.self.inside.budget;
      heard = record { searches = c.self.inside.searches; sheets = c.self.inside.sheets.items; large = c.self.inside.large };
      found = c.self.inside.found;
      pending = pending_of c.self.inside.wait;
      ended = ended_of c.self.inside.ended;
      broken = c.self.inside.broken;
    } in
    subst (λ (l : List (Visit × SheetData)). IsReady p.job (heard_of p.heard.searches l) p.found) (sym c.deref.ensures.value)
    (is_ready c.self.inside.naming p c.self.invariant (ap (λ (q : Progress). q.broken) c.self.view_is ∙ c.requires.calm) (ap (λ (q : Progress). q.heard.large) c.self.view_is ∙ c.requires.small))

pub returns-in-Ok-clause-some : goal.returns-in-Ok-clause-some
returns-in-Ok-clause-some c =
    let p : Progress = record {
      job = c.self.inside.job;
      budget = c.self.inside.budget;
      heard = record { searches = c.self.inside.searches; sheets = c.self.inside.sheets.items; large = c.self.inside.large };
      found = c.self.inside.found;
      pending = pending_of c.self.inside.wait;
      ended = ended_of c.self.inside.ended;
      broken = c.self.inside.broken;
    } in
    let small : p.heard.large ≡ None = ap (λ (q : Progress). q.heard.large) c.self.view_is ∙ c.requires.small in
    subst (λ (q : Progress). PlanMeans q.job q.budget q.heard q.found c.in-Ok.plan) c.self.view_is
    (subst (λ (h : Heard). PlanMeans p.job p.budget h p.found c.in-Ok.plan) (sym (heard_is p.heard small))
    (subst (λ (l : List (Visit × SheetData)). PlanMeans p.job p.budget (heard_of p.heard.searches l) p.found c.in-Ok.plan) c.deref.ensures.value c.in-Ok.ensures.means))
