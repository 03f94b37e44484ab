use Rattle.std.proofs.Common.{◌∙◌, sym, ap, subst, List, Some}
use Rattle.search_path.specs.declared.asking.Visit.{Visit}
use Rattle.sheet_build.specs.Sheet.{SheetData}
use Rattle.closure_fixpoint.specs.Progress.{IsEnough, IsAccepted}
use Rattle.closure_fixpoint.specs.parts.Plan.{IsWhole}
use Rattle.closure_fixpoint.specs.Targets.{heard_of}
use Rattle.closure_fixpoint.specs.Told.{Progress, NothingAsked, Finished, IsDone}
use Rattle.closure_fixpoint.specs.parts.Seen.{pending_of, ended_of}
use Rattle.closure_fixpoint.proofs.StandsLaws.{done_by}
use Rattle.closure_fixpoint.proofs.fixpoint.Fixpoint.finish.Goals as goal

pub returns-in-Ok-clause-means : goal.returns-in-Ok-clause-means
returns-in-Ok-clause-means c =
    let p : Progress = record {
      job = c.self.inside.job;
      budget = c.self.inside.budget;
      heard = record { searches = c.self.inside.searches; sheets = c.self.inside.sheets.items; large = c.self.inside.large };
      found = c.self.inside.found;
      pending = pending_of c.self.inside.wait;
      ended = ended_of c.self.inside.ended;
      broken = c.self.inside.broken;
    } in
    subst (λ (q : Progress). IsDone q c.in-Ok.closure.visits c.in-Ok.closure.nodes (record p { pending = NothingAsked; ended = Some Finished })) c.self.view_is
    (done_by c.more_definitions.ensures.headers c.more_definitions.ensures.long c.more_definitions.ensures.presumed c.more_definitions.ensures.many c.self.inside.naming p c.in-Ok.closure
    c.self.invariant
    (ap (λ (q : Progress). q.broken) c.self.view_is ∙ c.requires.calm)
    (subst (λ (q : Progress). IsEnough q.job q.heard q.found) (sym c.self.view_is) c.requires.enough)
    (subst (λ (q : Progress). IsAccepted q.job q.budget q.heard q.found) (sym c.self.view_is) c.requires.accepted)
    (subst (λ (l : List (Visit × SheetData)). IsWhole (heard_of p.heard.searches l) p.found c.in-Ok.closure) c.deref.ensures.value c.in-Ok.ensures))
