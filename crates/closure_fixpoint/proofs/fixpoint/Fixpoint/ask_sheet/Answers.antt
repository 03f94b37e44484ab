use Rattle.std.proofs.Common.{◌≡◌, ◌∙◌, ℕ, sym, ap, subst, length, Some}
use Rattle.std.specs.List.{slice_get}
use Rattle.search_path.specs.declared.asking.Visit.{Visit}
use Rattle.closure_fixpoint.specs.declared.fixpoint.Next.TheVariants as next
use Rattle.closure_fixpoint.specs.parts.Plan.{AsksNext}
use Rattle.closure_fixpoint.specs.Told.{Progress, OfSheet}
use Rattle.closure_fixpoint.specs.parts.Seen.{pending_of, ended_of}
use Rattle.closure_fixpoint.proofs.StandsLaws.{by_asking_sheet, new_sheet}
use Rattle.closure_fixpoint.proofs.fixpoint.Fixpoint.ask_sheet.Goals as goal

pub invariant_of-self : goal.invariant_of-self
invariant_of-self c =
    let p : Progress = record {
      job = c.self.inside.job;
      budget = c.self.inside.budget;
      heard = record { searches = c.self.inside.searches; sheets = c.self.inside.sheets.items; large = c.self.inside.large };
      found = c.self.inside.found;
      pending = pending_of c.self.inside.wait;
      ended = ended_of c.self.inside.ended;
      broken = c.self.inside.broken;
    } in
    by_asking_sheet c.self.inside.naming p c.self.invariant (ap (λ (q : Progress). q.ended) c.self.view_is ∙ c.requires.open) (ap (λ (q : Progress). q.heard.large) c.self.view_is ∙ c.requires.small)
    c.in-Ok.visit (subst (λ (n : ℕ). slice_get c.self.inside.found n ≡ Some c.in-Ok.visit) (c.len.ensures ∙ c.self.inside.sheets.ok.0) c.in-Ok.ensures.first)

pub returns-in-Ok : goal.returns-in-Ok
returns-in-Ok c =
    let p : Progress = record {
      job = c.self.inside.job;
      budget = c.self.inside.budget;
      heard = record { searches = c.self.inside.searches; sheets = c.self.inside.sheets.items; large = c.self.inside.large };
      found = c.self.inside.found;
      pending = pending_of c.self.inside.wait;
      ended = ended_of c.self.inside.ended;
      broken = c.self.inside.broken;
    } in
    let at : slice_get c.self.inside.found (length c.self.inside.sheets.items) ≡ Some c.in-Ok.copy =
    subst (λ (n : ℕ). slice_get c.self.inside.found n ≡ Some c.in-Ok.copy) (c.len.ensures ∙ c.self.inside.sheets.ok.0) (c.in-Ok.ensures.first ∙ ap Some (sym c.in-Ok.ensures.second)) in
    subst (λ (q : Progress). AsksNext q (next.Sheet c.in-Ok.copy) (record p { pending = OfSheet c.in-Ok.visit })) c.self.view_is
    (new_sheet c.self.inside.naming p c.self.invariant (ap (λ (q : Progress). q.broken) c.self.view_is ∙ c.requires.calm) c.in-Ok.copy at, at, ap (λ (v : Visit). record p { pending = OfSheet v }) (sym c.in-Ok.ensures.second))
