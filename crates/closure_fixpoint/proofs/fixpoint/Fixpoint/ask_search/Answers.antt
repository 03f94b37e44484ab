use Rattle.std.proofs.Common.{◌∙◌, sym, ap, subst}
use Rattle.search_path.specs.declared.asking.Ask.{Ask}
use Rattle.closure_fixpoint.specs.declared.wanting.Want.TheVariants as want
use Rattle.closure_fixpoint.specs.Progress.{IsNewSearch}
use Rattle.closure_fixpoint.specs.Targets.{IsNextWant}
use Rattle.closure_fixpoint.specs.Told.{Progress, OfSearch}
use Rattle.closure_fixpoint.specs.parts.Seen.{pending_of, ended_of}
use Rattle.closure_fixpoint.proofs.StandsLaws.{by_asking_search, new_search}
use Rattle.closure_fixpoint.proofs.fixpoint.Fixpoint.ask_search.Goals as goal

pub invariant_of-self : goal.invariant_of-self
invariant_of-self c =
    let p : Progress = record {
      job = c.self.inside.job;
      budget = c.self.inside.budget;
      heard = record { searches = c.self.inside.searches; sheets = c.self.inside.sheets.items; large = c.self.inside.large };
      found = c.self.inside.found;
      pending = pending_of c.self.inside.wait;
      ended = ended_of c.self.inside.ended;
      broken = c.self.inside.broken;
    } in
    by_asking_search c.self.inside.naming p c.self.invariant (ap (λ (q : Progress). q.ended) c.self.view_is ∙ c.requires.open) c.args.ask c.args.include
    (subst (λ (q : Progress). IsNextWant q.job q.heard q.found (want.Search c.args.ask c.args.include)) (sym c.self.view_is) c.requires.wanted)

pub returns-in-Ok : goal.returns-in-Ok
returns-in-Ok c =
    let p : Progress = record {
      job = c.self.inside.job;
      budget = c.self.inside.budget;
      heard = record { searches = c.self.inside.searches; sheets = c.self.inside.sheets.items; large = c.self.inside.large };
      found = c.self.inside.found;
      pending = pending_of c.self.inside.wait;
      ended = ended_of c.self.inside.ended;
      broken = c.self.inside.broken;
    } in (
      subst (λ (a : Ask). IsNewSearch c.args.self.now.job c.args.self.now.heard a) (sym c.in-Ok.ensures)
          (new_search c.args.self.now.job c.args.self.now.heard c.args.self.now.found c.args.ask c.args.include c.requires.wanted),
      (
        c.args.include,
        ap (λ (a : Ask). record p { pending = OfSearch a c.args.include }) (sym c.in-Ok.ensures)
            ∙ ap (λ (q : Progress). record q { pending = OfSearch c.in-Ok.copy c.args.include }) c.self.view_is,
      ),
    )
