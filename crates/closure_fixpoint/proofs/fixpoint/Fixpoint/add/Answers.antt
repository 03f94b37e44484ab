use Rattle.std.proofs.Common.{◌∙◌, sym, ap, subst}
use Rattle.closure_fixpoint.specs.declared.wanting.Want.TheVariants as want
use Rattle.closure_fixpoint.specs.Targets.{IsNextWant}
use Rattle.closure_fixpoint.specs.Told.{Progress}
use Rattle.closure_fixpoint.specs.parts.Seen.{pending_of, ended_of}
use Rattle.closure_fixpoint.proofs.FoundNext.{next_behind}
use Rattle.closure_fixpoint.proofs.GrownLaws.{more_to_ask}
use Rattle.closure_fixpoint.proofs.StandsLaws.{by_found}
use Rattle.closure_fixpoint.proofs.fixpoint.Fixpoint.add.Goals as goal

pub invariant_of-self-2 : goal.invariant_of-self-2
invariant_of-self-2 c =
    let p : Progress = record {
      job = c.self.inside.job;
      budget = c.self.inside.budget;
      heard = record { searches = c.self.inside.searches; sheets = c.self.inside.sheets.items; large = c.self.inside.large };
      found = c.self.inside.found;
      pending = pending_of c.self.inside.wait;
      ended = ended_of c.self.inside.ended;
      broken = c.self.inside.broken;
    } in
    by_found c.self.inside.naming p c.self.invariant c.more_definitions.ensures.headers (ap (λ (q : Progress). q.ended) c.self.view_is ∙ c.requires.open) c.args.visit c.add.new.self
    (subst (λ (q : Progress). IsNextWant q.job q.heard q.found (want.Visit c.args.visit)) (sym c.self.view_is) c.requires.due) c.in_default.ensures.ok

pub ask_sheet-requires-clause-more : goal.ask_sheet-requires-clause-more
ask_sheet-requires-clause-more c =
    let p : Progress = record {
      job = c.self.inside.job;
      budget = c.self.inside.budget;
      heard = record { searches = c.self.inside.searches; sheets = c.self.inside.sheets.items; large = c.self.inside.large };
      found = c.self.inside.found;
      pending = pending_of c.self.inside.wait;
      ended = ended_of c.self.inside.ended;
      broken = c.self.inside.broken;
    } in
    more_to_ask p.heard p.found c.add.new.self c.args.visit (c.self.invariant.stands.in_order (ap (λ (q : Progress). q.broken) c.self.view_is ∙ c.requires.calm))
    (subst (λ (q : Progress). IsNextWant q.job q.heard q.found (want.Visit c.args.visit)) (sym c.self.view_is) c.requires.due).1 c.in_default.ensures.ok

pub returns : goal.returns
returns c =
    let p : Progress = record {
      job = c.self.inside.job;
      budget = c.self.inside.budget;
      heard = record { searches = c.self.inside.searches; sheets = c.self.inside.sheets.items; large = c.self.inside.large };
      found = c.self.inside.found;
      pending = pending_of c.self.inside.wait;
      ended = ended_of c.self.inside.ended;
      broken = c.self.inside.broken;
    } in
    next_behind p c.args.self.now c.self.view_is c.args.visit c.add.new.self c.in_default.ensures.ok c.ask_sheet.result c.ask_sheet.new.self c.ask_sheet.ensures
