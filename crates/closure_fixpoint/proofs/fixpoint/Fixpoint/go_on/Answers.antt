use Rattle.std.proofs.Common.{sym, subst}
use Rattle.closure_fixpoint.specs.declared.wanting.Want.TheVariants as want
use Rattle.closure_fixpoint.specs.Targets.{IsNextWant}
use Rattle.closure_fixpoint.specs.Told.{Progress}
use Rattle.closure_fixpoint.proofs.StandsLaws.{plan_wants}
use Rattle.closure_fixpoint.proofs.fixpoint.Fixpoint.go_on.Goals as goal

pub ask_search-requires-clause-wanted : goal.ask_search-requires-clause-wanted
ask_search-requires-clause-wanted c =
    let w = c.in-Some-Want-Search in
    subst (λ (q : Progress). IsNextWant q.job q.heard q.found (want.Search w.ask w.include)) (sym w.ensures.same)
    (plan_wants c.args.self.now.job c.args.self.now.budget c.args.self.now.heard c.args.self.now.found w.field-0 w.field-0-0 (want.Search w.ask w.include) w.ensures.some w.field-0-is w.field-0-0-is)

pub add-requires-clause-due : goal.add-requires-clause-due
add-requires-clause-due c =
    let w = c.in-Some-Want-Visit in
    subst (λ (q : Progress). IsNextWant q.job q.heard q.found (want.Visit w.visit)) (sym w.ensures.same)
    (plan_wants c.args.self.now.job c.args.self.now.budget c.args.self.now.heard c.args.self.now.found w.field-0 w.field-0-0 (want.Visit w.visit) w.ensures.some w.field-0-is w.field-0-0-is)
