use Rattle.std.proofs.Common.{◌∙◌, sym, subst, ℕ, List, Option, Some}
use Rattle.std.specs.Prelude.{IfSome}
use Rattle.directive_scan.specs.declared.HeaderName.{HeaderName}
use Rattle.closure_fixpoint.specs.declared.wanting.Want.{Want}
use Rattle.closure_fixpoint.specs.parts.Wanting.{WantsOfHeaders}
use Rattle.closure_fixpoint.proofs.NamesLaws.{follows_on}
use Rattle.closure_fixpoint.proofs.TargetLaws.{rest_wants}
use Rattle.closure_fixpoint.proofs.targets.of_rest.Goals as goal

pub returns-in-Some-2-clause-want : goal.returns-in-Some-2-clause-want
returns-in-Some-2-clause-want c job follows =
    rest_wants job c.args.searches.now c.args.sheets.now c.args.found.now c.in-Some.rest (follows.left c.in-Some.rest (sym c.take.ensures.value ∙ c.in-Some.is)) c.if-rest-sheets.false c.in-Some-2.want
    (subst (λ (list : List HeaderName). WantsOfHeaders c.args.searches.now c.args.found.now c.in-Some.rest.visit c.in-Some.rest.form c.in-Some.rest.include list (Some c.in-Some-2.want)) c.deref.ensures.value
    (subst (λ (o : Option (ℕ × Want)). IfSome o (λ next. WantsOfHeaders c.args.searches.now c.args.found.now c.in-Some.rest.visit c.in-Some.rest.form c.in-Some.rest.include c.deref.result.now (Some next.1)))
    c.in-Some-2.is c.in_ok-of_headers_from.ensures))

pub returns-in-Some-2-clause-follows : goal.returns-in-Some-2-clause-follows
returns-in-Some-2-clause-follows c job follows =
    follows_on c.args.naming.now job c.args.sheets.now c.in-Some.rest c.in-Some-2.next follows (sym c.take.ensures.value ∙ c.in-Some.is)
