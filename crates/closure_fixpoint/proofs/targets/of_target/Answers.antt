use Rattle.std.proofs.Common.{sym, subst, None, Some, Result, Vec}
use Rattle.std.specs.declared.alloc.Global.{Global}
use Rattle.directive_scan.specs.declared.HeaderName.{HeaderName}
use Rattle.closure_fixpoint.specs.declared.job_analysis.Refusal.{Refusal}
use Rattle.closure_fixpoint.specs.declared.naming.Naming.{Naming}
use Rattle.closure_fixpoint.specs.Naming.{Follows}
use Rattle.closure_fixpoint.specs.Targets.{NamesSeen}
use Rattle.closure_fixpoint.proofs.NamesLaws.{follows_aside}
use Rattle.closure_fixpoint.proofs.TargetLaws.{target_wants}
use Rattle.closure_fixpoint.proofs.targets.of_target.Goals as goal

pub returns-in-None-clause-want : goal.returns-in-None-clause-want
returns-in-None-clause-want c =
    target_wants c.args.job.now c.args.budget c.args.searches.now c.args.sheets.now c.args.found.now c.args.visit.now c.args.sheet.now c.args.target.now c.requires.told c.in-Ok.headers
    (subst (λ (r : Result (Vec HeaderName Global) Refusal). NamesSeen c.args.job.now c.args.budget c.args.sheets.now c.args.visit.now c.args.sheet.now c.args.target.now r) c.in-Ok.is c.in_ok-refusal.ensures.names)
    c.form.result c.is_probe.result c.deref.result.now c.in_ok-want-in-Ok.want None c.form.ensures c.is_probe.ensures c.deref.ensures.value c.in_ok-want-in-Ok.ensures c.in-None.is

pub returns-in_ok-set_aside-in-Some-clause-want : goal.returns-in_ok-set_aside-in-Some-clause-want
returns-in_ok-set_aside-in-Some-clause-want c =
    target_wants c.args.job.now c.args.budget c.args.searches.now c.args.sheets.now c.args.found.now c.args.visit.now c.args.sheet.now c.args.target.now c.requires.told c.in-Ok.headers
    (subst (λ (r : Result (Vec HeaderName Global) Refusal). NamesSeen c.args.job.now c.args.budget c.args.sheets.now c.args.visit.now c.args.sheet.now c.args.target.now r) c.in-Ok.is c.in_ok-refusal.ensures.names)
    c.form.result c.is_probe.result c.deref.result.now c.in_ok-want-in-Ok.want (Some c.in-Some.want) c.form.ensures c.is_probe.ensures c.deref.ensures.value c.in_ok-want-in-Ok.ensures c.in-Some.is

pub returns-in_ok-set_aside-in-Some-clause-follows : goal.returns-in_ok-set_aside-in-Some-clause-follows
returns-in_ok-set_aside-in-Some-clause-follows c =
    subst (λ (n : Naming). Follows n c.args.job.now c.args.sheets.now) (sym c.in_ok-set_aside-in-Some.ensures)
    (follows_aside c.names_of.new.naming c.args.job.now c.args.budget c.args.searches.now c.args.sheets.now c.args.visit.now c.args.sheet.now c.args.target.now c.in-Ok.headers c.in_ok-refusal.ensures.follows
    c.requires.told
    (subst (λ (r : Result (Vec HeaderName Global) Refusal). NamesSeen c.args.job.now c.args.budget c.args.sheets.now c.args.visit.now c.args.sheet.now c.args.target.now r) c.in-Ok.is c.in_ok-refusal.ensures.names))
