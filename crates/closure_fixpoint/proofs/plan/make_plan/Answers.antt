use Rattle.std.proofs.Common.{◌≤◌, ℕ, length, refl, subst, Option}
use Rattle.std.specs.Prelude.{IfSome}
use Rattle.closure_fixpoint.specs.declared.wanting.Want.{Want}
use Rattle.search_path.specs.Asks.{source_ask}
use Rattle.closure_fixpoint.specs.Targets.{heard_of, IsNextWant, DoneWithSheets}
use Rattle.closure_fixpoint.proofs.ProgressLaws.{source_refused}
use Rattle.closure_fixpoint.proofs.PlanLaws.{wants_first, source_made, is_missing, is_there, wants_done, wants_refused, all_done, target_refused}
use Rattle.closure_fixpoint.proofs.plan.make_plan.Goals as goal

pub returns-in-Some-clause-means : goal.returns-in-Some-clause-means
returns-in-Some-clause-means c =
    wants_first c.args.job.now (heard_of c.args.searches.now c.args.sheets.now) c.args.found.now c.in_ok-want.field-0 c.in-Some.want c.in_ok-want.ensures c.in-Some.is

pub source_is_missing-requires : goal.source_is_missing-requires
source_is_missing-requires c =
    source_made c.args.job.now (heard_of c.args.searches.now c.args.sheets.now) c.args.found.now c.in_ok-want.field-0 c.in_ok-want.ensures c.in-None.is

pub returns-then-branch-clause-means : goal.returns-then-branch-clause-means
returns-then-branch-clause-means c =
    source_refused c.more_definitions.ensures.headers c.more_definitions.ensures.long c.more_definitions.ensures.presumed c.more_definitions.ensures.many c.args.job.now c.args.budget
    (heard_of c.args.searches.now c.args.sheets.now) c.args.found.now
    (is_missing c.args.searches.now (source_ask c.args.job.now.source) c.in_ok-source_is_missing.field-0 c.in_ok-source_is_missing.ensures c.if-branch.true)

pub returns-in-Ok-None-clause-means : goal.returns-in-Ok-None-clause-means
returns-in-Ok-None-clause-means c =
    all_done c.args.job.now c.args.budget (heard_of c.args.searches.now c.args.sheets.now) c.args.found.now c.in_ok-want.field-0 c.requires.ready refl
    (c.has_too_many.ensures.few c.if-has_too_many.false)
    (subst (λ (n : ℕ). n ≤ length c.args.sheets.now) c.len.ensures c.if-sheets-len.false)
    c.in_ok-want.ensures c.in-None.is
    (is_there c.args.searches.now (source_ask c.args.job.now.source) c.in_ok-source_is_missing.field-0 c.in_ok-source_is_missing.ensures c.if-branch.false)
    (wants_done c.args.job.now c.args.budget (heard_of c.args.searches.now c.args.sheets.now) c.args.found.now
    (DoneWithSheets c.args.job.now c.args.budget (heard_of c.args.searches.now c.args.sheets.now) c.args.found.now c.args.sheets.now)
    c.in_ok-want-3.field-0 c.in-Ok-None.field-0 c.in_ok-want-3.ensures.want c.in-Ok-None.is c.in-Ok-None.field-0-is)

pub returns-in-Err-clause-means : goal.returns-in-Err-clause-means
returns-in-Err-clause-means c =
    target_refused c.more_definitions.ensures.headers c.more_definitions.ensures.long c.more_definitions.ensures.presumed c.more_definitions.ensures.many c.args.job.now c.args.budget
    (heard_of c.args.searches.now c.args.sheets.now) c.args.found.now c.requires.ready.keeps c.in-Err.refusal
    (wants_refused c.args.job.now c.args.budget (heard_of c.args.searches.now c.args.sheets.now) c.args.found.now
    (DoneWithSheets c.args.job.now c.args.budget (heard_of c.args.searches.now c.args.sheets.now) c.args.found.now c.args.sheets.now)
    c.in_ok-want-3.field-0 c.in-Err.refusal c.in_ok-want-3.ensures.want c.in-Err.is)

pub returns-in-Some-2-clause-means : goal.returns-in-Some-2-clause-means
returns-in-Some-2-clause-means c =
    subst (λ (o : Option Want). IfSome o (IsNextWant c.args.job.now (heard_of c.args.searches.now c.args.sheets.now) c.args.found.now)) c.in-Some-2.is
    (c.in_ok-want-2.ensures.want c.args.job.now c.requires.follows)

pub returns-in-Some-2-clause-follows : goal.returns-in-Some-2-clause-follows
returns-in-Some-2-clause-follows c = c.in_ok-want-2.ensures.follows c.args.job.now c.requires.follows

pub of_sheets-requires : goal.of_sheets-requires
of_sheets-requires c = c.in_ok-want-2.ensures.follows c.args.job.now c.requires.follows
