use Rattle.std.proofs.Common.{arith}
use Rattle.std.proofs.lemmas.Result.{IfOk-weaker}
use Rattle.closure_fixpoint.specs.Targets.{NamesSeen}
use Rattle.closure_fixpoint.specs.Naming.{IsAnew, Follows, asked_target}
use Rattle.closure_fixpoint.proofs.NamesLaws.{seen_again, follows_again, anew_seen, follows_anew}
use Rattle.closure_fixpoint.proofs.naming.names_of.Goals as goal

pub returns-then-holds_still-clause-names : goal.returns-then-holds_still-clause-names
returns-then-holds_still-clause-names c =
    seen_again c.support_decides.ensures c.args.job.now c.args.budget c.args.sheets.now c.args.visit.now c.args.sheet.now c.args.target.now c.catch_up.new.naming c.args.number c.len-mark.result
    c.again.new.kept.items c.in_ok-catch_up.ensures c.requires.number (c.holds_still.ensures c.if-holds_still.true) c.in_ok-headers.headers c.in_ok-headers.ensures

pub returns-then-holds_still-clause-follows : goal.returns-then-holds_still-clause-follows
returns-then-holds_still-clause-follows c =
    follows_again c.args.budget c.args.job.now c.args.sheets.now c.args.visit.now c.args.sheet.now c.args.target.now c.catch_up.new.naming c.args.number c.len-mark.result c.again.new.kept c.in_ok-catch_up.ensures
    c.requires.number (c.holds_still.ensures c.if-holds_still.true) (omega (arith, c.len-mark.ensures, c.catch_up.new.naming.grown.log.ok)) c.in_ok-headers.headers.items c.in_ok-headers.ensures

pub returns-clause-names : goal.returns-clause-names
returns-clause-names c =
    IfOk-weaker c.anew.result
    (λ names. IsAnew c.args.budget c.catch_up.new.naming.grown (asked_target c.args.visit.now c.args.sheet.now c.args.target.now) c.catch_up.new.naming.kept.items c.args.number names c.anew.new.kept.items)
    (λ names. NamesSeen c.args.job.now c.args.budget c.args.sheets.now c.args.visit.now c.args.sheet.now c.args.target.now names)
    (λ names is.
    anew_seen c.support_decides.ensures c.args.job.now c.args.budget c.args.sheets.now c.args.visit.now c.args.sheet.now c.args.target.now c.catch_up.new.naming.grown c.catch_up.new.naming.kept.items
    c.anew.new.kept.items c.args.number c.in_ok-catch_up.ensures.all names is)
    c.anew.ensures

pub returns-clause-follows : goal.returns-clause-follows
returns-clause-follows c =
    IfOk-weaker c.anew.result
    (λ names. IsAnew c.args.budget c.catch_up.new.naming.grown (asked_target c.args.visit.now c.args.sheet.now c.args.target.now) c.catch_up.new.naming.kept.items c.args.number names c.anew.new.kept.items)
    (λ names.
    Follows (record { begun = c.catch_up.new.naming.begun; told = c.catch_up.new.naming.told; grown = c.catch_up.new.naming.grown; kept = c.anew.new.kept; rest = c.catch_up.new.naming.rest }) c.args.job.now c.args.sheets.now)
    (λ names is.
    follows_anew c.args.budget c.args.job.now c.args.sheets.now (asked_target c.args.visit.now c.args.sheet.now c.args.target.now) c.catch_up.new.naming c.args.number c.anew.new.kept
    c.in_ok-catch_up.ensures c.requires.number names is)
    c.anew.ensures
