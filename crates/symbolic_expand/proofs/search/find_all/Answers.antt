use Rattle.std.proofs.Common.{arith, refl, ◌+◌}
use Rattle.std.specs.Option.{option_copied}
use Rattle.std.proofs.lemmas.Result.{err_from_is_err_and}
use Rattle.symbolic_expand.specs.Defined.{sets_of}
use Rattle.symbolic_expand.proofs.ProgressLaws.{progress_start, run_refuses, budget_passed, progress_next, found_all}
use Rattle.symbolic_expand.proofs.search.find_all.Goals as goal

pub loop-count-init : goal.loop-count-init
loop-count-init c =
    rw (c.new-ahead.ensures.items, c.new.ensures, c.new-2.ensures, c.new-met.ensures) (progress_start (sets_of c.args.sets.now) (option_copied c.args.file) c.args.tokens.now)

pub returns-in_err-end-clause-err : goal.returns-in_err-end-clause-err
returns-in_err-end-clause-err c =
    let p = err_from_is_err_and c.from_residual.result c.from_residual.ensures.1 in
    rw (p.1, p.2)
    (run_refuses (sets_of c.args.sets.now) (option_copied c.args.file) c.args.tokens.now c.loop-count.ahead.items c.loop-count.count
    c.loop-count.found.quoted c.loop-count.found.angled c.loop-count.met c.loop-count.invariant c.args.budget _ c.in_err-end.ensures.err)

pub returns-in-None-clause-ok : goal.returns-in-None-clause-ok
returns-in-None-clause-ok c =
    found_all (sets_of c.args.sets.now) (option_copied c.args.file) c.args.tokens.now c.loop-count.ahead.items c.loop-count.count
    c.loop-count.found.quoted c.loop-count.found.angled c.loop-count.met c.loop-count.invariant
    c.in_ok-end.end.header c.in_ok-end.end.taken.items c.in_ok-end.end.met c.in_ok-end.ensures.ok
    c.put_header.new.found.quoted c.put_header.new.found.angled c.in_ok-put_header.ensures.0 c.in_ok-put_header.ensures.1
    c.args.budget (c.loop-count.count + 1) refl (omega (arith, c.loop-count-test.true)) (rw c.in-None.is at c.in_ok-next_list.ensures)

pub loop-count-preserved : goal.loop-count-preserved
loop-count-preserved c =
    progress_next (sets_of c.args.sets.now) (option_copied c.args.file) c.args.tokens.now c.loop-count.ahead.items c.loop-count.count
    c.loop-count.found.quoted c.loop-count.found.angled c.loop-count.met c.loop-count.invariant
    c.in_ok-end.end.header c.in_ok-end.end.taken.items c.in_ok-end.end.met c.in_ok-end.ensures.ok
    c.put_header.new.found.quoted c.put_header.new.found.angled c.in_ok-put_header.ensures.0 c.in_ok-put_header.ensures.1
    c.in-Some.list.items (c.loop-count.count + 1) refl (rw c.in-Some.is at c.in_ok-next_list.ensures)

pub returns-clause-err : goal.returns-clause-err
returns-clause-err c =
    budget_passed (sets_of c.args.sets.now) (option_copied c.args.file) c.args.tokens.now c.loop-count.ahead.items c.loop-count.count
    c.loop-count.found.quoted c.loop-count.found.angled c.loop-count.met c.loop-count.invariant c.args.budget (omega arith)
