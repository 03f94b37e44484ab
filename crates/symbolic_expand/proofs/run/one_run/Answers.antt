use Rattle.std.proofs.Common.{refl, sym, subst, ◌∙◌, []}
use Rattle.std.specs.Option.{option_copied}
use Rattle.symbolic_expand.specs.Defined.{sets_of}
use Rattle.symbolic_expand.proofs.ChoosingLaws.{run_gave, run_stopped, Stopped, ended_with}
use Rattle.symbolic_expand.proofs.run.one_run.Goals as goal

pub returns-in_ok-header-in-Ok-clause-ok : goal.returns-in_ok-header-in-Ok-clause-ok
returns-in_ok-header-in-Ok-clause-ok c =
    let given = rw c.new-choices.ensures at c.in-Ok.ensures.ok in
    let ends =
    run_gave (sets_of c.args.sets.now) (record { ahead = c.args.ahead.items; taken = []; file = option_copied c.args.file; met = c.args.met }) refl
    c.args.tokens.now c.in-Ok.list _ c.expand_for.new.answers c.in_ok-header-in-Ok.header given (rw c.as_slice.ensures at c.in_ok-header-in-Ok.ensures) in
    ended_with _ _ _ _ _ c.args.met _ _ ends c.end.ensures.0 c.end.ensures.1 c.end.ensures.2

pub returns-in-None-clause-ok : goal.returns-in-None-clause-ok
returns-in-None-clause-ok c =
    let given = rw c.new-choices.ensures at c.in-Err.ensures.err in
    let ends =
    subst (Stopped (sets_of c.args.sets.now) (record { ahead = c.args.ahead.items; taken = []; file = option_copied c.args.file; met = c.args.met }) refl
    c.args.tokens.now c.expand_for.new.answers)
    (sym c.refusal.ensures ∙ c.in-None.is)
    (run_stopped (sets_of c.args.sets.now) (record { ahead = c.args.ahead.items; taken = []; file = option_copied c.args.file; met = c.args.met }) refl
    c.args.tokens.now c.in-Err.e c.expand_for.new.answers given) in
    ended_with _ _ _ _ _ c.args.met _ _ ends c.end-in-None.ensures.0 c.end-in-None.ensures.1 c.end-in-None.ensures.2

pub returns-in-Some-clause-err : goal.returns-in-Some-clause-err
returns-in-Some-clause-err c =
    let given = rw c.new-choices.ensures at c.in-Err.ensures.err in
    subst (Stopped (sets_of c.args.sets.now) (record { ahead = c.args.ahead.items; taken = []; file = option_copied c.args.file; met = c.args.met }) refl
    c.args.tokens.now c.expand_for.new.answers)
    (sym c.refusal.ensures ∙ c.in-Some.is)
    (run_stopped (sets_of c.args.sets.now) (record { ahead = c.args.ahead.items; taken = []; file = option_copied c.args.file; met = c.args.met }) refl
    c.args.tokens.now c.in-Err.e c.expand_for.new.answers given)
