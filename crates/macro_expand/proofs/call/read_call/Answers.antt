use Rattle.std.proofs.Common.{ℕ, Option, Some, length, map, sym, subst}
use Rattle.std.specs.Prelude.{IfSome}
use Rattle.macro_expand.specs.parts.Stamps.{Stamped, AllStamped, CallStamped}
use Rattle.macro_expand.proofs.StampLaws.{if_ok-two}
use Rattle.macro_expand.specs.declared.call.ReadCall.{ReadCall}
use Rattle.macro_expand.specs.parts.Reading.{CutsCall, cuts_for}
use Rattle.macro_expand.specs.Seen.{marked_of}
use Rattle.macro_expand.proofs.CallLaws.{call_read, call_refused}
use Rattle.macro_expand.proofs.call.read_call.Goals as goal

pub returns-in-Some-clause-ok : goal.returns-in-Some-clause-ok
returns-in-Some-clause-ok c =
    let ts = map marked_of c.args.pending.now in
    let after = map marked_of c.cut_call.new.pending in
    let count = length c.args.params.now in
    let cuts : CutsCall (cuts_for count c.args.variadic) ts (Some c.in-Some.call) after =
    subst (λ (n : ℕ). CutsCall n ts (Some c.in-Some.call) after) c.cuts_for.ensures
    (subst (λ (o : Option ReadCall). CutsCall c.cuts_for.result ts o after) c.in-Some.is c.in_ok-call.ensures.ok) in
    call_read count c.args.variadic ts after c.in-Some.call cuts c.with_arguments.result c.with_arguments.ensures.ok c.with_arguments.ensures.close

pub returns-in-Some-clause-err : goal.returns-in-Some-clause-err
returns-in-Some-clause-err c =
    let ts = map marked_of c.args.pending.now in
    let after = map marked_of c.cut_call.new.pending in
    let count = length c.args.params.now in
    let cuts : CutsCall (cuts_for count c.args.variadic) ts (Some c.in-Some.call) after =
    subst (λ (n : ℕ). CutsCall n ts (Some c.in-Some.call) after) c.cuts_for.ensures
    (subst (λ (o : Option ReadCall). CutsCall c.cuts_for.result ts o after) c.in-Some.is c.in_ok-call.ensures.ok) in
    call_refused count c.args.variadic ts after c.in-Some.call cuts c.args.t.now c.with_arguments.result c.with_arguments.ensures.err

pub returns-in-Some-clause-stamped : goal.returns-in-Some-clause-stamped
returns-in-Some-clause-stamped c sets next all =
    let both =
    subst (λ (o : Option ReadCall). IfSome o (λ call. AllStamped sets next c.cut_call.new.pending × CallStamped sets next call)) c.in-Some.is (c.in_ok-call.ensures.stamped sets next all) in
    if_ok-two c.with_arguments.result (λ r each close. (both.0, (each, subst (Stamped sets next) (sym close) both.1.1)))
    (c.with_arguments.ensures.stamped sets next both.1.0) c.with_arguments.ensures.close
