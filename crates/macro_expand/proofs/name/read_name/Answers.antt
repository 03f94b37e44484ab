use Rattle.std.proofs.Common.{map, ap, sym, ◌∙◌, refl, subst}
use Rattle.std.proofs.lemmas.List.{length-map}
use Rattle.std.proofs.lemmas.Result.{err_from_is_err_and}
use Rattle.macro_expand.specs.parts.Naming.{StandAlone}
use Rattle.macro_defs.specs.Arguments.{parameters_in}
use Rattle.macro_defs.specs.MacroDefinition.{shape_lent}
use Rattle.macro_expand.specs.Replacement.{body_parts}
use Rattle.macro_expand.specs.Seen.{marked_of, lists_of}
use Rattle.macro_expand.specs.parts.Parts.{parts_told}
use Rattle.macro_expand.proofs.NameLaws.{head_undefined, head_object, head_object_error, head_not_called, head_refused, head_called, stand_alone-same}
use Rattle.macro_expand.specs.parts.Stamps.{Stamped}
use Rattle.macro_expand.proofs.name.read_name.Goals as goal

pub returns-in_default-clause-ok : goal.returns-in_default-clause-ok
returns-in_default-clause-ok g c =
    λ mode depth units role. head_undefined (g.A.Answers.answerer c.args.source.now) c.args.answers.now c.definition.new.self mode depth units c.args.t.now c.args.pending.now role (rw c.text.ensures at c.in_ok-d.ensures.state) (rw (c.in_default.is, c.text.ensures) at c.in_ok-d.ensures.answer)

pub returns-in_err-read_object-clause-err : goal.returns-in_err-read_object-clause-err
returns-in_err-read_object-clause-err g c =
    let p = err_from_is_err_and c.from_residual-in_err-read_object.result c.from_residual-in_err-read_object.ensures.1 in
    rw (p.1, p.2)
    (λ mode depth units role. head_object_error (g.A.Answers.answerer c.args.source.now) c.args.answers.now c.definition.new.self mode depth units c.args.t.now c.args.pending.now role (rw c.text.ensures at c.in_ok-d.ensures.state) c.in-Some.d.now (rw (c.in-Some.is, c.text.ensures) at c.in_ok-d.ensures.answer)
    _ (sym c.params.ensures ∙ ap shape_lent c.in_default-params.is) c.in_err-read_object.ensures.err)

pub returns-in_default-params-clause-ok : goal.returns-in_default-params-clause-ok
returns-in_default-params-clause-ok g c =
    λ mode depth units role. head_object (g.A.Answers.answerer c.args.source.now) c.args.answers.now c.definition.new.self mode depth units c.args.t.now c.args.pending.now role (rw c.text.ensures at c.in_ok-d.ensures.state) c.in-Some.d.now (rw (c.in-Some.is, c.text.ensures) at c.in_ok-d.ensures.answer)
    c.in_ok-read_object.field-0 (sym c.params.ensures ∙ ap shape_lent c.in_default-params.is) c.in_ok-read_object.ensures.ok

pub returns-then-not-take_open-clause-ok : goal.returns-then-not-take_open-clause-ok
returns-then-not-take_open-clause-ok g c =
    let why = c.if-not-take_open.ensures.not_opened refl in
    λ mode depth units role. head_not_called (g.A.Answers.answerer c.args.source.now) c.args.answers.now c.definition.new.self mode depth units c.args.t.now c.args.pending.now role (rw c.text.ensures at c.in_ok-d.ensures.state) c.in-Some.d.now (rw (c.in-Some.is, c.text.ensures) at c.in_ok-d.ensures.answer) c.in-Some-params.names.now c.in-Some-params.variadic (sym c.params.ensures ∙ ap shape_lent c.in-Some-params.is)
    c.take_open.new.self why.1 why.0

pub returns-in_err-read-clause-err : goal.returns-in_err-read-clause-err
returns-in_err-read-clause-err g c =
    let p = err_from_is_err_and c.from_residual-in_err-read.result c.from_residual-in_err-read.ensures.1 in
    rw (p.1, p.2)
    (λ mode depth units role. head_refused (g.A.Answers.answerer c.args.source.now) c.args.answers.now c.definition.new.self mode depth units c.args.t.now c.args.pending.now role (rw c.text.ensures at c.in_ok-d.ensures.state) c.in-Some.d.now (rw (c.in-Some.is, c.text.ensures) at c.in_ok-d.ensures.answer) c.in-Some-params.names.now c.in-Some-params.variadic (sym c.params.ensures ∙ ap shape_lent c.in-Some-params.is)
    (map marked_of c.take_open.new.self) (c.if-not-take_open.ensures.opened refl) _ c.in_err-read.ensures.err)

pub returns-clause-ok : goal.returns-clause-ok
returns-clause-ok g c =
    let made = c.in_ok-given.ensures in
    λ mode depth units role. head_called (g.A.Answers.answerer c.args.source.now) c.args.answers.now c.definition.new.self mode depth units c.args.t.now c.args.pending.now role (rw c.text.ensures at c.in_ok-d.ensures.state) c.in-Some.d.now (rw (c.in-Some.is, c.text.ensures) at c.in_ok-d.ensures.answer) c.in-Some-params.names.now c.in-Some-params.variadic (sym c.params.ensures ∙ ap shape_lent c.in-Some-params.is)
    (map marked_of c.take_open.new.self) (c.if-not-take_open.ensures.opened refl) (lists_of c.in_ok-read.read.written.items) c.in_ok-read.read.close
    (map marked_of c.read_call.new.pending) c.in_ok-read.ensures.ok
    c.in_ok-given.call (lists_of c.in_ok-given.given.items) made.given
    (subst (λ n. StandAlone c.in_ok-given.call.alone.items n (parts_told c.in_ok-given.call.parts)) (sym (length-map c.in_ok-read.read.written.items (λ v. map marked_of v.items))) made.alone)
    (made.parts ∙ ap (λ s. body_parts (parameters_in s) c.in-Some.d.now.body) (sym c.params.ensures ∙ ap shape_lent c.in-Some-params.is))
    made.variable made.close made.kept

pub returns-clause-alone : goal.returns-clause-alone
returns-clause-alone g c =
    stand_alone-same c.in_ok-given.call.alone.items c.in_ok-read.read.written.items c.in_ok-given.given.items
    (parts_told c.in_ok-given.call.parts) c.in_ok-given.ensures.given c.in_ok-given.ensures.alone

pub returns-clause-stamped : goal.returns-clause-stamped
returns-clause-stamped g c sets next all =
    let read = c.in_ok-read.ensures.stamped sets next (c.take_open.ensures.stamped sets next all) in
    (read.0, (c.in_ok-given.ensures.stamped sets next read.1.0, subst (Stamped sets next) (sym c.in_ok-given.ensures.close) read.1.1))

pub returns-in_default-params-clause-stamped : goal.returns-in_default-params-clause-stamped
returns-in_default-params-clause-stamped g c sets next all = (all, c.in_ok-read_object.ensures.stamped sets next)
