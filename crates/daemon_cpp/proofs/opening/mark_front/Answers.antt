use Rattle.std.proofs.Common.{◌≡◌, ◌<◌, Bool, Err, Ok, length, refl, sym, ◌∙◌, ap, subst}
use Rattle.base_types.specs.Limits.{text_limit}
use Rattle.cpp_output.specs.Layout.{enter}
use Rattle.cpp_output.specs.Laid.{after_event}
use Rattle.cpp_output.specs.declared.LayError.{LayError}
use Rattle.tree_model.specs.Paths.{Text}
use Rattle.tree_model.specs.Shown as showing
use Rattle.tree_model.specs.Shown.{presumed_name}
use Rattle.daemon_cpp.specs.Prep.{say}
use Rattle.daemon_cpp.specs.parts.Reading.{front_events}
use Rattle.daemon_cpp.specs.parts.Showing.{Goes}
use Rattle.daemon_cpp.proofs.Markers.{goes-none, goes-one, goes-full}
use Rattle.daemon_cpp.proofs.opening.mark_front.Goals as goal

pub returns-then-not-included-clause-goes : goal.returns-then-not-included-clause-goes
returns-then-not-included-clause-goes c = λ file.
    subst (λ (b : Bool). Goes c.args.kept.now c.args.kept.now c.args.source.now file (λ state. say (front_events b c.args.place.now) state) (Ok (tt {0}))) (sym c.if-not-included.true)
    (goes-none c.args.kept.now c.args.source.now file (tt {0}))

pub returns-in-Ok-clause-goes : goal.returns-in-Ok-clause-goes
returns-in-Ok-clause-goes c = λ file.
    let named : c.deref.result.now ≡ presumed_name c.args.place.now =
    c.deref.ensures.value ∙ c.in_ok-name.ensures ∙ ap (λ (text : Text). showing.shown text) c.bytes.ensures.value in
    let grown : c.enter.new.self ≡ after_event c.args.kept.now.layout (enter (presumed_name c.args.place.now)) =
    c.in-Ok.ensures.ok.0 ∙ ap (λ (name : Text). after_event c.args.kept.now.layout (enter name)) named in
    subst (λ (b : Bool). Goes c.args.kept.now (record c.args.kept.now { layout = c.enter.new.self }) c.args.source.now file (λ state. say (front_events b c.args.place.now) state) (Ok (tt {0}))) (sym c.if-not-included.false)
    (goes-one c.args.kept.now c.enter.new.self c.args.source.now file (enter (presumed_name c.args.place.now)) (tt {0}) grown c.in-Ok.ensures.ok.1)

pub returns-in-Err-Full-clause-goes : goal.returns-in-Err-Full-clause-goes
returns-in-Err-Full-clause-goes c = λ file.
    let named : c.deref.result.now ≡ presumed_name c.args.place.now =
    c.deref.ensures.value ∙ c.in_ok-name.ensures ∙ ap (λ (text : Text). showing.shown text) c.bytes.ensures.value in
    let full : text_limit < length (after_event c.args.kept.now.layout (enter (presumed_name c.args.place.now))).text =
    subst (λ (name : Text). text_limit < length (after_event c.args.kept.now.layout (enter name)).text) named (c.enter.ensures.full (c.in-Err-Full.is ∙ ap (λ (e : LayError). Err e) c.in-Err-Full.field-0-is)) in
    subst (λ (b : Bool). Goes c.args.kept.now (record c.args.kept.now { layout = c.enter.new.self }) c.args.source.now file {A = Unit {0}} (λ state. say (front_events b c.args.place.now) state) (Err c.refused.result)) (sym c.if-not-included.false)
    (goes-full (Unit {0}) c.args.kept.now (record c.args.kept.now { layout = c.enter.new.self }) c.args.source.now file (enter (presumed_name c.args.place.now)) c.refused.result full refl c.refused.ensures)
