use Rattle.std.proofs.lemmas.Int.{to_z-of_z}
use Rattle.std.proofs.Common.{rules, SFits, w64, ◌≡◌, ◌<◌, ◌+◌, ℤ, length, Err, refl, ◌∙◌, ap, subst}
use Rattle.base_types.specs.Limits.{text_limit}
use Rattle.cpp_output.specs.Layout.{back}
use Rattle.cpp_output.specs.Laid.{after_event}
use Rattle.cpp_output.specs.declared.LayError.{LayError}
use Rattle.tree_model.specs.Paths.{Text}
use Rattle.macro_expand.specs.declared.answers.Presumed.{Presumed}
use Rattle.daemon_cpp.specs.Prep.{Here, back_in, presumed_line}
use Rattle.daemon_cpp.specs.parts.Files.{here_of}
use Rattle.daemon_cpp.proofs.Markers.{turns-one, turns-full}
use Rattle.daemon_cpp.proofs.cpp.mark_return.Goals as goal

pub returns-in-Ok-clause-turns : goal.returns-in-Ok-clause-turns
returns-in-Ok-clause-turns c = λ from.
    let here : Here = here_of c.args.file.now in
    let fits : SFits w64 c.line_behind-shown.result = search rules in
    let named : c.as_slice.result.now ≡ here.name = c.as_slice.ensures ∙ ap (λ (p : Presumed). p.name) c.presumed-presumed.ensures in
    let grown : c.back.new.self ≡ after_event c.args.kept.now.layout (back here.name (presumed_line here (c.args.at + 1)) c.args.at) =
    c.in-Ok.ensures.ok.0 ∙ ap (λ (n : ℤ). after_event c.args.kept.now.layout (back c.as_slice.result.now n c.args.at)) (to_z-of_z w64 c.line_behind-shown.result fits ∙ c.line_behind-shown.ensures)
    ∙ ap (λ (name : Text). after_event c.args.kept.now.layout (back name (presumed_line here (c.args.at + 1)) c.args.at)) named in
    turns-one c.args.kept.now c.back.new.self c.args.source.now from here (λ state. back_in here c.args.at state) (back here.name (presumed_line here (c.args.at + 1)) c.args.at) (tt {0}) (λ state shows. refl) grown c.in-Ok.ensures.ok.1

pub returns-in-Err-Full-clause-turns : goal.returns-in-Err-Full-clause-turns
returns-in-Err-Full-clause-turns c = λ from.
    let here : Here = here_of c.args.file.now in
    let fits : SFits w64 c.line_behind-shown.result = search rules in
    let named : c.as_slice.result.now ≡ here.name = c.as_slice.ensures ∙ ap (λ (p : Presumed). p.name) c.presumed-presumed.ensures in
    let full = c.back.ensures.full (c.in-Err-Full.is ∙ ap (λ (e : LayError). Err e) c.in-Err-Full.field-0-is) in
    turns-full (Unit {0}) c.args.kept.now (record c.args.kept.now { layout = c.back.new.self }) c.args.source.now from here (λ state. back_in here c.args.at state) (back here.name (presumed_line here (c.args.at + 1)) c.args.at) c.refused.result (λ state shows. refl)
    (subst (λ (name : Text). text_limit < length (after_event c.args.kept.now.layout (back name (presumed_line here (c.args.at + 1)) c.args.at)).text) named
    (subst (λ (n : ℤ). text_limit < length (after_event c.args.kept.now.layout (back c.as_slice.result.now n c.args.at)).text) (to_z-of_z w64 c.line_behind-shown.result fits ∙ c.line_behind-shown.ensures) full)) refl c.refused.ensures
