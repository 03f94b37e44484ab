use Rattle.std.proofs.lemmas.Int.{to_z-of_z}
use Rattle.std.proofs.Common.{rules, SFits, w64, ◌≡◌, ◌<◌, ◌+◌, ℤ, pos, [], ◌∷◌, length, Ok, Err, refl, sym, ◌∙◌, ap, subst}
use Rattle.std.specs.Prelude.{◌+ℤ◌}
use Rattle.base_types.specs.Limits.{text_limit}
use Rattle.cpp_output.specs.Layout.{mark}
use Rattle.cpp_output.specs.Laid.{after_event}
use Rattle.cpp_output.specs.declared.LayError.{LayError}
use Rattle.tree_model.specs.Paths.{Text}
use Rattle.macro_expand.specs.declared.answers.Presumed.{Presumed}
use Rattle.daemon_cpp.specs.Prep.{Here, line_set, presumed_line, renumbered, say}
use Rattle.daemon_cpp.specs.parts.Files.{here_of, Turns}
use Rattle.daemon_cpp.proofs.Markers.{turns-one, turns-full}
use Rattle.daemon_cpp.proofs.cpp.renumber.Goals as goal

pub returns-in-Ok-clause-turns : goal.returns-in-Ok-clause-turns
returns-in-Ok-clause-turns c =
    let from : Here = here_of c.args.file.now in
    let fits : SFits w64 c.line_behind-shown.result = search rules in
    let to : Here = renumbered c.args.at c.args.new from in
    let numbers = c.renumber.ensures in
    let named : c.as_slice.result.now ≡ to.name = c.as_slice.ensures ∙ ap (λ (p : Presumed). p.name) (c.presumed-presumed.ensures ∙ numbers) in
    let line : c.line_behind-shown.result ≡ presumed_line to (c.args.at + 1) = c.line_behind-shown.ensures ∙ ap (λ (p : Presumed). pos (c.args.at + 1) +ℤ p.shift) numbers in
    let grown : c.mark.new.self ≡ after_event c.args.kept.now.layout (mark to.name (presumed_line to (c.args.at + 1)) c.args.at) =
    c.in-Ok.ensures.ok.0 ∙ ap (λ (n : ℤ). after_event c.args.kept.now.layout (mark c.as_slice.result.now n c.args.at)) (to_z-of_z w64 c.line_behind-shown.result fits ∙ line)
    ∙ ap (λ (name : Text). after_event c.args.kept.now.layout (mark name (presumed_line to (c.args.at + 1)) c.args.at)) named in
    subst (λ (p : Presumed). Turns c.args.kept.now (record c.args.kept.now { layout = c.mark.new.self }) c.args.source.now from (here_of (record c.args.file.now { numbers = p })) (λ state. line_set c.args.at c.args.new state) (Ok (tt {0}))) (sym numbers)
    (turns-one c.args.kept.now c.mark.new.self c.args.source.now from to (λ state. line_set c.args.at c.args.new state) (mark to.name (presumed_line to (c.args.at + 1)) c.args.at) (tt {0})
    (λ state shows. ap (λ (h : Here). say (mark (renumbered c.args.at c.args.new h).name (presumed_line (renumbered c.args.at c.args.new h) (c.args.at + 1)) c.args.at ∷ []) (record state { here = renumbered c.args.at c.args.new h })) shows.here)
    grown c.in-Ok.ensures.ok.1)

pub returns-in-Err-Full-clause-turns : goal.returns-in-Err-Full-clause-turns
returns-in-Err-Full-clause-turns c =
    let from : Here = here_of c.args.file.now in
    let fits : SFits w64 c.line_behind-shown.result = search rules in
    let to : Here = renumbered c.args.at c.args.new from in
    let numbers = c.renumber.ensures in
    let named : c.as_slice.result.now ≡ to.name = c.as_slice.ensures ∙ ap (λ (p : Presumed). p.name) (c.presumed-presumed.ensures ∙ numbers) in
    let line : c.line_behind-shown.result ≡ presumed_line to (c.args.at + 1) = c.line_behind-shown.ensures ∙ ap (λ (p : Presumed). pos (c.args.at + 1) +ℤ p.shift) numbers in
    let full = c.mark.ensures.full (c.in-Err-Full.is ∙ ap (λ (e : LayError). Err e) c.in-Err-Full.field-0-is) in
    subst (λ (p : Presumed). Turns {A = Unit {0}} c.args.kept.now (record c.args.kept.now { layout = c.mark.new.self }) c.args.source.now from (here_of (record c.args.file.now { numbers = p })) (λ state. line_set c.args.at c.args.new state) (Err c.refused.result)) (sym numbers)
    (turns-full (Unit {0}) c.args.kept.now (record c.args.kept.now { layout = c.mark.new.self }) c.args.source.now from to (λ state. line_set c.args.at c.args.new state) (mark to.name (presumed_line to (c.args.at + 1)) c.args.at) c.refused.result
    (λ state shows. ap (λ (h : Here). say (mark (renumbered c.args.at c.args.new h).name (presumed_line (renumbered c.args.at c.args.new h) (c.args.at + 1)) c.args.at ∷ []) (record state { here = renumbered c.args.at c.args.new h })) shows.here)
    (subst (λ (name : Text). text_limit < length (after_event c.args.kept.now.layout (mark name (presumed_line to (c.args.at + 1)) c.args.at)).text) named
    (subst (λ (n : ℤ). text_limit < length (after_event c.args.kept.now.layout (mark c.as_slice.result.now n c.args.at)).text) (to_z-of_z w64 c.line_behind-shown.result fits ∙ line) full)) refl c.refused.ensures)
