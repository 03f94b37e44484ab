use Rattle.std.proofs.Common.{ℕ, List, length, drop, subst, sym, ap, ◌∙◌, arith}
use Rattle.std.proofs.lemmas.Result.{err_from_is_err_and}
use Rattle.pp_tokens.specs.declared.Token.{Token}
use Rattle.macro_defs.specs.Defining as spec
use Rattle.macro_defs.specs.Defining.{up_to_parenthesis, RefusesDefinition}
use Rattle.macro_defs.proofs.Forms.{found_so, wrong_so, without_end, with_end, body_given}
use Rattle.macro_defs.proofs.reading.enclosed_of.Goals as goal

pub returns-in_default-clause-err : goal.returns-in_default-clause-err
returns-in_default-clause-err c = without_end c.args.tokens.items c.deref.result.now c.deref.ensures.value c.in_default.ensures

pub returns-in_err-shape-clause-err : goal.returns-in_err-shape-clause-err
returns-in_err-shape-clause-err c =
    let p = err_from_is_err_and c.from_residual.result c.from_residual.ensures.1 in
    let same = with_end c.args.tokens.items c.deref.result.now c.in-Some.within.now c.in-Some.body.now c.deref.ensures.value c.in-Some.ensures in
    rw (p.1, p.2) (λ (name : List ℕ). subst (RefusesDefinition c.in_err-shape.field-0.0) (sym (same name)) (c.in_err-shape.ensures.err name))

pub returns-clause-ok : goal.returns-clause-ok
returns-clause-ok c =
    let tokens = c.args.tokens.items in
    let body = c.in-Some.body.now in
    let given = body_given tokens c.deref.result.now c.in-Some.within.now body c.in_ok-body.body.items c.len.result c.deref.ensures.value c.requires c.in-Some.ensures (omega (arith, c.len.ensures, c.deref.ensures.len, ap (length {A = Token}) c.deref.ensures.value)) c.in_ok-body.ensures in
    found_so c.with_body.result (λ name. spec.with_body name c.in_ok-shape.shape c.in_ok-shape.hashes c.in_ok-body.body.items) (λ name. spec.enclosed_of name (up_to_parenthesis (drop 1 tokens)))
    (λ name. with_end tokens c.deref.result.now c.in-Some.within.now body c.deref.ensures.value c.in-Some.ensures name ∙ c.in_ok-shape.ensures.ok name ∙ ap (spec.with_body name c.in_ok-shape.shape c.in_ok-shape.hashes) (sym given))
    c.with_body.ensures.ok

pub returns-clause-err : goal.returns-clause-err
returns-clause-err c =
    let tokens = c.args.tokens.items in
    let body = c.in-Some.body.now in
    let given = body_given tokens c.deref.result.now c.in-Some.within.now body c.in_ok-body.body.items c.len.result c.deref.ensures.value c.requires c.in-Some.ensures (omega (arith, c.len.ensures, c.deref.ensures.len, ap (length {A = Token}) c.deref.ensures.value)) c.in_ok-body.ensures in
    wrong_so c.with_body.result (λ name. spec.with_body name c.in_ok-shape.shape c.in_ok-shape.hashes c.in_ok-body.body.items) (λ name. spec.enclosed_of name (up_to_parenthesis (drop 1 tokens)))
    (λ name. with_end tokens c.deref.result.now c.in-Some.within.now body c.deref.ensures.value c.in-Some.ensures name ∙ c.in_ok-shape.ensures.ok name ∙ ap (spec.with_body name c.in_ok-shape.shape c.in_ok-shape.hashes) (sym given))
    c.with_body.ensures.err
