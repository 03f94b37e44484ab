use Rattle.std.proofs.Common.{◌≡◌, ℕ, List, Ok, sym, subst}
use Rattle.std.proofs.lemmas.Result.{err_from_is_err_and}
use Rattle.pp_tokens.specs.declared.Token.{Token}
use Rattle.pp_tokens.specs.Tokens.{token_seen, rest_of}
use Rattle.macro_defs.specs.Defining.{RefusesDefinition, after_name}
use Rattle.macro_defs.proofs.Forms.{no_token, no_macro, right_macro, wrong_macro}
use Rattle.macro_defs.proofs.reading.read_define.Goals as goal

pub returns-in_default-clause-err : goal.returns-in_default-clause-err
returns-in_default-clause-err c = no_token (rest_of c.args.rest) c.in_default.ensures.steps.0

pub returns-then-not-names_macro-clause-err : goal.returns-then-not-names_macro-clause-err
returns-then-not-names_macro-clause-err c =
    no_macro (rest_of c.args.rest) (rest_of c.next.new.self) (token_seen c.in-Some.name) c.in-Some.ensures.steps (sym c.if-not-names_macro.ensures)

pub returns-in_err-definition-clause-err : goal.returns-in_err-definition-clause-err
returns-in_err-definition-clause-err c =
    let p = err_from_is_err_and c.from_residual-in_err-definition.result c.from_residual-in_err-definition.ensures.1 in
    rw (p.1, p.2) (
    wrong_macro (rest_of c.args.rest) (rest_of c.next.new.self) (token_seen c.in-Some.name) c.in_err-definition.field-0.0 c.in-Some.ensures.steps (sym c.if-not-names_macro.ensures)
    (subst (λ (ts : List Token). (name : List ℕ) → RefusesDefinition c.in_err-definition.field-0.0 (after_name name ts)) c.in_ok-behind.ensures c.in_err-definition.ensures.err)
    )

pub returns-clause-ok : goal.returns-clause-ok
returns-clause-ok c =
    rw c.in_ok-copy_of.ensures (
    right_macro (rest_of c.args.rest) (rest_of c.next.new.self) (token_seen c.in-Some.name) c.in_ok-definition.definition c.in-Some.ensures.steps (sym c.if-not-names_macro.ensures)
    (subst (λ (ts : List Token). (name : List ℕ) → after_name name ts ≡ Ok (record { name = name; definition = c.in_ok-definition.definition })) c.in_ok-behind.ensures c.in_ok-definition.ensures.ok)
    )
