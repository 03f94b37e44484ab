use Rattle.std.proofs.Common.{◌≡◌, ◌∷◌, List, sym, ap, ◌∙◌}
use Rattle.pp_tokens.specs.declared.Token.{Token}
use Rattle.pp_tokens.specs.Tokens.{token_seen, rest_of}
use Rattle.sheet_build.specs.parts.Counted.{defined_tokens, object_tokens}
use Rattle.sheet_build.proofs.Counting.{nothing-defined, unnamed-defined, alone-defined, object-defined, function-defined}
use Rattle.sheet_build.proofs.definitions.defined_tokens.Goals as goal

pub returns-in_default : goal.returns-in_default
returns-in_default c = sym (ap defined_tokens c.in_default.ensures.steps.0 ∙ nothing-defined)

pub returns-then-not-names_macro : goal.returns-then-not-names_macro
returns-then-not-names_macro c =
    sym (ap defined_tokens c.in-Some.ensures.steps ∙ unnamed-defined (token_seen c.in-Some.name) (rest_of c.next.new.self) (sym c.names_macro.ensures ∙ c.if-not-names_macro.true))

pub returns-in_default-next : goal.returns-in_default-next
returns-in_default-next c =
    let name = token_seen c.in-Some.name in
    sym (ap defined_tokens (c.in-Some.ensures.steps ∙ ap (λ (ts : List Token). name ∷ ts) c.in_default-next.ensures.steps.0)
    ∙ alone-defined name (sym c.names_macro.ensures ∙ c.if-not-names_macro.false))

pub returns-then-not-begins_parameters : goal.returns-then-not-begins_parameters
returns-then-not-begins_parameters c =
    let name = token_seen c.in-Some.name in
    let first = token_seen c.in-Some-next.first in
    let rest : List Token = rest_of c.next-2.new.self in
    let whole : rest_of c.args.tokens ≡ name ∷ first ∷ rest = c.in-Some.ensures.steps ∙ ap (λ (ts : List Token). name ∷ ts) c.in-Some-next.ensures.steps in
    c.object_tokens.ensures ∙ ap object_tokens c.in-Some-next.ensures.steps
    ∙ sym (ap defined_tokens whole ∙ object-defined name first rest (sym c.names_macro.ensures ∙ c.if-not-names_macro.false) (sym c.begins_parameters.ensures ∙ c.if-not-begins_parameters.true))

pub returns-in-Some-function_tokens : goal.returns-in-Some-function_tokens
returns-in-Some-function_tokens c =
    let name = token_seen c.in-Some.name in
    let first = token_seen c.in-Some-next.first in
    let rest : List Token = rest_of c.next-2.new.self in
    let whole : rest_of c.args.tokens ≡ name ∷ first ∷ rest = c.in-Some.ensures.steps ∙ ap (λ (ts : List Token). name ∷ ts) c.in-Some-next.ensures.steps in
    c.in-Some-function_tokens.ensures name.text
    ∙ sym (ap defined_tokens whole ∙ function-defined name first rest (sym c.names_macro.ensures ∙ c.if-not-names_macro.false) (sym c.begins_parameters.ensures ∙ c.if-not-begins_parameters.false))
