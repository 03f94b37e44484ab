use Rattle.std.proofs.Common.{◌∷◌, [], List, ap, sym, ◌∙◌, refl, inl, inr}
use Rattle.std.proofs.lemmas.Option.{IfSome_then}
use Rattle.pp_tokens.specs.declared.token.Token.{Token}
use Rattle.pp_tokens.specs.Tokens.{token_seen}
use Rattle.macro_expand.proofs.operand.operand_name.Goals as goal

pub returns-then-is_identifier : goal.returns-then-is_identifier
returns-then-is_identifier c =
    (token_seen c.in_ok-first.first ∷ [], ((sym c.is_identifier.ensures ∙ c.if-is_identifier.true, inl refl), c.in_ok-first.ensures))

pub returns : goal.returns
returns c =
    let first = token_seen c.in_ok-first.first in
    IfSome_then c.name_before_close.result c.name_before_close.ensures
    (λ name found. (
      first ∷ token_seen name ∷ found.1.0 ∷ [],
      (
        (found.0, inr (first, (found.1.0, ((sym c.is_identifier.ensures ∙ c.if-is_identifier.false, (sym c.is_mark.ensures ∙ c.if-not-is_mark.false, found.1.1.0)), refl)))),
        c.in_ok-first.ensures ∙ ap (λ (l : List Token). first ∷ l) found.1.1.1,
      ),
    ))
