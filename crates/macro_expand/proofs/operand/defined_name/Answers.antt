use Rattle.std.proofs.Common.{◌∷◌, List, ap, sym, ◌∙◌}
use Rattle.std.proofs.lemmas.Option.{IfSome_then}
use Rattle.pp_tokens.specs.declared.token.Token.{Token}
use Rattle.pp_tokens.specs.Tokens.{token_seen}
use Rattle.macro_expand.proofs.operand.defined_name.Goals as goal

pub returns : goal.returns
returns c =
    let word = token_seen c.in_ok-word.word in
    IfSome_then c.operand_name.result c.operand_name.ensures
    (λ name found. (
      word,
      (found.0, ((sym c.is_defined.ensures ∙ c.if-not-is_defined.false, found.1.0), c.in_ok-word.ensures ∙ ap (λ (l : List Token). word ∷ l) found.1.1)),
    ))
