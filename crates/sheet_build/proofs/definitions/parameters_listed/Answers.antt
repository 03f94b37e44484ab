use Rattle.std.proofs.Common.{◌∷◌, List, sym, ap, ◌∙◌, subst}
use Rattle.pp_tokens.specs.declared.Token.{Token}
use Rattle.pp_tokens.specs.Tokens.{token_seen, rest_of}
use Rattle.sheet_build.specs.parts.Counted.{IsListed}
use Rattle.sheet_build.proofs.Parameters.{none-listed, one-listed, two-listed}
use Rattle.sheet_build.proofs.definitions.parameters_listed.Goals as goal

pub returns-then-is_mark-clause-listed : goal.returns-then-is_mark-clause-listed
returns-then-is_mark-clause-listed c =
    subst (IsListed 1) (sym c.in_ok-first.ensures.steps)
    (none-listed (token_seen c.in_ok-first.first) (rest_of c.next.new.self) (sym c.is_mark.ensures ∙ c.if-is_mark.true))

pub returns-then-is_mark-2-clause-listed : goal.returns-then-is_mark-2-clause-listed
returns-then-is_mark-2-clause-listed c =
    let first = token_seen c.in_ok-first.first in
    let mark = token_seen c.in_ok-mark.mark in
    subst (IsListed 2) (sym (c.in_ok-first.ensures.steps ∙ ap (λ (ts : List Token). first ∷ ts) c.in_ok-mark.ensures.steps))
    (one-listed first mark (rest_of c.next-2.new.self) (sym c.is_parameter.ensures ∙ c.if-not-is_parameter.false) (sym c.is_mark-2.ensures ∙ c.if-is_mark-2.true))

pub returns-clause-listed : goal.returns-clause-listed
returns-clause-listed c =
    let first = token_seen c.in_ok-first.first in
    let mark = token_seen c.in_ok-mark.mark in
    let second = token_seen c.in_ok-second.second in
    let close = token_seen c.in_ok-close.close in
    subst (IsListed 4) (sym (
    c.in_ok-first.ensures.steps
    ∙ ap (λ (ts : List Token). first ∷ ts) c.in_ok-mark.ensures.steps
    ∙ ap (λ (ts : List Token). first ∷ mark ∷ ts) c.in_ok-second.ensures.steps
    ∙ ap (λ (ts : List Token). first ∷ mark ∷ second ∷ ts) c.in_ok-close.ensures.steps
    ))
    (two-listed first mark second close (rest_of c.next-4.new.self)
    (sym c.is_parameter.ensures ∙ c.if-not-is_parameter.false) (sym c.is_mark-2.ensures ∙ c.if-is_mark-2.false) (sym c.is_mark-3.ensures ∙ c.if-not-is_mark.false)
    (sym c.is_parameter-2.ensures ∙ c.if-not-is_parameter-2.false) (sym c.eq.ensures ∙ c.if-eq.false) (sym c.is_mark-4.ensures ∙ c.if-not-is_mark-2.false))
