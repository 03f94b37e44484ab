use Rattle.std.proofs.Common.{◌≡◌, true, sym, subst, ◌∙◌}
use Rattle.pp_tokens.specs.Grammar.{goes_on}
use Rattle.pp_tokens.proofs.GoingOn.{one_token_still}
use Rattle.pp_tokens.proofs.single.goes_on.Goals as goal

pub returns-in-Ident-clause-one : goal.returns-in-Ident-clause-one
returns-in-Ident-clause-one c on =
    one_token_still c.args.kind c.args.text.now c.args.more.now
    (subst (λ k. goes_on k c.args.text.now c.args.more.now ≡ true) (sym c.in-Ident.is) (sym c.are_of_identifiers.ensures ∙ on))

pub returns-in-Number-clause-one : goal.returns-in-Number-clause-one
returns-in-Number-clause-one c on =
    one_token_still c.args.kind c.args.text.now c.args.more.now
    (subst (λ k. goes_on k c.args.text.now c.args.more.now ≡ true) (sym c.in-Number.is) (rw (c.byte_at.ensures, c.saturating_sub.ensures) at (sym c.number_goes_on.ensures ∙ on)))
