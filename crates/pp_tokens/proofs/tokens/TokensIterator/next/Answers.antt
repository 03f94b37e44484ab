use Rattle.std.proofs.Common.{◌≡◌, ◌-◌, take, drop, ℕ, ◌+◌, ◌<◌, ◌∷◌, List, length, suc, Some, slice_get, sym, ap, ◌∙◌, arith, rules, refl}
use Rattle.std.proofs.lemmas.List.{at_drop_more}
use Rattle.std.proofs.lemmas.Option.{slice_get_within, get_or_from_slice_get}
use Rattle.pp_tokens.specs.declared.token.Token.{Token}
use Rattle.pp_tokens.specs.Lines.{all_tokens}
use Rattle.pp_tokens.specs.Tokens.{token_seen}
use Rattle.pp_tokens.proofs.tokens.TokensIterator.next.Goals as goal

-- the first of a stretch, and those behind it
first : (xs : List Token) (at end : ℕ) (t : Token) → at < end → Some t ≡ slice_get xs at → take (end - at) (drop at xs) ≡ t ∷ take (end - (at + 1)) (drop (at + 1) xs)
first xs at end t below is =
    let there : slice_get xs at ≡ Some t = sym is in
    let begins : drop at xs ≡ t ∷ drop (at + 1) xs =
    at_drop_more (λ (ts : List Token). ts) xs at t (slice_get_within xs at t there)
    ∙ ap (λ (x : Token). x ∷ drop (at + 1) xs) (get_or_from_slice_get xs at t t there) in
    let size : end - at ≡ suc (end - (at + 1)) = omega (arith, below) in
    rw (begins, size) refl

pub returns-clause-steps : goal.returns-clause-steps
returns-clause-steps c =
    let s = c.args.self.now in
    first (all_tokens s.lexed.now) s.at s.end (token_seen c.in_ok-token.token) c.if-self.false c.in_ok-token.ensures

pub returns-clause-goes : goal.returns-clause-goes
returns-clause-goes c =
    let s = c.args.self.now in
    let shorter = ap length (first (all_tokens s.lexed.now) s.at s.end (token_seen c.in_ok-token.token) c.if-self.false c.in_ok-token.ensures) in
    search rules
