-- The value of what the code keeps of an expression, and lexemes one after another.
use Rattle.std.proofs.Common.{◌≡◌, ℕ, List, [], ◌∷◌, ◌++◌, length, drop, get_or, ◌<◌, ◌≤◌, ◌+◌, suc, Option, Some, None, option_map, Result, Ok, Err, IfOk, IfErr, nat_lt, min, refl, ap, sym, ◌∙◌, arith, drop-cons, add-one, append_assoc, append-nil}
use Rattle.std.proofs.lemmas.List.{drop_all}
use Rattle.pp_tokens.specs.declared.token.Token.{Token}
use Rattle.cond_eval.specs.declared.num.CondError.{CondError}
use Rattle.cond_eval.specs.declared.num.CondError.TheVariants.{Syntax, ZeroDivisor, NotInteger, TooWide, TooDeep, Memory}
use Rattle.cond_eval.specs.declared.lexeme.Lexeme.{Lexeme}
use Rattle.cond_eval.specs.declared.seen.Seen.{Seen}
use Rattle.cond_eval.specs.Expressions.{Expression, depth}
use Rattle.cond_eval.specs.Reading.{made_of, spelled_expression}
use Rattle.cond_eval.specs.Lexemes.{lexeme_of}
use Rattle.cond_eval.specs.Value.{value_in, RefusesCondition, lexemes_of, in_front}
use Rattle.cond_eval.specs.parts.Seen.{values, seen_of, checked_value, IsNone, with_front}
use Rattle.cond_eval.proofs.Making.{seen-made}

-- a depth that is kept is too deep where it is
capped-deep : (d : ℕ) → nat_lt 200 (min d 201) ≡ nat_lt 200 d
capped-deep d = grind arith

checked_value-is : (e : Expression) → checked_value (seen_of e) ≡ value_in (Some e)
checked_value-is e = rw (capped-deep (depth e)) refl

value-seen : (o : Option Expression) (s : Seen) → option_map seen_of o ≡ Some s → checked_value s ≡ value_in o
value-seen None s h = absurd (cc)
value-seen (Some e) s h = let same : seen_of e ≡ s = cc in sym (ap checked_value same) ∙ checked_value-is e

-- what was judged is the value
pub checked_value-value : (ls : List Lexeme) (s : Seen) → made_of values ls ≡ Some s → checked_value s ≡ value_in (spelled_expression ls)
checked_value-value ls s h = value-seen (spelled_expression ls) s (sym (seen-made ls) ∙ h)

value-none : (o : Option Expression) → option_map seen_of o ≡ None → value_in o ≡ Err Syntax
value-none None h = refl
value-none (Some e) h = absurd (cc)

-- where the lexemes spell no expression
pub none-refuses : (error : CondError) (ls : List Lexeme) → IsNone error (made_of values ls) → RefusesCondition error (value_in (spelled_expression ls))
none-refuses Memory ls h = tt
none-refuses Syntax ls h = value-none (spelled_expression ls) (sym (seen-made ls) ∙ h)
none-refuses ZeroDivisor ls h = absurd h
none-refuses NotInteger ls h = absurd h
none-refuses TooWide ls h = absurd h
none-refuses TooDeep ls h = absurd h

-- a result that is the definition's tells it
pub tells-ok : {A : Type 0} (r v : Result A CondError) → r ≡ v → IfOk r (λ n. v ≡ Ok n)
tells-ok (Ok x) v h = sym h
tells-ok (Err e) v h = tt

pub tells-err : {A : Type 0} (r v : Result A CondError) → r ≡ v → IfErr r (λ e. RefusesCondition e v)
tells-err (Ok x) v h = tt
tells-err (Err Memory) v h = tt
tells-err (Err Syntax) v h = sym h
tells-err (Err ZeroDivisor) v h = sym h
tells-err (Err NotInteger) v h = sym h
tells-err (Err TooWide) v h = sym h
tells-err (Err TooDeep) v h = sym h

-- a token more that was read
with_front-one : (front : List Lexeme) (l : Lexeme) (others : Result (List Lexeme) CondError) →
    with_front front (in_front (Ok l) others) ≡ with_front (front ++ l ∷ []) others
with_front-one front l (Ok ls) = ap Ok (sym (append_assoc front (l ∷ []) ls))
with_front-one front l (Err e) = refl

pub with_front-more : (front : List Lexeme) (ts : List Token) (i : ℕ) (t : Token) (l : Lexeme) → i < length ts → t ≡ get_or ts i t → lexeme_of t ≡ Ok l →
    with_front front (lexemes_of (drop i ts)) ≡ with_front (front ++ l ∷ []) (lexemes_of (drop (i + 1) ts))
unfolding lexemes_of
with_front-more front ts i t l h at is =
    rw (drop-cons ts i t h, ← at, is, add-one i) (with_front-one front l (lexemes_of (drop (suc i) ts)))

pub with_front-wrong : (front : List Lexeme) (ts : List Token) (i : ℕ) (t : Token) (e : CondError) → i < length ts → t ≡ get_or ts i t → lexeme_of t ≡ Err e →
    with_front front (lexemes_of (drop i ts)) ≡ Err e
unfolding lexemes_of
with_front-wrong front ts i t e h at is = rw (drop-cons ts i t h, ← at, is) refl

pub with_front-all : (front : List Lexeme) (ts : List Token) (i : ℕ) → length ts ≤ i → with_front front (lexemes_of (drop i ts)) ≡ Ok front
unfolding lexemes_of
with_front-all front ts i h = rw (drop_all i ts h, append-nil front) refl

pub refuses-itself : {A : Type 0} (e : CondError) (v : Result A CondError) → v ≡ Err e → RefusesCondition e v
refuses-itself Memory v h = tt
refuses-itself Syntax v h = h
refuses-itself ZeroDivisor v h = h
refuses-itself NotInteger v h = h
refuses-itself TooWide v h = h
refuses-itself TooDeep v h = h
