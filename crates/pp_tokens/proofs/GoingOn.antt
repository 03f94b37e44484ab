-- A text of one token and the bytes that go on with it are one token.
use Rattle.std.proofs.Common.{◌≡◌, ℕ, suc, ◌-◌, Bool, true, false, ◌&&◌, ◌||◌, List, [], ◌∷◌, ◌++◌, length, get_or, Some, None, refl, ap, sym, ◌∙◌, arith, cond}
use Rattle.std.specs.List.{list_all}
use Rattle.std.specs.Prelude.{◌==◌}
use Rattle.std.proofs.lemmas.Bool.{and_parts}
use Rattle.std.proofs.lemmas.List.Folds.{list_all-append}
use Rattle.pp_tokens.specs.declared.token.Kind.{Kind}
use Rattle.pp_tokens.specs.declared.token.Kind.TheVariants.{Ident, Number, Char, Str, Punct, Other, Header}
use Rattle.pp_tokens.specs.Grammar.{is_digit, is_identifier_start, is_identifier_byte, is_identifier, is_number, begins_with_digit, number_goes_on, continues_number, is_string, is_character, is_punctuator, is_one_byte, kind_of, goes_on}
use Rattle.pp_tokens.proofs.FirstBytes.{apart, start_no_digit}

-- what the tests of a text's kind tell of it
named : (a b c d e f : Bool) → cond a (Some Ident) (cond b (Some Number) (cond c (Some Char) (cond d (Some Str) (cond e (Some Punct) (cond f (Some Other) None))))) ≡ Some Ident → a ≡ true
named true b c d e f h = refl
named false true c d e f h = cc
named false false true d e f h = cc
named false false false true e f h = cc
named false false false false true f h = cc
named false false false false false true h = cc
named false false false false false false h = cc

numbered : (a b c d e f : Bool) → cond a (Some Ident) (cond b (Some Number) (cond c (Some Char) (cond d (Some Str) (cond e (Some Punct) (cond f (Some Other) None))))) ≡ Some Number → b ≡ true
numbered true b c d e f h = cc
numbered false true c d e f h = refl
numbered false false true d e f h = cc
numbered false false false true e f h = cc
numbered false false false false true f h = cc
numbered false false false false false true h = cc
numbered false false false false false false h = cc

kind_named : (t : List ℕ) → kind_of t ≡ Some Ident → is_identifier t ≡ true
unfolding kind_of
kind_named t h = named (is_identifier t) (is_number t) (is_character t) (is_string t) (is_punctuator t) (is_one_byte t) h

kind_numbered : (t : List ℕ) → kind_of t ≡ Some Number → is_number t ≡ true
unfolding kind_of
kind_numbered t h = numbered (is_identifier t) (is_number t) (is_character t) (is_string t) (is_punctuator t) (is_one_byte t) h

-- no identifier begins as a number does
no_start : (b : ℕ) (bs : List ℕ) → (is_digit b || ((b == 46) && begins_with_digit bs)) ≡ true → is_identifier_start b ≡ false
no_start b bs number = go (is_identifier_start b) refl
  where
    go : (s : Bool) → is_identifier_start b ≡ s → s ≡ false
    go false start = refl
    go true start =
        let digit : is_digit b ≡ false = start_no_digit b start in
        let dot : (b == 46) ≡ false = apart is_identifier_start b 46 start refl in
        let h : false ≡ true = sym (ap (λ d. d || ((b == 46) && begins_with_digit bs)) digit ∙ ap (λ d. d && begins_with_digit bs) dot) ∙ number in
        cc

-- bytes behind those of a number
further : (b : ℕ) (bs r : List ℕ) → number_goes_on b (bs ++ r) ≡ (number_goes_on b bs && number_goes_on (get_or (b ∷ bs) (length bs) 0) r)
unfolding number_goes_on
further b [] r = refl
further b (c ∷ cs) r = go (continues_number b c) (further c cs r)
  where
    go : (t : Bool) → number_goes_on c (cs ++ r) ≡ (number_goes_on c cs && number_goes_on (get_or (c ∷ cs) (length cs) 0) r) →
        (t && number_goes_on c (cs ++ r)) ≡ ((t && number_goes_on c cs) && number_goes_on (get_or (b ∷ c ∷ cs) (suc (length cs)) 0) r)
    go true rest = rest
    go false rest = refl

-- whether a number's second byte is a digit doesn't change behind it
digit_still : (bs r : List ℕ) → begins_with_digit bs ≡ true → begins_with_digit (bs ++ r) ≡ true
digit_still [] r h = cc
digit_still (b ∷ bs) r h = h

name_grown : (t r : List ℕ) → is_identifier t ≡ true → list_all is_identifier_byte r ≡ true → is_identifier (t ++ r) ≡ true
unfolding is_identifier
name_grown [] r name more = cc
name_grown (b ∷ bs) r name more =
    let parts = and_parts (is_identifier_start b) (list_all is_identifier_byte bs) name in
    ap (λ s. s && list_all is_identifier_byte (bs ++ r)) parts.0
    ∙ list_all-append is_identifier_byte bs r
    ∙ ap (λ s. s && list_all is_identifier_byte r) parts.1
    ∙ more

number_grown : (b : ℕ) (bs r : List ℕ) → is_number (b ∷ bs) ≡ true → number_goes_on (get_or (b ∷ bs) (length bs) 0) r ≡ true → is_number (b ∷ (bs ++ r)) ≡ true
unfolding is_number
number_grown b bs r number more =
    let parts = and_parts (is_digit b || ((b == 46) && begins_with_digit bs)) (number_goes_on b bs) number in
    go (is_digit b) (b == 46) (begins_with_digit bs) refl parts.0
    ∙ further b bs r
    ∙ ap (λ s. s && number_goes_on (get_or (b ∷ bs) (length bs) 0) r) parts.1
    ∙ more
  where
    go : (d p s : Bool) → begins_with_digit bs ≡ s → (d || (p && s)) ≡ true →
        ((d || (p && begins_with_digit (bs ++ r))) && number_goes_on b (bs ++ r)) ≡ number_goes_on b (bs ++ r)
    go true p s is h = refl
    go false true true is h = ap (λ q. q && number_goes_on b (bs ++ r)) (digit_still bs r is)
    go false true false is h = cc
    go false false s is h = cc

-- A name or a number and what goes on with it are one token of its kind (6.4.2.1, 6.4.8).
pub one_token_still : (k : Kind) (t r : List ℕ) → goes_on k t r ≡ true → kind_of t ≡ Some k → kind_of (t ++ r) ≡ Some k
unfolding kind_of is_number is_identifier
one_token_still Ident t r more one =
    ap (λ a. cond a (Some Ident) (cond (is_number (t ++ r)) (Some Number) (cond (is_character (t ++ r)) (Some Char) (cond (is_string (t ++ r)) (Some Str) (cond (is_punctuator (t ++ r)) (Some Punct) (cond (is_one_byte (t ++ r)) (Some Other) None))))))
    (name_grown t r (kind_named t one) more)
one_token_still Number [] r more one = absurd (empty (kind_numbered [] one))
  where
    empty : is_number [] ≡ true → ⊥
    empty h = cc
one_token_still Number (b ∷ bs) r more one =
    let number = kind_numbered (b ∷ bs) one in
    let last : length (b ∷ bs) - 1 ≡ length bs = omega arith in
    let behind : number_goes_on (get_or (b ∷ bs) (length bs) 0) r ≡ true = ap (λ n. number_goes_on (get_or (b ∷ bs) n 0) r) (sym last) ∙ more in
    numbered_still (is_identifier (b ∷ (bs ++ r))) (is_number (b ∷ (bs ++ r))) (is_character (b ∷ (bs ++ r))) (is_string (b ∷ (bs ++ r))) (is_punctuator (b ∷ (bs ++ r))) (is_one_byte (b ∷ (bs ++ r)))
    (no_name number) (number_grown b bs r number behind)
  where
    numbered_still : (a n c d e f : Bool) → a ≡ false → n ≡ true → cond a (Some Ident) (cond n (Some Number) (cond c (Some Char) (cond d (Some Str) (cond e (Some Punct) (cond f (Some Other) None))))) ≡ Some Number
    numbered_still false true c d e f none some = refl
    numbered_still true n c d e f none some = cc
    numbered_still false false c d e f none some = cc

    no_name : is_number (b ∷ bs) ≡ true → is_identifier (b ∷ (bs ++ r)) ≡ false
    no_name number =
        ap (λ s. s && list_all is_identifier_byte (bs ++ r))
        (no_start b bs (and_parts (is_digit b || ((b == 46) && begins_with_digit bs)) (number_goes_on b bs) number).0)
one_token_still Char t r more one = cc
one_token_still Str t r more one = cc
one_token_still Punct t r more one = cc
one_token_still Other t r more one = cc
one_token_still Header t r more one = cc
