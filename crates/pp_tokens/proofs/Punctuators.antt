-- The longest punctuator in front of a text.
use Rattle.std.specs.Prelude.{◌≡◌, ℕ, Bool, true, false, not, ◌&&◌, ◌||◌, List, [], ◌∷◌, refl, ◌==◌, bytes_eq, codes}
use Rattle.std.specs.List.{list_all, list_any}
use Rattle.std.specs.Cmp.{both_ways}
use Rattle.std.proofs.Common.{sym, ◌∙◌, ap, inl, inr}
use Rattle.std.proofs.lemmas.Bool.{eqb-true, and_parts, or_cases}
use Rattle.std.proofs.lemmas.Slice.Eq.{bytes_eq-Decides}
use Rattle.pp_tokens.specs.Grammar.{is_punctuator, punctuators}
use Rattle.pp_tokens.specs.Plain.{is_text_mark}
use Rattle.pp_tokens.specs.parts.Text.{is_single, is_operator, takes_equals, is_doubled, is_mixed, is_pair, is_triple, is_quadruple, is_second}

-- THE TABLE AND THE TESTS

-- what holds of each entry holds of a text that is one
of_table : (f : List ℕ → Bool) (t : List ℕ) (ps : List (List ℕ)) → list_all f ps ≡ true → list_any (bytes_eq t) ps ≡ true → f t ≡ true
of_table f t [] all h = absurd (cc)
of_table f t (p ∷ ps) all h =
    elim (or_cases (bytes_eq t p) (list_any (bytes_eq t) ps) h) [
      | inl e ↦ ap f ((bytes_eq-Decides t p).0 e) ∙ (and_parts (f p) _ all).0
      | inr later ↦ of_table f t ps (and_parts (f p) _ all).1 later
    ]

-- what holds of each byte of a list holds of a byte that is one
of_bytes : (f : ℕ → Bool) (a : ℕ) (ms : List ℕ) → list_all f ms ≡ true → list_any (λ m. a == m) ms ≡ true → f a ≡ true
of_bytes f a [] all h = absurd (cc)
of_bytes f a (m ∷ ms) all h =
    elim (or_cases (a == m) (list_any (λ k. a == k) ms) h) [
      | inl e ↦ ap f (eqb-true a m e) ∙ (and_parts (f m) _ all).0
      | inr later ↦ of_bytes f a ms (and_parts (f m) _ all).1 later
    ]

-- the test of its length holds of a text of at most four bytes, and no longer one passes
abbrev passes : List ℕ → Bool
passes [] = false
passes (a ∷ []) = is_single a
passes (a ∷ b ∷ []) = is_pair a b
passes (a ∷ b ∷ c ∷ []) = is_triple a b c
passes (a ∷ b ∷ c ∷ d ∷ []) = is_quadruple a b c d
passes (a ∷ b ∷ c ∷ d ∷ e ∷ r) = false

entry_passes : (t : List ℕ) → is_punctuator t ≡ true → passes t ≡ true
unfolding is_punctuator
entry_passes t h = of_table passes t punctuators refl h

pub no_zero : (t : List ℕ) → is_punctuator t ≡ true → list_all (λ b. not (b == 0)) t ≡ true
unfolding is_punctuator
no_zero t h = of_table (list_all (λ b. not (b == 0))) t punctuators refl h

doubled_pairs : (a : ℕ) → is_doubled a ≡ true → is_punctuator (a ∷ a ∷ []) ≡ true
unfolding is_punctuator
doubled_pairs a h = of_bytes (λ m. is_punctuator (m ∷ m ∷ [])) a (codes "<>&|+-") refl h

equals_pairs : (a : ℕ) → takes_equals a ≡ true → is_punctuator (a ∷ 61 ∷ []) ≡ true
unfolding is_punctuator
equals_pairs a h =
    elim (or_cases (is_doubled a) _ h) [
      | inl d ↦ of_bytes (λ m. is_punctuator (m ∷ 61 ∷ [])) a (codes "<>&|+-") refl d
      | inr e ↦ of_bytes (λ m. is_punctuator (m ∷ 61 ∷ [])) a (codes "*/%^!=") refl e
    ]

-- a text of two bytes that are these is one
two_are : (a b k l : ℕ) → is_punctuator (k ∷ l ∷ []) ≡ true → ((a == k) && (b == l)) ≡ true → is_punctuator (a ∷ b ∷ []) ≡ true
two_are a b k l is h =
    let both = and_parts (a == k) (b == l) h in
    ap (λ x. is_punctuator (x ∷ b ∷ [])) (eqb-true a k both.0) ∙ ap (λ y. is_punctuator (k ∷ y ∷ [])) (eqb-true b l both.1) ∙ is

three_are : (a b c k l m : ℕ) → is_punctuator (k ∷ l ∷ m ∷ []) ≡ true → ((a == k) && ((b == l) && (c == m))) ≡ true → is_punctuator (a ∷ b ∷ c ∷ []) ≡ true
three_are a b c k l m is h =
    let both = and_parts (a == k) _ h in
    let later = and_parts (b == l) (c == m) both.1 in
    ap (λ x. is_punctuator (x ∷ b ∷ c ∷ [])) (eqb-true a k both.0) ∙ ap (λ y. is_punctuator (k ∷ y ∷ c ∷ [])) (eqb-true b l later.0)
    ∙ ap (λ z. is_punctuator (k ∷ l ∷ z ∷ [])) (eqb-true c m later.1) ∙ is

either_byte : (a b k l m : ℕ) → is_punctuator (k ∷ l ∷ []) ≡ true → is_punctuator (k ∷ m ∷ []) ≡ true → ((a == k) && ((b == l) || (b == m))) ≡ true → is_punctuator (a ∷ b ∷ []) ≡ true
either_byte a b k l m first second h =
    let both = and_parts (a == k) _ h in
    ap (λ x. is_punctuator (x ∷ b ∷ [])) (eqb-true a k both.0)
    ∙ elim (or_cases (b == l) (b == m) both.1) as (λ _. is_punctuator (k ∷ b ∷ []) ≡ true) [
      | inl e ↦ ap (λ y. is_punctuator (k ∷ y ∷ [])) (eqb-true b l e) ∙ first
      | inr e ↦ ap (λ y. is_punctuator (k ∷ y ∷ [])) (eqb-true b m e) ∙ second
    ]

mixed_pairs : (a b : ℕ) → is_mixed a b ≡ true → is_punctuator (a ∷ b ∷ []) ≡ true
unfolding is_punctuator
mixed_pairs a b h =
    elim (or_cases ((a == 45) && (b == 62)) _ h) [
      | inl e ↦ two_are a b 45 62 refl e
      | inr h1 ↦ elim (or_cases ((a == 35) && (b == 35)) _ h1) [
        | inl e ↦ two_are a b 35 35 refl e
        | inr h2 ↦ elim (or_cases ((a == 60) && ((b == 58) || (b == 37))) _ h2) [
          | inl e ↦ either_byte a b 60 58 37 refl refl e
          | inr h3 ↦ elim (or_cases ((a == 37) && ((b == 58) || (b == 62))) _ h3) [
            | inl e ↦ either_byte a b 37 58 62 refl refl e
            | inr e ↦ two_are a b 58 62 refl e
          ]
        ]
      ]
    ]

pub single_is : (a : ℕ) → is_single a ≡ is_punctuator (a ∷ [])
unfolding is_punctuator
single_is a = both_ways _ _ forth (entry_passes (a ∷ []))
  where
    test : ℕ → Bool
    test m = is_punctuator (m ∷ [])

    operator : is_operator a ≡ true → is_punctuator (a ∷ []) ≡ true
    operator h =
        elim (or_cases (takes_equals a) _ h) [
          | inl t ↦ elim (or_cases (is_doubled a) _ t) [
            | inl d ↦ of_bytes test a (codes "<>&|+-") refl d
            | inr e ↦ of_bytes test a (codes "*/%^!=") refl e
          ]
          | inr o ↦ of_bytes test a (codes "~?:") refl o
        ]

    forth : is_single a ≡ true → is_punctuator (a ∷ []) ≡ true
    forth h =
        elim (or_cases (is_text_mark a) _ h) [
          | inl m ↦ of_bytes test a (codes ";,(){}[]") refl m
          | inr h1 ↦ elim (or_cases (is_operator a) _ h1) [
            | inl o ↦ operator o
            | inr h2 ↦ elim (or_cases (a == 46) (a == 35) h2) [
              | inl e ↦ ap test (eqb-true a 46 e)
              | inr e ↦ ap test (eqb-true a 35 e)
            ]
          ]
        ]

pub pair_is : (a b : ℕ) → is_pair a b ≡ is_punctuator (a ∷ b ∷ [])
pair_is a b = both_ways _ _ forth (entry_passes (a ∷ b ∷ []))
  where
    forth : is_pair a b ≡ true → is_punctuator (a ∷ b ∷ []) ≡ true
    forth h =
        elim (or_cases ((b == 61) && takes_equals a) _ h) [
          | inl e ↦
              (let both = and_parts (b == 61) (takes_equals a) e in
              ap (λ y. is_punctuator (a ∷ y ∷ [])) (eqb-true b 61 both.0) ∙ equals_pairs a both.1)
          | inr h1 ↦ elim (or_cases ((b == a) && is_doubled a) _ h1) [
            | inl e ↦
                (let both = and_parts (b == a) (is_doubled a) e in
                ap (λ y. is_punctuator (a ∷ y ∷ [])) (eqb-true b a both.0) ∙ doubled_pairs a both.1)
            | inr e ↦ mixed_pairs a b e
          ]
        ]

pub triple_is : (a b c : ℕ) → is_triple a b c ≡ is_punctuator (a ∷ b ∷ c ∷ [])
unfolding is_punctuator
triple_is a b c = both_ways _ _ forth (entry_passes (a ∷ b ∷ c ∷ []))
  where
    forth : is_triple a b c ≡ true → is_punctuator (a ∷ b ∷ c ∷ []) ≡ true
    forth h =
        elim (or_cases ((a == 60) && ((b == 60) && (c == 61))) _ h) [
          | inl e ↦ three_are a b c 60 60 61 refl e
          | inr h1 ↦ elim (or_cases ((a == 62) && ((b == 62) && (c == 61))) _ h1) [
            | inl e ↦ three_are a b c 62 62 61 refl e
            | inr e ↦ three_are a b c 46 46 46 refl e
          ]
        ]

pub quadruple_is : (a b c d : ℕ) → is_quadruple a b c d ≡ is_punctuator (a ∷ b ∷ c ∷ d ∷ [])
unfolding is_punctuator
quadruple_is a b c d = both_ways _ _ forth (entry_passes (a ∷ b ∷ c ∷ d ∷ []))
  where
    forth : is_quadruple a b c d ≡ true → is_punctuator (a ∷ b ∷ c ∷ d ∷ []) ≡ true
    forth h =
        let first = and_parts (a == 37) _ h in
        let second = and_parts (b == 58) _ first.1 in
        let third = and_parts (c == 37) (d == 58) second.1 in
        let e : a ∷ b ∷ c ∷ d ∷ [] ≡ 37 ∷ 58 ∷ 37 ∷ 58 ∷ [] = cc (eqb-true a 37 first.0, eqb-true b 58 second.0, eqb-true c 37 third.0, eqb-true d 58 third.1) in
        ap is_punctuator e

-- no longer text is a punctuator
pub no_quintuple : (a b c d e : ℕ) (r : List ℕ) → is_punctuator (a ∷ b ∷ c ∷ d ∷ e ∷ r) ≡ false
no_quintuple a b c d e r = by_test (is_punctuator (a ∷ b ∷ c ∷ d ∷ e ∷ r)) refl
  where
    by_test : (t : Bool) → is_punctuator (a ∷ b ∷ c ∷ d ∷ e ∷ r) ≡ t → t ≡ false
    by_test false h = refl
    by_test true h = absurd (let k : false ≡ true = entry_passes (a ∷ b ∷ c ∷ d ∷ e ∷ r) h in cc)

-- a test that each entry passes fails for no text that is one
fails_none : (f : List ℕ → Bool) (t : List ℕ) → list_all f punctuators ≡ true → f t ≡ false → is_punctuator t ≡ false
unfolding is_punctuator
fails_none f t all fails = by_test (is_punctuator t) refl
  where
    by_test : (b : Bool) → is_punctuator t ≡ b → b ≡ false
    by_test false h = refl
    by_test true h = absurd (let k : false ≡ true = sym fails ∙ of_table f t punctuators all h in cc)

-- the first byte of each is one
abbrev begins : List ℕ → Bool
begins [] = false
begins (a ∷ r) = is_single a

-- the second byte of each that has one
abbrev goes_on : List ℕ → Bool
goes_on [] = true
goes_on (a ∷ []) = true
goes_on (a ∷ b ∷ r) = is_second b

pub no_single : (a : ℕ) (r : List ℕ) → is_single a ≡ false → is_punctuator (a ∷ r) ≡ false
no_single a r h = fails_none begins (a ∷ r) refl h

pub no_second : (a b : ℕ) (r : List ℕ) → is_second b ≡ false → is_punctuator (a ∷ b ∷ r) ≡ false
no_second a b r h = fails_none goes_on (a ∷ b ∷ r) refl h
