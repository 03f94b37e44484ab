-- The number that a word says, by what `parse` makes of it.
use Rattle.std.proofs.Common.{◌≡◌, ℕ, ◌<◌, ◌^◌, length, Bool, true, false, ◌&&◌, if◌then◌else◌, nat_le, nat_lt, None, Some, Result, Ok, Err, refl, ◌∙◌, arith, rules}
use Rattle.std.specs.List.{list_all}
use Rattle.std.specs.Char.{is_ascii_digit}
use Rattle.std.specs.Result.{OkIff}
use Rattle.std.specs.Str.Parse.{ParsesUnsigned, digits_value}
use Rattle.std.proofs.lemmas.Str.Parse.{IsNumeralModel, numerals_by_value, parse_digits}
use Rattle.std.proofs.lemmas.Bool.Decides.{nat_tests}
use Rattle.tree_model.specs.Paths.{Text}
use Rattle.run_words.specs.Asked.{is_decimal, number_between}

digits : IsNumeralModel (λ ds. list_all is_ascii_digit ds ≡ true) (digits_value 10)
digits = numerals_by_value _ (search rules)

parts : (a b c : Bool) → (a && (b && c)) ≡ true → (a ≡ true) × (b ≡ true)
parts true true c is = (refl, refl)
parts true false c is = absurd (cc)
parts false b c is = absurd (cc)

refused : (a b : Bool) (n : ℕ) → a ≡ false → None ≡ (if a && b then Some n else None)
refused true b n is = absurd (cc)
refused false b n is = refl

taken : (a b : Bool) (n : ℕ) → a ≡ true → (if b then Some n else None) ≡ (if a && b then Some n else None)
taken true b n is = refl
taken false b n is = absurd (cc)

out-of-range : (b : Bool) (n : ℕ) → (b ≡ true → ⊥) → None ≡ (if b then Some n else None)
out-of-range true n never = absurd (never refl)
out-of-range false n never = refl

module _ (least most : ℕ) (word : Text) where
  pub no-number : is_decimal word ≡ false → None ≡ number_between least most word
  unfolding number_between
  no-number is = refused (is_decimal word) _ _ is

  module _ {E : Type 0} (r : Result ℕ E) (parses : ParsesUnsigned 32 10 word r) (is : is_decimal word ≡ true) where
    read : OkIff r ((0 < length word) × (digits_value 10 word < 2 ^ 32)) (digits_value 10 word)
    read = parse_digits digits 32 word r parses (parts _ _ _ is).1

    pub number : (n : ℕ) → r ≡ Ok n → (if nat_le least n && nat_le n most then Some n else None) ≡ number_between least most word
    unfolding number_between
    number n ok = let got = rw ok at read in rw got.1 (taken (is_decimal word) _ _ is)

    pub no-number-within : most < 2 ^ 32 → (e : E) → r ≡ Err e → None ≡ number_between least most word
    unfolding number_between
    no-number-within small e err =
        let got = rw err at read in
        let some : nat_lt 0 (length word) ≡ true = (parts (nat_lt 0 (length word)) (list_all is_ascii_digit word) _ is).0 in
        out-of-range (nat_le least (digits_value 10 word) && nat_le (digits_value 10 word) most) (digits_value 10 word) (λ fits. got (grind (arith, nat_tests), grind (arith, nat_tests)))
        ∙ taken (is_decimal word) _ _ is
