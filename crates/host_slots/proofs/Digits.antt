-- Numbers read digit by digit.
use Rattle.std.proofs.Common.{◌≡◌, ℕ, ◌+◌, ◌-◌, ◌*◌, ◌≤◌, ◌==◌, Bool, true, false, ◌&&◌, if◌then◌else◌, Some, None, [], ◌∷◌, length, get_or, take, drop, refl, arith}
use Rattle.std.specs.Prelude.{nat_le}
use Rattle.std.specs.List.{list_all}
use Rattle.std.proofs.lemmas.Bool.{leb-true, leb-false, eqb-true, and_right}
use Rattle.std.proofs.lemmas.List.{take_rest}
use Rattle.host_slots.specs.Hosts.{Text, is_digit, decimal_behind, number_in}
use Rattle.host_slots.specs.parts.Numbers.{number_behind, digit_behind}

-- a number with more digits is no smaller
pub value_grows : (n : ℕ) (digits : Text) → n ≤ decimal_behind n digits
value_grows n [] = omega arith
value_grows n (b ∷ digits) = omega (arith, value_grows (n * 10 + (b - 48)) digits)

above : (n most : ℕ) (digits : Text) → nat_le n most ≡ false → nat_le (decimal_behind n digits) most ≡ false
above n most digits e = by_test (nat_le (decimal_behind n digits) most) refl
  where
    by_test : (t : Bool) → nat_le (decimal_behind n digits) most ≡ t → nat_le (decimal_behind n digits) most ≡ false
    by_test true w =
        let within = leb-true (decimal_behind n digits) most w in
        let more = leb-false n most e in
        let grows = value_grows n digits in
        absurd (omega (arith, within, more, grows))
    by_test false w = w

chosen : (t w : Bool) (n m : ℕ) → (if t && w then Some n else None) ≡ Some m → (t ≡ true) × (n ≡ m)
chosen true true n m e = (refl, cc)
chosen true false n m e = absurd (cc)
chosen false w n m e = absurd (cc)

-- a digit more, and those behind it
pub behind-some : (most n b m : ℕ) (digits : Text) → digit_behind most n b ≡ Some m → number_behind most n (b ∷ digits) ≡ number_behind most m digits
unfolding number_behind
behind-some most n b m digits e =
    let p = chosen (is_digit b) (nat_le (n * 10 + (b - 48)) most) (n * 10 + (b - 48)) m e in
    rw (p.0, p.1) refl

-- what is no digit, or takes the number above the limit
pub behind-none : (most n b : ℕ) (digits : Text) → digit_behind most n b ≡ None → number_behind most n (b ∷ digits) ≡ None
unfolding number_behind
behind-none most n b digits e = by_tests (is_digit b) (nat_le (n * 10 + (b - 48)) most) refl refl e
  where
    by_tests : (t w : Bool) → is_digit b ≡ t → nat_le (n * 10 + (b - 48)) most ≡ w → (if t && w then Some (n * 10 + (b - 48)) else None) ≡ None → number_behind most n (b ∷ digits) ≡ None
    by_tests true true d k e = absurd (cc)
    by_tests true false d k e = rw (and_right (list_all is_digit (b ∷ digits)) _ (above (n * 10 + (b - 48)) most digits k)) refl
    by_tests false w d k e = rw d refl

-- no digit more
pub behind-end : (most n : ℕ) → n ≤ most → number_behind most n [] ≡ Some n
unfolding number_behind
behind-end most n within = by_test (nat_le n most) refl
  where
    by_test : (t : Bool) → nat_le n most ≡ t → (if nat_le n most then Some n else None) ≡ Some n
    by_test true e = rw e refl
    by_test false e =
        let more = leb-false n most e in
        absurd (omega (arith, more, within))

-- a number whose first digit is no zero
pub number-in : (most d : ℕ) (text : Text) → 1 ≤ length text → (get_or text 0 d ≡ 48 → ⊥)
    → number_in most text ≡ number_behind most 0 (get_or text 0 d ∷ take (length text - 1) (drop 1 text))
unfolding number_in number_behind
number-in most d [] some e = absurd (omega arith)
number-in most d (b ∷ text) some e = rw (take_rest (b ∷ text) 1, no_zero (b == 48) refl) refl
  where
    no_zero : (t : Bool) → (b == 48) ≡ t → (b == 48) ≡ false
    no_zero true is = absurd (e (eqb-true b 48 is))
    no_zero false is = is
