-- The operators of controlling expressions on 64 bits (ISO C 6.5.3.3, 6.5.5 to 6.5.12, 6.10.1 paragraph 4). Bits stand for a
-- number without a sign, or for one in two's complement.
use Rattle.std.specs.Prelude.{ℕ, suc, ◌+◌, ◌-◌, ◌*◌, ◌/◌, ◌%◌, ◌^◌, Bool, true, false, not, ◌||◌, ◌==◌, if◌then◌else◌, Option, Some, None, ℤ, pos, negsuc, nat_lt, int_lt, int_div, int_rem, bit_and, bit_or, bit_xor}
use Rattle.std.specs.Int.{w64, cast_signed, cast_unsigned, int_shr}
use Rattle.cond_eval.specs.Constants.{modulus}
use Rattle.cond_eval.specs.declared.operator.Unary.{Unary}
use Rattle.cond_eval.specs.declared.operator.Unary.TheVariants.{Plus, Minus, Not, Complement}
use Rattle.cond_eval.specs.declared.operator.Binary.{Binary}
use Rattle.cond_eval.specs.declared.operator.Binary.TheVariants as op

-- the number that bits stand for
abbrev pub number_of_bits : Bool → ℕ → ℤ
number_of_bits unsigned bits = if unsigned then pos bits else cast_signed w64 bits

-- a truth value
abbrev pub truth : Bool → ℕ
truth b = if b then 1 else 0

-- ---- one operand (6.5.3.3) ----

abbrev pub unary_bits : Unary → ℕ → ℕ
unary_bits Plus a = a
unary_bits Minus a = (modulus - a) % modulus
unary_bits Not a = truth (a == 0)
unary_bits Complement a = modulus - 1 - a

-- ---- two operands ----

-- shifts by a count, as if bits were shifted one by one: by 64 or more nothing is left but the sign of a negative number (6.5.7)
abbrev pub left_within : Bool → ℕ → ℕ → ℕ
left_within true a count = (a * 2 ^ count) % modulus
left_within false a count = 0

unfoldable pub shifted_left : ℕ → ℕ → ℕ
shifted_left a count = left_within (nat_lt count 64) a count

-- the bits of 0, or of -1
abbrev pub sign_bits : Bool → ℕ
sign_bits negative = if negative then modulus - 1 else 0

abbrev pub right_within : Bool → Bool → ℕ → ℕ → ℕ
right_within true true a count = a / 2 ^ count
right_within true false a count = cast_unsigned w64 (int_shr (cast_signed w64 a) count)
right_within false true a count = 0
right_within false false a count = sign_bits (int_lt (cast_signed w64 a) (pos 0))

unfoldable pub shifted_right : Bool → ℕ → ℕ → ℕ
shifted_right unsigned a count = right_within (nat_lt count 64) unsigned a count

-- shifts by a number; a negative one shifts the other way
abbrev pub left_by : Bool → ℕ → ℤ → ℕ
left_by unsigned a (pos n) = shifted_left a n
left_by unsigned a (negsuc n) = shifted_right unsigned a (suc n)

abbrev pub right_by : Bool → ℕ → ℤ → ℕ
right_by unsigned a (pos n) = shifted_right unsigned a n
right_by unsigned a (negsuc n) = shifted_left a (suc n)

-- a quotient and a remainder; the smallest number divided by -1 is itself (6.5.5)
abbrev pub quotient : Bool → ℕ → ℕ → ℕ
quotient unsigned a b = if unsigned then a / b else cast_unsigned w64 (int_div (cast_signed w64 a) (cast_signed w64 b))

abbrev pub remainder : Bool → ℕ → ℕ → ℕ
remainder unsigned a b = if unsigned then a % b else cast_unsigned w64 (int_rem (cast_signed w64 a) (cast_signed w64 b))

-- None where the divisor is 0
abbrev pub where_divisible : ℕ → ℕ → Option ℕ
where_divisible b result = if b == 0 then None else Some result

-- what an operator makes of the bits of two operands that are evaluated; None where it divides by 0. Where one operand is unsigned
-- both are, but a shift has the type of its left operand (6.3.1.8, 6.5.7)
unfoldable pub binary_bits : Binary → Bool → Bool → ℕ → ℕ → Option ℕ
binary_bits op.Multiply u v a b = Some ((a * b) % modulus)
binary_bits op.Divide u v a b = where_divisible b (quotient (u || v) a b)
binary_bits op.Remainder u v a b = where_divisible b (remainder (u || v) a b)
binary_bits op.Add u v a b = Some ((a + b) % modulus)
binary_bits op.Subtract u v a b = Some ((a + (modulus - b)) % modulus)
binary_bits op.ShiftLeft u v a b = Some (left_by u a (number_of_bits v b))
binary_bits op.ShiftRight u v a b = Some (right_by u a (number_of_bits v b))
binary_bits op.Less u v a b = Some (truth (int_lt (number_of_bits (u || v) a) (number_of_bits (u || v) b)))
binary_bits op.Greater u v a b = Some (truth (int_lt (number_of_bits (u || v) b) (number_of_bits (u || v) a)))
binary_bits op.LessOrEqual u v a b = Some (truth (not (int_lt (number_of_bits (u || v) b) (number_of_bits (u || v) a))))
binary_bits op.GreaterOrEqual u v a b = Some (truth (not (int_lt (number_of_bits (u || v) a) (number_of_bits (u || v) b))))
binary_bits op.Equal u v a b = Some (truth (a == b))
binary_bits op.NotEqual u v a b = Some (truth (not (a == b)))
binary_bits op.BitAnd u v a b = Some (bit_and a b)
binary_bits op.BitXor u v a b = Some (bit_xor a b)
binary_bits op.BitOr u v a b = Some (bit_or a b)
binary_bits op.LogicalAnd u v a b = Some (truth (not (a == 0 || b == 0)))
binary_bits op.LogicalOr u v a b = Some (truth (not (a == 0) || not (b == 0)))

-- whether an operator's result is unsigned, by whether its operands are (6.3.1.8, 6.5.7, 6.5.8, 6.5.9, 6.5.13, 6.5.14)
abbrev pub binary_unsigned : Binary → Bool → Bool → Bool
binary_unsigned op.Multiply u v = u || v
binary_unsigned op.Divide u v = u || v
binary_unsigned op.Remainder u v = u || v
binary_unsigned op.Add u v = u || v
binary_unsigned op.Subtract u v = u || v
binary_unsigned op.ShiftLeft u v = u
binary_unsigned op.ShiftRight u v = u
binary_unsigned op.Less u v = false
binary_unsigned op.Greater u v = false
binary_unsigned op.LessOrEqual u v = false
binary_unsigned op.GreaterOrEqual u v = false
binary_unsigned op.Equal u v = false
binary_unsigned op.NotEqual u v = false
binary_unsigned op.BitAnd u v = u || v
binary_unsigned op.BitXor u v = u || v
binary_unsigned op.BitOr u v = u || v
binary_unsigned op.LogicalAnd u v = false
binary_unsigned op.LogicalOr u v = false

abbrev pub unary_unsigned : Unary → Bool → Bool
unary_unsigned Plus u = u
unary_unsigned Minus u = u
unary_unsigned Not u = false
unary_unsigned Complement u = u
