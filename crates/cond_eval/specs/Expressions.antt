-- Expressions (ISO C 6.5, 6.6): how deep they nest, and their value.
use Rattle.std.specs.Prelude.{ℕ, zero, suc, max, Bool, ◌||◌, ◌==◌, not, Option, Some, option_map, option_and_then}
use Rattle.cond_eval.specs.declared.num.Num.{Num}
use Rattle.cond_eval.specs.declared.operator.Unary.{Unary}
use Rattle.cond_eval.specs.declared.operator.Binary.{Binary}
use Rattle.cond_eval.specs.declared.operator.Binary.TheVariants as op
use Rattle.cond_eval.specs.Arithmetic.{truth, unary_bits, unary_unsigned, binary_bits, binary_unsigned}

-- a constant, an expression in parentheses, a unary, a binary or a conditional one
pub data Expression : Type 0 where
  constant : Num → Expression
  enclosed : Expression → Expression
  unary : Unary → Expression → Expression
  binary : Binary → Expression → Expression → Expression
  conditional : Expression → Expression → Expression → Expression

-- the most expressions in parentheses, unary and conditional ones that some token lies inside
unfoldable pub depth : Expression → ℕ
depth (constant n) = 0
depth (enclosed e) = suc (depth e)
depth (unary u e) = suc (depth e)
depth (binary b x y) = max (depth x) (depth y)
depth (conditional c x y) = suc (max (depth c) (max (depth x) (depth y)))

-- whether the type is unsigned, evaluated or not (6.3.1.8, 6.5.15)
unfoldable pub is_unsigned : Expression → Bool
is_unsigned (constant n) = n.unsigned
is_unsigned (enclosed e) = is_unsigned e
is_unsigned (unary u e) = unary_unsigned u (is_unsigned e)
is_unsigned (binary b x y) = binary_unsigned b (is_unsigned x) (is_unsigned y)
is_unsigned (conditional c x y) = is_unsigned x || is_unsigned y

-- the right operand of `&&` is evaluated where the left one isn't 0 (6.5.13)
abbrev pub logical_and : ℕ → Option ℕ → Option ℕ
logical_and zero right = Some 0
logical_and (suc a) right = option_map (λ b. truth (not (b == 0))) right

-- that of `||` where it is 0 (6.5.14)
abbrev pub logical_or : ℕ → Option ℕ → Option ℕ
logical_or zero right = option_map (λ b. truth (not (b == 0))) right
logical_or (suc a) right = Some 1

-- the second operand where the first isn't 0, else the third (6.5.15)
abbrev pub one_of : ℕ → Option ℕ → Option ℕ → Option ℕ
one_of zero x y = y
one_of (suc a) x y = x

-- a binary operator, by the types of its operands
abbrev pub evaluated : Binary → Bool → Bool → Option ℕ → Option ℕ → Option ℕ
evaluated op.LogicalAnd u v x y = option_and_then (λ a. logical_and a y) x
evaluated op.LogicalOr u v x y = option_and_then (λ a. logical_or a y) x
evaluated b u v x y = option_and_then (λ m. option_and_then (λ n. binary_bits b u v m n) y) x

-- the bits of the value; None where an operand that is evaluated divides by 0
unfoldable pub bits_of : Expression → Option ℕ
bits_of (constant n) = Some n.bits
bits_of (enclosed e) = bits_of e
bits_of (unary u e) = option_map (unary_bits u) (bits_of e)
bits_of (binary b x y) = evaluated b (is_unsigned x) (is_unsigned y) (bits_of x) (bits_of y)
bits_of (conditional c x y) = option_and_then (λ a. one_of a (bits_of x) (bits_of y)) (bits_of c)
