-- What the code keeps of an expression. No public contract rests on it.
use Rattle.std.specs.Prelude.{◌≡◌, ℕ, ◌+◌, min, max, Bool, ◌||◌, List, [], ◌∷◌, ◌++◌, Option, Some, None, Result, Ok, Err, option_map, option_and_then, nat_lt, nat_le, false, if◌then◌else◌}
use Rattle.base_types.specs.Limits.{condition_depth_limit}
use Rattle.cond_eval.specs.declared.num.Num.{Num}
use Rattle.cond_eval.specs.declared.num.CondError.{CondError}
use Rattle.cond_eval.specs.declared.num.CondError.TheVariants.{TooDeep, Memory, Syntax}
use Rattle.cond_eval.specs.declared.operator.Unary.{Unary}
use Rattle.cond_eval.specs.declared.operator.Binary.{Binary}
use Rattle.cond_eval.specs.declared.seen.Seen.{Seen}
use Rattle.cond_eval.specs.declared.lexeme.Lexeme.{Lexeme}
use Rattle.cond_eval.specs.declared.pending.Pending.{Pending}
use Rattle.cond_eval.specs.Making.{Making}
use Rattle.cond_eval.specs.Arithmetic.{unary_bits, unary_unsigned, binary_unsigned}
use Rattle.cond_eval.specs.Expressions.{Expression, depth, is_unsigned, bits_of, evaluated, one_of}
use Rattle.cond_eval.specs.Reading.{ReadSoFar, due, read, wrong, binding_of_open}
use Rattle.cond_eval.specs.Value.{number_or_zero_divisor}

-- a depth as it is kept: one above the limit stands for all above it
abbrev pub capped : ℕ → ℕ
capped n = min n (condition_depth_limit + 1)

abbrev pub deeper : ℕ → ℕ
deeper n = min (n + 1) (condition_depth_limit + 1)

-- an expression's bits, its type and its depth
abbrev pub seen_of : Expression → Seen
seen_of e = record { bits = bits_of e; unsigned = is_unsigned e; depth = capped (depth e) }

abbrev pub seen_constant : Num → Seen
seen_constant n = record { bits = Some n.bits; unsigned = n.unsigned; depth = 0 }

abbrev pub seen_enclosed : Seen → Seen
seen_enclosed s = record s { depth = deeper s.depth }

abbrev pub seen_unary : Unary → Seen → Seen
seen_unary u s = record { bits = option_map (unary_bits u) s.bits; unsigned = unary_unsigned u s.unsigned; depth = deeper s.depth }

abbrev pub seen_binary : Binary → Seen → Seen → Seen
seen_binary b x y = record {
  bits = evaluated b x.unsigned y.unsigned x.bits y.bits;
  unsigned = binary_unsigned b x.unsigned y.unsigned;
  depth = max x.depth y.depth;
}

abbrev pub seen_conditional : Seen → Seen → Seen → Seen
seen_conditional c x y = record {
  bits = option_and_then (λ a. one_of a x.bits y.bits) c.bits;
  unsigned = x.unsigned || y.unsigned;
  depth = deeper (max c.depth (max x.depth y.depth));
}

abbrev pub values : Making Seen
values = record {
  of_constant = seen_constant;
  of_enclosed = seen_enclosed;
  of_unary = seen_unary;
  of_binary = seen_binary;
  of_conditional = seen_conditional;
}

-- how far the code has read: what stands open, and the operand that was read behind it
abbrev pub progress_of : List (Pending Seen) → Option Seen → ReadSoFar Seen
progress_of ps None = due ps
progress_of ps (Some s) = read (record { around = ps; value = s })

-- a value, of what is known of an expression
abbrev pub checked_value : Seen → Result Num CondError
checked_value s = if nat_lt condition_depth_limit s.depth then Err TooDeep else number_or_zero_divisor s.unsigned s.bits

-- whether something that binds so tightly ends the operand of what stands open last
abbrev pub ends_first : ℕ → List (Pending Seen) → Bool
ends_first tight [] = false
ends_first tight (p ∷ ps) = nat_le tight (binding_of_open p)

-- an error of the code, where reading comes to this; want of memory tells nothing
abbrev pub IsWrong : CondError → ReadSoFar Seen → Type 0
IsWrong Memory p = Unit {0}
IsWrong Syntax p = p ≡ wrong
IsWrong _ p = ⊥

-- the same of what was read to its end
abbrev pub IsNone : CondError → Option Seen → Type 0
IsNone Memory s = Unit {0}
IsNone Syntax s = s ≡ None
IsNone _ s = ⊥

-- lexemes that were read, in front of those that are left
abbrev pub with_front : List Lexeme → Result (List Lexeme) CondError → Result (List Lexeme) CondError
with_front front (Ok ls) = Ok (front ++ ls)
with_front front (Err e) = Err e
