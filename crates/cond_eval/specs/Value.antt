-- The value of a controlling expression, or the first thing that is wrong with it (ISO C 6.6, 6.10.1).
use Rattle.std.specs.Prelude.{◌≡◌, ℕ, Bool, List, [], ◌∷◌, if◌then◌else◌, nat_lt, Option, Some, None, Result, Ok, Err}
use Rattle.base_types.specs.Limits.{condition_depth_limit}
use Rattle.pp_tokens.specs.declared.token.Token.{Token}
use Rattle.cond_eval.specs.declared.num.Num.{Num}
use Rattle.cond_eval.specs.declared.num.CondError.{CondError}
use Rattle.cond_eval.specs.declared.num.CondError.TheVariants.{Syntax, ZeroDivisor, NotInteger, TooWide, TooDeep, Memory}
use Rattle.cond_eval.specs.declared.lexeme.Lexeme.{Lexeme}
use Rattle.cond_eval.specs.Expressions.{Expression, depth, is_unsigned, bits_of}
use Rattle.cond_eval.specs.Lexemes.{lexeme_of}
use Rattle.cond_eval.specs.Reading.{spelled_expression}

-- a token's reading in front of others'
abbrev pub in_front : Result Lexeme CondError → Result (List Lexeme) CondError → Result (List Lexeme) CondError
in_front (Err e) others = Err e
in_front (Ok l) (Err e) = Err e
in_front (Ok l) (Ok ls) = Ok (l ∷ ls)

-- first, from left to right, what each token is; the first constant that is none ends it
unfoldable pub lexemes_of : List Token → Result (List Lexeme) CondError
lexemes_of [] = Ok []
lexemes_of (t ∷ ts) = in_front (lexeme_of t) (lexemes_of ts)

abbrev pub number_or_zero_divisor : Bool → Option ℕ → Result Num CondError
number_or_zero_divisor unsigned None = Err ZeroDivisor
number_or_zero_divisor unsigned (Some bits) = Ok (record { bits = bits; unsigned = unsigned })

-- then the grammar; the depth, to which expressions in parentheses, unary and conditional ones count; and at last the evaluation
abbrev pub value_in : Option Expression → Result Num CondError
value_in None = Err Syntax
value_in (Some e) = if nat_lt condition_depth_limit (depth e) then Err TooDeep else number_or_zero_divisor (is_unsigned e) (bits_of e)

abbrev pub value_read : Result (List Lexeme) CondError → Result Num CondError
value_read (Err e) = Err e
value_read (Ok ls) = value_in (spelled_expression ls)

-- the value of an expression of these tokens, or the first error
unfoldable pub expression_value : List Token → Result Num CondError
expression_value ts = value_read (lexemes_of ts)

-- an error of the code tells this reading; want of memory tells nothing
abbrev pub RefusesCondition : {A : Type 0} → CondError → Result A CondError → Type 0
RefusesCondition Memory r = Unit {0}
RefusesCondition Syntax r = r ≡ Err Syntax
RefusesCondition ZeroDivisor r = r ≡ Err ZeroDivisor
RefusesCondition NotInteger r = r ≡ Err NotInteger
RefusesCondition TooWide r = r ≡ Err TooWide
RefusesCondition TooDeep r = r ≡ Err TooDeep
