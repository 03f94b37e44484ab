-- What each token is in an expression (ISO C 6.4, 6.10.1).
use Rattle.std.specs.Prelude.{ℕ, List, if◌then◌else◌, Result, Ok, Err, bytes_eq, codes}
use Rattle.pp_tokens.specs.declared.token.Kind.{Kind}
use Rattle.pp_tokens.specs.declared.token.Kind.TheVariants as kind
use Rattle.pp_tokens.specs.declared.token.Token.{Token}
use Rattle.cond_eval.specs.declared.num.Num.{Num}
use Rattle.cond_eval.specs.declared.num.CondError.{CondError}
use Rattle.cond_eval.specs.declared.num.CondError.TheVariants.{NotInteger}
use Rattle.cond_eval.specs.declared.operator.Binary.TheVariants as op
use Rattle.cond_eval.specs.declared.lexeme.Lexeme.{Lexeme}
use Rattle.cond_eval.specs.declared.lexeme.Lexeme.TheVariants.{Constant, Infix, Bang, Tilde, Question, Colon, Opening, Closing, Foreign}
use Rattle.cond_eval.specs.Constants.{number_value, character_value}

-- ---- one token ----

-- a punctuator, by its spelling
unfoldable pub punctuator_of : List ℕ → Lexeme
punctuator_of text =
    if bytes_eq text (codes "(") then Opening
    else (if bytes_eq text (codes ")") then Closing
    else (if bytes_eq text (codes "&&") then Infix op.LogicalAnd
    else (if bytes_eq text (codes "||") then Infix op.LogicalOr
    else (if bytes_eq text (codes "!") then Bang
    else (if bytes_eq text (codes "==") then Infix op.Equal
    else (if bytes_eq text (codes "!=") then Infix op.NotEqual
    else (if bytes_eq text (codes "<") then Infix op.Less
    else (if bytes_eq text (codes ">") then Infix op.Greater
    else (if bytes_eq text (codes "<=") then Infix op.LessOrEqual
    else (if bytes_eq text (codes ">=") then Infix op.GreaterOrEqual
    else (if bytes_eq text (codes "?") then Question
    else (if bytes_eq text (codes ":") then Colon
    else (if bytes_eq text (codes "+") then Infix op.Add
    else (if bytes_eq text (codes "-") then Infix op.Subtract
    else (if bytes_eq text (codes "*") then Infix op.Multiply
    else (if bytes_eq text (codes "/") then Infix op.Divide
    else (if bytes_eq text (codes "%") then Infix op.Remainder
    else (if bytes_eq text (codes "&") then Infix op.BitAnd
    else (if bytes_eq text (codes "|") then Infix op.BitOr
    else (if bytes_eq text (codes "^") then Infix op.BitXor
    else (if bytes_eq text (codes "~") then Tilde
    else (if bytes_eq text (codes "<<") then Infix op.ShiftLeft
    else (if bytes_eq text (codes ">>") then Infix op.ShiftRight
    else Foreign)))))))))))))))))))))))

abbrev pub constant_read : Result Num CondError → Result Lexeme CondError
constant_read (Ok n) = Ok (Constant n)
constant_read (Err e) = Err e

abbrev pub lexeme_of_kind : Kind → List ℕ → Result Lexeme CondError
lexeme_of_kind kind.Number text = constant_read (number_value text)
lexeme_of_kind kind.Char text = constant_read (character_value text)
lexeme_of_kind kind.Str text = Err NotInteger
lexeme_of_kind kind.Punct text = Ok (punctuator_of text)
lexeme_of_kind kind.Ident text = Ok Foreign
lexeme_of_kind kind.Header text = Ok Foreign
lexeme_of_kind kind.Other text = Ok Foreign

-- what a token is in an expression, or what is wrong with a constant
unfoldable pub lexeme_of : Token → Result Lexeme CondError
lexeme_of t = lexeme_of_kind t.kind t.text
