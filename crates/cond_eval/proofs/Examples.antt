-- Values that are computed, by the definitions.
use Rattle.std.specs.Prelude.{◌≡◌, ℕ, true, false, List, [], ◌∷◌, Result, Ok, Err, codes, refl}
use Rattle.pp_tokens.specs.declared.token.Kind.TheVariants as kind
use Rattle.pp_tokens.specs.declared.token.Token.{Token}
use Rattle.cond_eval.specs.declared.num.Num.{Num}
use Rattle.cond_eval.specs.declared.num.CondError.{CondError}
use Rattle.cond_eval.specs.declared.num.CondError.TheVariants.{Syntax, ZeroDivisor, NotInteger, TooWide}
use Rattle.cond_eval.specs.Value.{expression_value, lexemes_of}
use Rattle.cond_eval.specs.Constants.{number_value, character_value, value_behind}
use Rattle.cond_eval.specs.Arithmetic.{binary_bits, shifted_left, shifted_right}
use Rattle.cond_eval.specs.Expressions.{depth, is_unsigned, bits_of}
use Rattle.cond_eval.specs.Lexemes.{punctuator_of, lexeme_of}
use Rattle.cond_eval.specs.Reading.{ended, read_on, made_of}

abbrev number : List ℕ → Token
number text = record { kind = kind.Number; text = text; line = 1; space = true }

abbrev character : List ℕ → Token
character text = record { kind = kind.Char; text = text; line = 1; space = true }

abbrev mark : List ℕ → Token
mark text = record { kind = kind.Punct; text = text; line = 1; space = true }

abbrev signed : ℕ → Result Num CondError
signed bits = Ok (record { bits = bits; unsigned = false })

abbrev run : List Token → Result Num CondError
unfolding expression_value lexemes_of number_value character_value value_behind binary_bits shifted_left shifted_right depth is_unsigned bits_of punctuator_of lexeme_of ended read_on made_of
run ts = expression_value ts

greater : run (mark (codes "-") ∷ number (codes "1") ∷ mark (codes ">") ∷ number (codes "0u") ∷ []) ≡ signed 1
unfolding run expression_value lexemes_of number_value character_value value_behind binary_bits shifted_left shifted_right depth is_unsigned bits_of punctuator_of lexeme_of ended read_on made_of
greater = refl

short : run (number (codes "1") ∷ mark (codes "||") ∷ number (codes "1") ∷ mark (codes "/") ∷ number (codes "0") ∷ []) ≡ signed 1
unfolding run expression_value lexemes_of number_value character_value value_behind binary_bits shifted_left shifted_right depth is_unsigned bits_of punctuator_of lexeme_of ended read_on made_of
short = refl

divides : run (number (codes "1") ∷ mark (codes "/") ∷ number (codes "0") ∷ []) ≡ Err ZeroDivisor
unfolding run expression_value lexemes_of number_value character_value value_behind binary_bits shifted_left shifted_right depth is_unsigned bits_of punctuator_of lexeme_of ended read_on made_of
divides = refl

-- -8 >> 70 is -1
far : run (mark (codes "-") ∷ number (codes "8") ∷ mark (codes ">>") ∷ number (codes "70") ∷ []) ≡ signed 18446744073709551615
unfolding run expression_value lexemes_of number_value character_value value_behind binary_bits shifted_left shifted_right depth is_unsigned bits_of punctuator_of lexeme_of ended read_on made_of
far = refl

gone : run (number (codes "1") ∷ mark (codes "<<") ∷ number (codes "64") ∷ []) ≡ signed 0
unfolding run expression_value lexemes_of number_value character_value value_behind binary_bits shifted_left shifted_right depth is_unsigned bits_of punctuator_of lexeme_of ended read_on made_of
gone = refl

other_way : run (number (codes "4") ∷ mark (codes "<<") ∷ mark (codes "-") ∷ number (codes "1") ∷ []) ≡ signed 2
unfolding run expression_value lexemes_of number_value character_value value_behind binary_bits shifted_left shifted_right depth is_unsigned bits_of punctuator_of lexeme_of ended read_on made_of
other_way = refl

wraps : run (number (codes "9223372036854775807") ∷ mark (codes "+") ∷ number (codes "1") ∷ []) ≡ signed 9223372036854775808
unfolding run expression_value lexemes_of number_value character_value value_behind binary_bits shifted_left shifted_right depth is_unsigned bits_of punctuator_of lexeme_of ended read_on made_of
wraps = refl

wide : run (number (codes "18446744073709551616") ∷ []) ≡ Err TooWide
unfolding run expression_value lexemes_of number_value character_value value_behind binary_bits shifted_left shifted_right depth is_unsigned bits_of punctuator_of lexeme_of ended read_on made_of
wide = refl

letter : run (character (codes "'a'") ∷ []) ≡ signed 97
unfolding run expression_value lexemes_of number_value character_value value_behind binary_bits shifted_left shifted_right depth is_unsigned bits_of punctuator_of lexeme_of ended read_on made_of
letter = refl

letters : run (character (codes "'ab'") ∷ []) ≡ Err NotInteger
unfolding run expression_value lexemes_of number_value character_value value_behind binary_bits shifted_left shifted_right depth is_unsigned bits_of punctuator_of lexeme_of ended read_on made_of
letters = refl

octal : run (character (codes "'\\377'") ∷ []) ≡ Err NotInteger
unfolding run expression_value lexemes_of number_value character_value value_behind binary_bits shifted_left shifted_right depth is_unsigned bits_of punctuator_of lexeme_of ended read_on made_of
octal = refl

floating : run (number (codes "1.0") ∷ []) ≡ Err NotInteger
unfolding run expression_value lexemes_of number_value character_value value_behind binary_bits shifted_left shifted_right depth is_unsigned bits_of punctuator_of lexeme_of ended read_on made_of
floating = refl

comma : run (number (codes "1") ∷ mark (codes ",") ∷ number (codes "2") ∷ []) ≡ Err Syntax
unfolding run expression_value lexemes_of number_value character_value value_behind binary_bits shifted_left shifted_right depth is_unsigned bits_of punctuator_of lexeme_of ended read_on made_of
comma = refl

-- 1 - 2 - 3 * -4 ? (0x1F | 0b1) : 2u, of which the type is unsigned
mixed : run (number (codes "1") ∷ mark (codes "-") ∷ number (codes "2") ∷ mark (codes "-") ∷ number (codes "3") ∷ mark (codes "*") ∷ mark (codes "-") ∷ number (codes "4") ∷ mark (codes "?") ∷ mark (codes "(") ∷ number (codes "0x1F") ∷ mark (codes "|") ∷ number (codes "0b1") ∷ mark (codes ")") ∷ mark (codes ":") ∷ number (codes "2ull") ∷ []) ≡ Ok (record { bits = 31; unsigned = true })
unfolding run expression_value lexemes_of number_value character_value value_behind binary_bits shifted_left shifted_right depth is_unsigned bits_of punctuator_of lexeme_of ended read_on made_of
mixed = refl
