-- Integer constants and character constants of controlling expressions (ISO C 6.4.4.1, 6.4.4.4, 6.10.1 paragraph 4).
use Rattle.std.specs.Prelude.{ℕ, ◌+◌, ◌-◌, ◌*◌, ◌^◌, Bool, true, false, not, ◌&&◌, ◌||◌, ◌==◌, List, [], ◌∷◌, length, take, drop, if◌then◌else◌, nat_le, nat_lt, Option, Some, None, Result, Ok, Err}
use Rattle.std.specs.List.{list_any, list_all, take_while}
use Rattle.base_types.specs.Ascii as ascii
use Rattle.cond_eval.specs.declared.num.Num.{Num}
use Rattle.cond_eval.specs.declared.num.CondError.{CondError}
use Rattle.cond_eval.specs.declared.num.CondError.TheVariants.{NotInteger, TooWide}

-- one more than the greatest value of 64 bits (6.10.1 paragraph 4, 7.20.1.5)
abbrev pub modulus : ℕ
modulus = 2 ^ 64

-- ---- integer constants (6.4.4.1) ----

-- what a digit stands for; 16 where a byte is none
abbrev pub digit_value : ℕ → ℕ
digit_value b =
    if nat_le ascii.zero_digit b && nat_le b ascii.nine_digit then b - ascii.zero_digit
    else (if nat_le ascii.lower_a b && nat_le b ascii.lower_f then b - 87
    else (if nat_le ascii.upper_a b && nat_le b ascii.upper_f then b - 55 else 16))

abbrev pub is_digit_in : ℕ → ℕ → Bool
is_digit_in base b = nat_lt (digit_value b) base

-- digits behind others, which stand for so much
unfoldable pub value_behind : ℕ → ℕ → List ℕ → ℕ
value_behind base n [] = n
value_behind base n (b ∷ bs) = value_behind base (n * base + digit_value b) bs

-- the letters of suffixes
abbrev pub is_u : ℕ → Bool
is_u b = b == ascii.lower_u || b == ascii.upper_u

abbrev pub is_l : ℕ → Bool
is_l b = b == ascii.lower_l || b == ascii.upper_l

-- a suffix: `u`, and `l` or two `l` side by side, each in either case and in any order
abbrev pub is_suffix : List ℕ → Bool
is_suffix [] = true
is_suffix (a ∷ []) = is_u a || is_l a
is_suffix (a ∷ b ∷ []) = (is_u a && is_l b) || (is_l a && (is_u b || is_l b))
is_suffix (a ∷ b ∷ c ∷ []) = (is_u a && (is_l b && is_l c)) || (is_l a && (is_l b && is_u c))
is_suffix (a ∷ b ∷ c ∷ d ∷ bs) = false

-- of a constant: the base, and the digits with the suffix
pub record Spelled : Type 0 where
  pub base : ℕ
  pub rest : List ℕ

-- a constant that begins with `0`, by the next byte
abbrev pub behind_zero : List ℕ → ℕ → List ℕ → Spelled
behind_zero text b bs =
    if b == ascii.lower_x || b == ascii.upper_x then record { base = 16; rest = bs }
    else (if b == ascii.lower_b || b == ascii.upper_b then record { base = 2; rest = bs } else record { base = 8; rest = text })

abbrev pub spelled_by : List ℕ → Spelled
spelled_by [] = record { base = 10; rest = [] }
spelled_by (a ∷ []) = record { base = 10; rest = a ∷ [] }
spelled_by (a ∷ b ∷ bs) = if a == ascii.zero_digit then behind_zero (a ∷ b ∷ bs) b bs else record { base = 10; rest = a ∷ b ∷ bs }

-- a constant of a value: unsigned by its suffix, or because no signed type holds it
abbrev pub number_valued : Bool → ℕ → Result Num CondError
number_valued unsigned value =
    if nat_lt value modulus then Ok (record { bits = value; unsigned = unsigned || not (nat_lt value (2 ^ 63)) }) else Err TooWide

-- digits and a suffix
abbrev pub number_parted : ℕ → List ℕ → List ℕ → Result Num CondError
number_parted base digits suffix =
    if nat_lt 0 (length digits) && is_suffix suffix then number_valued (list_any is_u suffix) (value_behind base 0 digits) else Err NotInteger

-- how many digits stand in front
abbrev pub digits_before : ℕ → List ℕ → ℕ
digits_before base text = length (take_while (is_digit_in base) text)

abbrev pub number_spelled : Spelled → Result Num CondError
number_spelled s = number_parted s.base (take (digits_before s.base s.rest) s.rest) (drop (digits_before s.base s.rest) s.rest)

-- the integer constant that a number's spelling is, or what is wrong with it
unfoldable pub number_value : List ℕ → Result Num CondError
number_value text = number_spelled (spelled_by text)

-- ---- character constants (6.4.4.4) ----

-- what stands between the quotes
abbrev pub between_quotes : List ℕ → List ℕ
between_quotes text =
    let quoted = drop (length (take_while (λ b. not (b == ascii.apostrophe)) text)) text in
    take (length quoted - 2) (drop 1 quoted)

-- the simple escapes: the letter behind the `\`, and the character
abbrev pub simple_escape : ℕ → Option ℕ
simple_escape b =
    if b == ascii.apostrophe then Some ascii.apostrophe
    else (if b == ascii.quote then Some ascii.quote
    else (if b == ascii.question then Some ascii.question
    else (if b == ascii.backslash then Some ascii.backslash
    else (if b == ascii.lower_a then Some 7
    else (if b == ascii.lower_b then Some 8
    else (if b == ascii.lower_f then Some ascii.form_feed
    else (if b == ascii.lower_n then Some ascii.newline
    else (if b == ascii.lower_r then Some ascii.carriage_return
    else (if b == ascii.lower_t then Some ascii.tab
    else (if b == ascii.lower_v then Some ascii.vertical_tab else None))))))))))

-- one to three octal digits
abbrev pub octal_escape : List ℕ → Option ℕ
octal_escape digits =
    if nat_lt 0 (length digits) && nat_le (length digits) 3 && list_all (is_digit_in 8) digits then Some (value_behind 8 0 digits) else None

-- at least one hexadecimal digit
abbrev pub hexadecimal_escape : List ℕ → Option ℕ
hexadecimal_escape digits =
    if nat_lt 0 (length digits) && list_all (is_digit_in 16) digits then Some (value_behind 16 0 digits) else None

-- what stands behind a `\`
abbrev pub escape : List ℕ → Option ℕ
escape [] = None
escape (b ∷ []) = elim (simple_escape b) [ Some c ↦ Some c | None ↦ octal_escape (b ∷ []) ]
escape (b ∷ c ∷ bs) = if b == ascii.lower_x then hexadecimal_escape (c ∷ bs) else octal_escape (b ∷ c ∷ bs)

-- the one character between quotes
abbrev pub character : List ℕ → Option ℕ
character [] = None
character (b ∷ []) = if b == ascii.backslash then None else Some b
character (b ∷ c ∷ bs) = if b == ascii.backslash then escape (c ∷ bs) else None

-- a character of the basic set is an int of its code
abbrev pub character_coded : Option ℕ → Result Num CondError
character_coded None = Err NotInteger
character_coded (Some code) = if nat_le code 127 then Ok (record { bits = code; unsigned = false }) else Err NotInteger

-- the value of a character constant's spelling, or what is wrong with it
unfoldable pub character_value : List ℕ → Result Num CondError
character_value text = character_coded (character (between_quotes text))
