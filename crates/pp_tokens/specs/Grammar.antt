-- Which texts are preprocessing tokens, and of which kind (ISO C 6.4). A text is a list of bytes.
use Rattle.std.specs.Prelude.{ℕ, suc, Bool, true, false, not, ◌&&◌, ◌||◌, List, [], ◌∷◌, ◌-◌, length, drop, get_or, if◌then◌else◌, nat_le, ◌==◌, nat_eq, Option, Some, None, codes, bytes_eq}
use Rattle.std.specs.List.{list_all, list_any, starts_with}
use Rattle.base_types.specs.Ascii as ascii
use Rattle.pp_tokens.specs.declared.token.Kind.{Kind}
use Rattle.pp_tokens.specs.declared.token.Kind.TheVariants.{Ident, Number, Char, Str, Punct, Other}

-- a decimal digit (5.2.1)
abbrev pub is_digit : ℕ → Bool
is_digit b = nat_le ascii.zero_digit b && nat_le b ascii.nine_digit

-- a letter, `_`, `$` or a byte from 128: what an identifier begins with (6.4.2.1)
abbrev pub is_identifier_start : ℕ → Bool
is_identifier_start b =
    (nat_le ascii.lower_a b && nat_le b ascii.lower_z) || ((nat_le ascii.upper_a b && nat_le b ascii.upper_z) || ((b == ascii.underscore) || ((b == ascii.dollar) || nat_le 128 b)))

-- what an identifier goes on with (6.4.2.1)
abbrev pub is_identifier_byte : ℕ → Bool
is_identifier_byte b = is_identifier_start b || is_digit b

-- white space within a line: space, tab, vertical tab, form feed, and a carriage return that ends no line (6.4)
abbrev pub is_white : ℕ → Bool
is_white b = (b == ascii.space) || ((b == ascii.tab) || ((b == ascii.vertical_tab) || ((b == ascii.form_feed) || (b == ascii.carriage_return))))

abbrev pub is_newline : ℕ → Bool
is_newline b = b == ascii.newline

-- an identifier (6.4.2.1)
unfoldable pub is_identifier : List ℕ → Bool
is_identifier [] = false
is_identifier (b ∷ bs) = is_identifier_start b && list_all is_identifier_byte bs

-- after e, E, p or P a sign belongs to the number (6.4.8)
abbrev pub is_exponent : ℕ → Bool
is_exponent b = (b == ascii.lower_e) || ((b == ascii.upper_e) || ((b == ascii.lower_p) || (b == ascii.upper_p)))

abbrev pub is_sign : ℕ → Bool
is_sign b = (b == ascii.plus) || (b == ascii.minus)

-- b may stand in a number right after the byte a (6.4.8)
abbrev pub continues_number : ℕ → ℕ → Bool
continues_number a b = is_identifier_byte b || ((b == ascii.dot) || (is_sign b && is_exponent a))

-- each of the bytes may stand in a number right after the one before it, the first of them after a (6.4.8)
unfoldable pub number_goes_on : ℕ → List ℕ → Bool
number_goes_on a [] = true
number_goes_on a (b ∷ bs) = continues_number a b && number_goes_on b bs

-- how many bytes go on with the number, right behind the byte a
unfoldable pub number_length : ℕ → List ℕ → ℕ
number_length a [] = 0
number_length a (b ∷ bs) = if continues_number a b then suc (number_length b bs) else 0

abbrev pub begins_with_digit : List ℕ → Bool
begins_with_digit [] = false
begins_with_digit (b ∷ bs) = is_digit b

-- a preprocessing number: a digit, or `.` and a digit, and what goes on (6.4.8)
unfoldable pub is_number : List ℕ → Bool
is_number [] = false
is_number (b ∷ bs) = (is_digit b || ((b == ascii.dot) && begins_with_digit bs)) && number_goes_on b bs

abbrev pub is_empty : List ℕ → Bool
is_empty [] = true
is_empty (b ∷ bs) = false

-- The text is what may stand behind an opening quote, with the closing one as its last byte, on one line.
-- A `\` takes the next byte along: escaped is true right after it (6.4.4.4, 6.4.5).
unfoldable pub closes : ℕ → Bool → List ℕ → Bool
closes quote escaped [] = false
closes quote true (b ∷ bs) = not (is_newline b) && closes quote false bs
closes quote false (b ∷ bs) =
    if b == quote then is_empty bs
    else (not (is_newline b) && closes quote (b == ascii.backslash) bs)

-- quote, content, quote
abbrev pub is_quoted : ℕ → List ℕ → Bool
is_quoted quote [] = false
is_quoted quote (b ∷ bs) = (b == quote) && closes quote false bs

-- one of the prefixes, or none, and then quote, content, quote
abbrev pub is_literal : List (List ℕ) → ℕ → List ℕ → Bool
is_literal prefixes quote t =
    is_quoted quote t || list_any (λ p. starts_with nat_eq t p && is_quoted quote (drop (length p) t)) prefixes

-- a string literal (6.4.5)
unfoldable pub is_string : List ℕ → Bool
is_string t = is_literal (codes "u8" ∷ codes "u" ∷ codes "U" ∷ codes "L" ∷ []) ascii.quote t

-- a character constant (6.4.4.4)
unfoldable pub is_character : List ℕ → Bool
is_character t = is_literal (codes "u" ∷ codes "U" ∷ codes "L" ∷ []) ascii.apostrophe t

-- The text is what may stand in a header name behind its first delimiter, the last one included (6.4.7).
unfoldable pub closes_header : ℕ → List ℕ → Bool
closes_header delimiter [] = false
closes_header delimiter (b ∷ bs) =
    if b == delimiter then is_empty bs else (not (is_newline b) && closes_header delimiter bs)

-- opening delimiter, at least one byte, closing delimiter
abbrev pub is_delimited : ℕ → ℕ → List ℕ → Bool
is_delimited opening closing [] = false
is_delimited opening closing (b ∷ bs) =
    (b == opening) && (not (starts_with nat_eq bs (closing ∷ [])) && closes_header closing bs)

-- a header name: `<`, at least one byte, `>`; or the same between two `"` (6.4.7)
unfoldable pub is_header : List ℕ → Bool
is_header t = is_delimited ascii.less ascii.greater t || is_delimited ascii.quote ascii.quote t

-- the punctuators, digraphs among them (6.4.6)
abbrev pub punctuators : List (List ℕ)
punctuators =
    codes "[" ∷ codes "]" ∷ codes "(" ∷ codes ")" ∷ codes "{" ∷ codes "}" ∷ codes "." ∷ codes "->"
    ∷ codes "++" ∷ codes "--" ∷ codes "&" ∷ codes "*" ∷ codes "+" ∷ codes "-" ∷ codes "~" ∷ codes "!"
    ∷ codes "/" ∷ codes "%" ∷ codes "<<" ∷ codes ">>" ∷ codes "<" ∷ codes ">" ∷ codes "<=" ∷ codes ">="
    ∷ codes "==" ∷ codes "!=" ∷ codes "^" ∷ codes "|" ∷ codes "&&" ∷ codes "||"
    ∷ codes "?" ∷ codes ":" ∷ codes ";" ∷ codes "..."
    ∷ codes "=" ∷ codes "*=" ∷ codes "/=" ∷ codes "%=" ∷ codes "+=" ∷ codes "-=" ∷ codes "<<=" ∷ codes ">>="
    ∷ codes "&=" ∷ codes "^=" ∷ codes "|=" ∷ codes "," ∷ codes "#" ∷ codes "##"
    ∷ codes "<:" ∷ codes ":>" ∷ codes "<%" ∷ codes "%>" ∷ codes "%:" ∷ codes "%:%:" ∷ []

unfoldable pub is_punctuator : List ℕ → Bool
is_punctuator t = list_any (bytes_eq t) punctuators

-- one byte that is neither white space nor a newline (6.4, the last alternative of preprocessing-token)
abbrev pub is_one_byte : List ℕ → Bool
is_one_byte [] = false
is_one_byte (b ∷ []) = not (is_white b || is_newline b)
is_one_byte (b ∷ c ∷ bs) = false

-- The kind of token that a text is, as a whole; none where it isn't exactly one token. Header names are
-- apart: they are read in their own places alone (6.4 paragraph 4).
unfoldable pub kind_of : List ℕ → Option Kind
kind_of t =
    if is_identifier t then Some Ident
    else (if is_number t then Some Number
    else (if is_character t then Some Char
    else (if is_string t then Some Str
    else (if is_punctuator t then Some Punct
    else (if is_one_byte t then Some Other
    else None)))))

-- whether these bytes go on with a text that is an identifier or a number, so that both together are one, too (6.4.2.1, 6.4.8)
abbrev pub goes_on : Kind → List ℕ → List ℕ → Bool
goes_on kind text more =
    elim kind [
      | Ident ↦ list_all is_identifier_byte more
      | Number ↦ number_goes_on (get_or text (length text - 1) 0) more
      | _ ↦ false
    ]
