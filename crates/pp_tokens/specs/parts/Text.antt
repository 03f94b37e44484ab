-- What the lexer's own functions tell of a text. No public contract rests on these.
use Rattle.std.specs.Prelude.{ℕ, suc, Bool, true, false, not, ◌&&◌, ◌||◌, List, [], ◌∷◌, ◌==◌, codes, bytes_eq, nat_eq, if◌then◌else◌, Option, None, Some}
use Rattle.std.specs.List.{list_all, list_any, starts_with}
use Rattle.std.specs.Option.{option_map}
use Rattle.base_types.specs.Ascii as ascii
use Rattle.pp_tokens.specs.declared.token.Kind.{Kind}
use Rattle.pp_tokens.specs.declared.part.What.{What}
use Rattle.pp_tokens.specs.declared.part.What.TheVariants.{Newline, White, Comment, OpenComment, Token}
use Rattle.pp_tokens.specs.declared.due.Before.{Before}
use Rattle.pp_tokens.specs.declared.due.Before.TheVariants.{Nothing, Hash, Include, Condition, Probe, Probed, Other}
use Rattle.pp_tokens.specs.Grammar.{is_digit}
use Rattle.pp_tokens.specs.Lines.{Part, newline, white, comment, open_comment, token, spells_hash}
use Rattle.pp_tokens.specs.Plain.{is_text_mark}

-- the part that the code's enum tells
abbrev pub part_told : What → Part
part_told Newline = newline
part_told White = white
part_told Comment = comment
part_told OpenComment = open_comment
part_told (Token k) = token k

-- the kind of what stands first in a text of this size, where it is a token and the whole text (6.4)
abbrev pub whole_kind : Part × ℕ → ℕ → Option Kind
whole_kind (token k, n) size = if n == size then Some k else None
whole_kind (newline, n) size = None
whole_kind (white, n) size = None
whole_kind (comment, n) size = None
whole_kind (open_comment, n) size = None

-- what stands on a logical line, as far as it says whether a header name is due, after one more word (6.4.7)
unfoldable pub after_word : Before → List ℕ → Before
after_word Nothing w = if spells_hash w then Hash else Other
after_word Hash w =
    if bytes_eq w (codes "include") || bytes_eq w (codes "include_next") then Include
    else (if bytes_eq w (codes "if") || bytes_eq w (codes "elif") then Condition else Other)
after_word Include w = Other
after_word Condition w = if bytes_eq w (codes "__has_include") then Probe else Condition
after_word Probe w =
    if bytes_eq w (codes "(") then Probed
    else (if bytes_eq w (codes "__has_include") then Probe else Condition)
after_word Probed w = if bytes_eq w (codes "__has_include") then Probe else Condition
after_word Other w = Other

-- a header name is due
abbrev pub is_due : Before → Bool
is_due Include = true
is_due Probed = true
is_due Nothing = false
is_due Hash = false
is_due Condition = false
is_due Probe = false
is_due Other = false

-- a quote of a string or of a character
abbrev pub is_quote : ℕ → Bool
is_quote b = (b == ascii.quote) || (b == ascii.apostrophe)

-- the first delimiter of a header name (6.4.7)
abbrev pub opens_header : ℕ → Bool
opens_header b = (b == ascii.less) || (b == ascii.quote)

-- a number begins with these two bytes: with a digit, or with `.` and a digit (6.4.8)
abbrev pub begins_number : ℕ → ℕ → Bool
begins_number a b = is_digit a || ((a == ascii.dot) && is_digit b)

-- a comment begins with these two bytes: with `/*` or `//` (6.4.9)
abbrev pub begins_comment : ℕ → ℕ → Bool
begins_comment a b = (a == ascii.slash) && ((b == ascii.star) || (b == ascii.slash))

-- how many bytes lead up to the end of a comment, its `*/` included; none where it never ends (6.4.9)
unfoldable pub comment_length : List ℕ → Option ℕ
comment_length [] = None
comment_length (b ∷ bs) =
    if starts_with nat_eq (b ∷ bs) (codes "*/") then Some 2 else option_map suc (comment_length bs)

-- a punctuator that also stands twice and before `=`, as in `<<` and `<=` (6.4.6)
abbrev pub is_doubled : ℕ → Bool
is_doubled a = list_any (λ m. a == m) (codes "<>&|+-")

-- a punctuator that also stands before `=` (6.4.6)
abbrev pub takes_equals : ℕ → Bool
takes_equals a = is_doubled a || list_any (λ m. a == m) (codes "*/%^!=")

-- an operator of one byte, but `.` (6.4.6)
abbrev pub is_operator : ℕ → Bool
is_operator a = takes_equals a || list_any (λ m. a == m) (codes "~?:")

-- a punctuator of one byte (6.4.6)
abbrev pub is_single : ℕ → Bool
is_single a = is_text_mark a || (is_operator a || ((a == ascii.dot) || (a == ascii.hash)))

-- `->`, `##` or a digraph of two bytes (6.4.6)
abbrev pub is_mixed : ℕ → ℕ → Bool
is_mixed a b =
    ((a == ascii.minus) && (b == ascii.greater))
    || (((a == ascii.hash) && (b == ascii.hash))
    || (((a == ascii.less) && ((b == ascii.colon) || (b == ascii.percent))) || (((a == ascii.percent) && ((b == ascii.colon) || (b == ascii.greater))) || ((a == ascii.colon) && (b == ascii.greater)))))

-- a punctuator of two bytes (6.4.6)
abbrev pub is_pair : ℕ → ℕ → Bool
is_pair a b = ((b == ascii.equals) && takes_equals a) || (((b == a) && is_doubled a) || is_mixed a b)

-- a punctuator of three bytes (6.4.6)
abbrev pub is_triple : ℕ → ℕ → ℕ → Bool
is_triple a b c =
    ((a == ascii.less) && ((b == ascii.less) && (c == ascii.equals)))
    || (((a == ascii.greater) && ((b == ascii.greater) && (c == ascii.equals))) || ((a == ascii.dot) && ((b == ascii.dot) && (c == ascii.dot))))

-- the punctuator of four bytes (6.4.6)
abbrev pub is_quadruple : ℕ → ℕ → ℕ → ℕ → Bool
is_quadruple a b c d = (a == ascii.percent) && ((b == ascii.colon) && ((c == ascii.percent) && (d == ascii.colon)))

-- a byte that some punctuator has second (6.4.6)
abbrev pub is_second : ℕ → Bool
is_second b = is_doubled b || list_any (λ m. b == m) (codes "=#:%.")

-- how many bytes the longest punctuator has that begins with the first byte and goes on with the others; 1 where none goes
-- on (6.4.6)
abbrev pub mark_length : ℕ → ℕ → ℕ → ℕ → ℕ
mark_length a b c d =
    if is_quadruple a b c d then 4 else (if is_triple a b c then 3 else (if is_pair a b then 2 else 1))

-- no line ends within the text
abbrev pub no_newline : List ℕ → Bool
no_newline = list_all (λ b. not (b == ascii.newline))
