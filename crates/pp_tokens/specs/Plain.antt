-- Plain bodies: sources of text lines and include lines without quotes, backslashes, comments or trigraphs
-- elsewhere, so that translation phases 1 and 2 leave them as they are.
use Rattle.std.specs.Prelude.{ℕ, Bool, true, not, ◌&&◌, ◌||◌, List, [], ◌∷◌, ◌++◌, ◌-◌, length, take, drop, if◌then◌else◌, nat_le, ◌==◌, nat_eq, codes, bytes_eq}
use Rattle.std.specs.List.{list_all, list_any, starts_with}
use Rattle.base_types.specs.Ascii as ascii
use Rattle.base_types.specs.Limits.{name_limit}
use Rattle.pp_tokens.specs.Grammar.{is_digit}

-- a letter, a digit or `_`
abbrev pub is_word_byte : ℕ → Bool
is_word_byte b = (nat_le ascii.lower_a b && nat_le b ascii.lower_z) || ((nat_le ascii.upper_a b && nat_le b ascii.upper_z) || (is_digit b || (b == ascii.underscore)))

-- one of `;` `,` `(` `)` `{` `}` `[` `]`
abbrev pub is_text_mark : ℕ → Bool
is_text_mark b = list_any (λ m. b == m) (codes ";,(){}[]")

-- a byte of a text line: a letter, a digit, `_`, a space or a mark
abbrev pub is_text_byte : ℕ → Bool
is_text_byte b = is_word_byte b || ((b == ascii.space) || is_text_mark b)

-- a byte of a simple name: a letter, a digit, `_`, `.` or `-`
abbrev pub is_name_byte : ℕ → Bool
is_name_byte b = is_word_byte b || ((b == ascii.dot) || (b == ascii.minus))

-- A simple name: 1 to 255 letters, digits, `_`, `.` and `-`, with no `-` in front, and neither `.` nor `..`.
unfoldable pub is_simple_name : List ℕ → Bool
is_simple_name name =
    (nat_le 1 (length name) && nat_le (length name) name_limit)
    && (list_all is_name_byte name
    && (not (starts_with nat_eq name (codes "-"))
    && (not (bytes_eq name (codes ".")) && not (bytes_eq name (codes "..")))))

-- the line `#include "NAME"`
abbrev pub include_line : List ℕ → List ℕ
include_line name = codes "#include \"" ++ (name ++ codes "\"")

-- what would be the name of an include line: all but the first ten bytes and the last one
abbrev pub included_name : List ℕ → List ℕ
included_name line = take (length line - 11) (drop 10 line)

-- a line, without its line feed, that is exactly `#include "NAME"`, with a simple name
unfoldable pub is_include_line : List ℕ → Bool
is_include_line line = bytes_eq line (include_line (included_name line)) && is_simple_name (included_name line)

-- a plain line, without its line feed
unfoldable pub is_plain_line : List ℕ → Bool
is_plain_line line = list_all is_text_byte line || is_include_line line

-- a byte more at the front of the first line
abbrev pub onto_line : ℕ → List (List ℕ) → List (List ℕ)
onto_line b [] = (b ∷ []) ∷ []
onto_line b (l ∷ ls) = (b ∷ l) ∷ ls

-- a body cut at its line feeds; what stands behind the last one is a line where it isn't empty
unfoldable pub lines_of : List ℕ → List (List ℕ)
lines_of [] = []
lines_of (b ∷ bs) = if b == ascii.newline then [] ∷ lines_of bs else onto_line b (lines_of bs)

-- the body is empty or ends with a line feed
unfoldable pub ends_line : List ℕ → Bool
ends_line [] = true
ends_line (b ∷ []) = b == ascii.newline
ends_line (b ∷ c ∷ bs) = ends_line (c ∷ bs)

-- A plain body: empty or ended by a line feed, and each of its lines is an include line or a text line.
unfoldable pub is_plain_body : List ℕ → Bool
is_plain_body body = ends_line body && list_all is_plain_line (lines_of body)
