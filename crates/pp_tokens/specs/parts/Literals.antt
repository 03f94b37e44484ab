-- What opens a literal or a header name, as tests of its bytes. No public contract rests on these.
use Rattle.std.specs.Prelude.{ℕ, Bool, ◌&&◌, ◌||◌, List, ◌==◌, codes, bytes_eq, if◌then◌else◌}
use Rattle.base_types.specs.Ascii as ascii
use Rattle.pp_tokens.specs.declared.token.Kind.{Kind}
use Rattle.pp_tokens.specs.declared.token.Kind.TheVariants.{Char, Str}

-- a prefix of character constants (6.4.4.4)
abbrev pub opens_character : List ℕ → Bool
opens_character word = bytes_eq word (codes "u") || (bytes_eq word (codes "U") || bytes_eq word (codes "L"))

-- a prefix of string literals (6.4.5)
abbrev pub opens_string : List ℕ → Bool
opens_string word = bytes_eq word (codes "u8") || opens_character word

-- right before this quote the identifier is a prefix of the quote's literals
abbrev pub opens_literal : List ℕ → ℕ → Bool
opens_literal word quote = ((quote == ascii.quote) && opens_string word) || ((quote == ascii.apostrophe) && opens_character word)

-- the kind of a literal between two of these quotes (6.4.4.4, 6.4.5)
abbrev pub literal_kind : ℕ → Kind
literal_kind quote = if quote == ascii.quote then Str else Char

-- what closes a header name behind this delimiter (6.4.7)
abbrev pub closing_delimiter : ℕ → ℕ
closing_delimiter delimiter = if delimiter == ascii.less then ascii.greater else ascii.quote
