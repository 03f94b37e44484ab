-- The header name that the expanded tokens of an include line give (ISO C 6.10.2 paragraph 4).
use Rattle.std.specs.Prelude.{ℕ, ◌-◌, Bool, true, false, not, ◌&&◌, List, [], ◌∷◌, ◌++◌, length, take, drop, if◌then◌else◌, nat_eq, Option, Some, None, option_map, option_and_then, codes}
use Rattle.std.specs.List.{starts_with}
use Rattle.pp_tokens.specs.Marks.{is_string, is_mark}
use Rattle.pp_tokens.specs.declared.Token.{Token}
use Rattle.directive_scan.specs.declared.directive.HeaderName.{HeaderName}

-- a name between delimiters, where it isn't empty (6.4.7)
abbrev pub named : Bool → List ℕ → Option HeaderName
named angle [] = None
named angle (b ∷ bs) = Some (record { angle = angle; name = b ∷ bs })

-- a text without its first and its last byte
abbrev pub between : List ℕ → List ℕ
between text = take (length text - 2) (drop 1 text)

-- the token is a string literal without a prefix (6.4.5)
abbrev pub is_plain_string : Token → Bool
is_plain_string t = is_string t && starts_with nat_eq t.text (codes "\"")

-- one space where white space stands before the token, unless it is the first
abbrev pub space_before : Bool → Token → List ℕ
space_before first t = if t.space && not first then codes " " else []

-- a token's spelling with that space
abbrev pub spaced : Bool → Token → List ℕ
spaced first t = space_before first t ++ t.text

-- the spellings up to the first `>`, with one space where white space stood between two tokens; none where there is
-- no `>` (6.10.2 paragraph 4)
unfoldable pub up_to_close : Bool → List Token → Option (List ℕ)
up_to_close first [] = None
up_to_close first (t ∷ ts) =
    if is_mark (codes ">") t then Some []
    else option_map (λ others. spaced first t ++ others) (up_to_close false ts)

-- the header name of expanded tokens: a string literal without a prefix, or `<` and what stands before the first `>`;
-- tokens behind it don't count (6.10.2 paragraph 4)
unfoldable pub header_named : List Token → Option HeaderName
header_named [] = None
header_named (t ∷ ts) =
    if is_plain_string t then named false (between t.text)
    else (if is_mark (codes "<") t then option_and_then (named true) (up_to_close true ts) else None)
