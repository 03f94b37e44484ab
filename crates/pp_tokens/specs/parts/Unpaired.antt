-- What the lexer knows of quotes and delimiters that have no partner on their line, so that it looks for none twice. No
-- public contract rests on these.
use Rattle.std.specs.Prelude.{◌≡◌, ℕ, suc, ◌+◌, ◌≤◌, ◌<◌, Bool, true, false, List, [], ◌∷◌, drop, get_or, if◌then◌else◌, ◌==◌, Option, None, Some}
use Rattle.std.specs.Option.{option_map}
use Rattle.base_types.specs.Ascii as ascii
use Rattle.pp_tokens.specs.declared.unpaired.Unpaired.{Unpaired}

-- How many bytes lead up to the closing quote, it included, behind an opening one, or behind a part of the literal; none
-- where the line ends first. A `\` takes the next byte along: escaped is true right after it (6.4.4.4, 6.4.5).
unfoldable pub closing_length : ℕ → Bool → List ℕ → Option ℕ
closing_length quote escaped [] = None
closing_length quote true (b ∷ bs) = if b == ascii.newline then None else option_map suc (closing_length quote false bs)
closing_length quote false (b ∷ bs) =
    if b == quote then Some 1
    else (if b == ascii.newline then None else option_map suc (closing_length quote (b == ascii.backslash) bs))

-- the same behind the first delimiter of a header name, where no `\` takes a byte along (6.4.7)
unfoldable pub delimiter_length : ℕ → List ℕ → Option ℕ
delimiter_length delimiter [] = None
delimiter_length delimiter (b ∷ bs) =
    if b == delimiter then Some 1
    else (if b == ascii.newline then None else option_map suc (delimiter_length delimiter bs))

-- from the place on, and before the bound, each such byte has no partner
abbrev pub NonePairs : (List ℕ → Option ℕ) → ℕ → List ℕ → ℕ → ℕ → Type 0
NonePairs partner byte text at bound =
    (place : ℕ) → at ≤ place → place < bound → get_or text place 0 ≡ byte → partner (drop (place + 1) text) ≡ None

-- what is known of a text from a place on
pub record KnowsUnpaired (known : Unpaired) (text : List ℕ) (at : ℕ) : Type 0 where
  pub strings : NonePairs (closing_length ascii.quote false) ascii.quote text at known.strings
  pub characters : NonePairs (closing_length ascii.apostrophe false) ascii.apostrophe text at known.characters
  pub angles : NonePairs (delimiter_length ascii.greater) ascii.less text at known.angles
  pub quotes : NonePairs (delimiter_length ascii.quote) ascii.quote text at known.quotes
