-- What a lexed file's fields show: the tokens of all lines in one list of places, and for each line the number of
-- places up to its end.
use Rattle.std.specs.Prelude.{ℕ, ◌+◌, ◌-◌, ◌≤◌, List, [], ◌∷◌, length, map, take, drop, Option}
use Rattle.pp_tokens.specs.declared.place.Place.{Place}
use Rattle.pp_tokens.specs.declared.token.Token.{Token}
use Rattle.pp_tokens.specs.Lines.{LexedFile}
use Rattle.pp_tokens.specs.parts.Packed.{place_told}

-- the token at a place of the text
abbrev pub token_of_place : List ℕ → Place → Token
token_of_place text p =
    let told = place_told p in
    record { kind = told.kind; text = take told.length (drop told.start text); line = told.line; space = told.space }

-- the lines, of which the first begins at the place with this number
unfoldable pub seen_lines : List ℕ → List Place → ℕ → List ℕ → List (List Token)
seen_lines text places from [] = []
seen_lines text places from (end ∷ ends) = map (token_of_place text) (take (end - from) (drop from places)) ∷ seen_lines text places end ends

abbrev pub seen_file : List ℕ → List Place → List ℕ → Option ℕ → LexedFile
seen_file text places ends unended = record { lines = seen_lines text places 0 ends; unended = unended }

-- each line ends no earlier than the one before it, and none behind the last place
unfoldable pub Ascends : ℕ → List ℕ → ℕ → Type 0
Ascends from [] last = from ≤ last
Ascends from (end ∷ ends) last = (from ≤ end) × Ascends end ends last

-- each place lies within the text
unfoldable pub EachWithin : List ℕ → List Place → Type 0
EachWithin text [] = Unit {0}
EachWithin text (p ∷ ps) = ((place_told p).start + (place_told p).length ≤ length text) × EachWithin text ps

-- where the line behind these begins
unfoldable pub last_end : ℕ → List ℕ → ℕ
last_end from [] = from
last_end from (end ∷ ends) = last_end end ends
