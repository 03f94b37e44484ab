-- What the reading of translation phases 1 and 2 tells of the rest of a body (ISO C 5.1.1.2). No public contract rests on
-- these. The rest ends with the newline that ends the body, whether it stands there or is added.
use Rattle.std.specs.Prelude.{◌≡◌, ℕ, ◌+◌, Bool, true, not, ◌&&◌, ◌||◌, List, [], ◌∷◌, ◌++◌, take, drop, if◌then◌else◌, ◌==◌, nat_eq, get_or, Option, None, Some}
use Rattle.std.specs.List.{starts_with}
use Rattle.base_types.specs.Ascii as ascii
use Rattle.pp_tokens.specs.declared.source.Piece.{Piece}
use Rattle.pp_tokens.specs.declared.source.Piece.TheVariants.{Byte, Splice}
use Rattle.pp_tokens.specs.Phases.{Cell, cell, trigraph_of, with_newlines, numbered, without_trigraphs, spliced}

-- the characters after phase 1, the first of them on this line
unfoldable pub characters : Bool → ℕ → List ℕ → List Cell
characters trigraphs line rest =
    let cells = numbered line (with_newlines rest) in
    if trigraphs then without_trigraphs cells else cells

-- the characters after phases 1 and 2
unfoldable pub source_from : Bool → ℕ → List ℕ → List Cell
source_from trigraphs line rest = spliced (characters trigraphs line rest)

-- how many bytes the newline at the front has, with the carriage return that is part of it; 0 where none stands there
unfoldable pub newline_length : List ℕ → ℕ
newline_length [] = 0
newline_length (b ∷ bs) = if b == ascii.newline then 1 else (if (b == ascii.carriage_return) && starts_with nat_eq bs (ascii.newline ∷ []) then 2 else 0)

-- the character that a trigraph at the front stands for
unfoldable pub front_trigraph : List ℕ → Option ℕ
front_trigraph [] = None
front_trigraph (a ∷ []) = None
front_trigraph (a ∷ b ∷ []) = None
front_trigraph (a ∷ b ∷ c ∷ cs) = trigraph_of a b c

-- that character and the length of a trigraph, or else the byte alone
abbrev pub or_byte : Option ℕ → ℕ → ℕ × ℕ
or_byte (Some x) b = (x, 3)
or_byte None b = (b, 1)

-- the character at the front of a rest that begins with no newline, and how many bytes it has
unfoldable pub front_character : Bool → List ℕ → ℕ × ℕ
front_character trigraphs rest = or_byte (if trigraphs then front_trigraph rest else None) (get_or rest 0 0)

-- a byte that phases 1 and 2 leave as it is, whatever stands behind it
abbrev pub is_kept : Bool → ℕ → Bool
is_kept trigraphs b = not ((b == ascii.carriage_return) || ((b == ascii.backslash) || (trigraphs && (b == ascii.question))))

-- the piece is a newline, or has one
abbrev pub ends_line : Piece → Bool
ends_line (Byte b) = b == ascii.newline
ends_line Splice = true

-- the line behind these bytes, of which the first is on this one
unfoldable pub line_behind : ℕ → List ℕ → ℕ
line_behind line [] = line
line_behind line (b ∷ bs) = line_behind (if b == ascii.newline then line + 1 else line) bs

-- the first bytes of the rest, as many as this, stay as they are, on whichever line they begin
abbrev pub FrontStays : Bool → List ℕ → ℕ → Type 0
FrontStays trigraphs rest n =
    (line : ℕ) → source_from trigraphs line rest
    ≡ numbered line (take n rest) ++ source_from trigraphs (line_behind line (take n rest)) (drop n rest)

-- The first bytes of the rest, as many as this, give the one byte, or are a splice.
abbrev pub IsFront : Bool → ℕ → List ℕ → Piece → ℕ → Type 0
IsFront trigraphs line rest (Byte b) n =
    source_from trigraphs line rest ≡ cell b line ∷ source_from trigraphs (if b == ascii.newline then line + 1 else line) (drop n rest)
IsFront trigraphs line rest Splice n = source_from trigraphs line rest ≡ source_from trigraphs (line + 1) (drop n rest)
