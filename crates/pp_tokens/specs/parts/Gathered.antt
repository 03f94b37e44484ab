-- What the lexer has gathered of a text so far, and the file that comes of it with what is left. No public contract rests on
-- these.
use Rattle.std.specs.Prelude.{◌≡◌, ℕ, ◌+◌, ◌≤◌, Bool, true, false, cond, List, [], ◌∷◌, ◌++◌, map, length, take, drop, Option, Some, None, ◌==◌, ◌⊎◌}
use Rattle.std.specs.List.{count_by}
use Rattle.base_types.specs.Ascii as ascii
use Rattle.pp_tokens.specs.declared.token.Token.{Token}
use Rattle.pp_tokens.specs.declared.token.Kind.TheVariants.{Header}
use Rattle.pp_tokens.specs.Grammar.{is_header}
use Rattle.pp_tokens.specs.declared.due.Before.{Before}
use Rattle.pp_tokens.specs.declared.due.Before.TheVariants.{Nothing}
use Rattle.pp_tokens.specs.declared.place.Place.{Place}
use Rattle.pp_tokens.specs.declared.lexer.Gathering.{Gathering}
use Rattle.pp_tokens.specs.Phases.{Cell, bytes}
use Rattle.pp_tokens.specs.Lines.{Part, newline, white, comment, open_comment, token, Element, LexedFile, line_of, unended_line, or_else, part_of, first_part}
use Rattle.pp_tokens.specs.parts.Seen.{token_of_place, seen_lines, last_end, Ascends, EachWithin}
use Rattle.pp_tokens.specs.parts.Text.{after_word, is_due}

-- how many newlines stand in a text
abbrev pub newlines : List ℕ → ℕ
newlines = count_by (λ b. b == ascii.newline)

-- the text is this part as a whole, or a header name
abbrev pub IsPart : Part → List ℕ → Type 0
IsPart part text = (part_of text ≡ Some part) ⊎ ((part ≡ token Header) × (is_header text ≡ true))

-- a part that may hold newlines
abbrev pub is_long : Part → Bool
is_long newline = true
is_long white = false
is_long comment = true
is_long open_comment = true
is_long (token k) = false

-- The lines behind those that are finished: current has the tokens of the present line so far, begun tells
-- whether anything stands on it yet, and space whether white space stands before the next token.
unfoldable pub lines_left : Bool → List Token → Bool → List Element → List (List Token)
lines_left begun current space [] = cond begun (current ∷ []) []
lines_left begun current space (e ∷ es) =
    elim e.part [
      | newline ↦ current ∷ lines_left false [] true es
      | token k ↦ lines_left true (current ++ (record { kind = k; text = bytes e.cells; line = line_of e.cells; space = space } ∷ [])) false es
      | _ ↦ lines_left true current true es
    ]

-- the tokens so far of the line that isn't finished
abbrev pub present_tokens : List ℕ → Gathering → List Token
present_tokens text g = map (token_of_place text) (drop (last_end 0 g.ends.items) g.places.items)

-- the file, where these elements are what is left of it
abbrev pub file_with : List ℕ → Gathering → List Element → LexedFile
file_with text g es = record {
  lines = seen_lines text g.places.items 0 g.ends.items ++ lines_left g.begun (present_tokens text g) g.space es;
  unended = or_else g.unended (unended_line es);
}

-- each place lies within the text, and each line ends at one of them
pub record IsGathered (text : List ℕ) (g : Gathering) : Type 0 where
  pub ascends : Ascends 0 g.ends.items (length g.places.items)
  pub within : EachWithin text g.places.items

-- nothing is gathered yet
pub record GathersNothing (g : Gathering) : Type 0 where
  pub places : g.places.items ≡ []
  pub ends : g.ends.items ≡ []
  pub unended : g.unended ≡ None
  pub before : g.before ≡ Nothing
  pub begun : g.begun ≡ false
  pub space : g.space ≡ true

-- the present line is finished
pub record EndsLine (old new : Gathering) : Type 0 where
  pub places : new.places.items ≡ old.places.items
  pub ends : new.ends.items ≡ old.ends.items ++ (length old.places.items ∷ [])
  pub unended : new.unended ≡ old.unended
  pub before : new.before ≡ Nothing
  pub begun : new.begun ≡ false
  pub space : new.space ≡ true

-- the present line is finished where anything stands on it
pub record EndsLastLine (old new : Gathering) : Type 0 where
  pub places : new.places.items ≡ old.places.items
  pub ends : new.ends.items ≡ cond old.begun (old.ends.items ++ (length old.places.items ∷ [])) old.ends.items
  pub unended : new.unended ≡ old.unended

-- the present line is finished, and where it has a comment that never ends, that is its line
pub record EndsTextLine (old new : Gathering) (comment : Option ℕ) : Type 0 where
  pub places : new.places.items ≡ old.places.items
  pub ends : new.ends.items ≡ old.ends.items ++ (length old.places.items ∷ [])
  pub first : new.unended ≡ or_else old.unended comment
  pub before : new.before ≡ Nothing
  pub begun : new.begun ≡ false
  pub space : new.space ≡ true

-- what was gathered of the present line is dropped
pub record DropsLine (old new : Gathering) : Type 0 where
  pub places : new.places.items ≡ take (last_end 0 old.ends.items) old.places.items
  pub ends : new.ends.items ≡ old.ends.items
  pub unended : new.unended ≡ old.unended

-- the present line has a token more, of this spelling
pub record AddsToken (old new : Gathering) (place : Place) (spelling : List ℕ) : Type 0 where
  pub places : new.places.items ≡ old.places.items ++ (place ∷ [])
  pub ends : new.ends.items ≡ old.ends.items
  pub unended : new.unended ≡ old.unended
  pub before : new.before ≡ after_word old.before spelling
  pub begun : new.begun ≡ true
  pub space : new.space ≡ false

-- the present line has white space or a comment more
pub record AddsGap (old new : Gathering) (unended : Option ℕ) : Type 0 where
  pub places : new.places.items ≡ old.places.items
  pub ends : new.ends.items ≡ old.ends.items
  pub first : new.unended ≡ or_else old.unended unended
  pub before : new.before ≡ old.before
  pub begun : new.begun ≡ true
  pub space : new.space ≡ true

-- a part other than a newline stands on a line that has begun
abbrev pub begun_with : Part → Bool
begun_with part = elim part [ newline ↦ false | _ ↦ true ]

-- what stands on the line behind one part more
abbrev pub before_with : Part → Before → List ℕ → Before
before_with newline before spelling = Nothing
before_with white before spelling = before
before_with comment before spelling = before
before_with open_comment before spelling = before
before_with (token k) before spelling = after_word before spelling

-- the finished lines behind one part more, where ts are the tokens of the present one
abbrev pub lines_with : Part → List (List Token) → List Token → List (List Token)
lines_with part ls ts = elim part [ newline ↦ ls ++ (ts ∷ []) | _ ↦ ls ]

-- the tokens of the present line behind one part more
abbrev pub present_with : Part → List Token → List ℕ → ℕ → Bool → List Token
present_with part ts spelling line space =
    elim part [ newline ↦ [] | token k ↦ ts ++ (record { kind = k; text = spelling; line = line; space = space } ∷ []) | _ ↦ ts ]

-- one part more is gathered: whatever is left, it is the same file
pub record Gathers (text : List ℕ) (old new : Gathering) (part : Part) (spelling : List ℕ) (line : ℕ) : Type 0 where
  pub gathered : IsGathered text new
  pub few : length new.places.items ≤ length old.places.items + 1
  pub before : new.before ≡ before_with part old.before spelling
  pub begun : new.begun ≡ begun_with part
  pub lines : seen_lines text new.places.items 0 new.ends.items ≡ lines_with part (seen_lines text old.places.items 0 old.ends.items) (present_tokens text old)
  pub present : present_tokens text new ≡ present_with part (present_tokens text old) spelling line old.space
  pub file : (cells : List Cell) (es : List Element) → bytes cells ≡ spelling → line_of cells ≡ line
      → file_with text new es ≡ file_with text old (record { part = part; cells = cells } ∷ es)

-- what stands first at a place is gathered, on a line: the place behind it, and the line there, without splices, where base is that of the place
pub record PutsFirst (text : List ℕ) (old new : Gathering) (at base line : ℕ) (behind : ℕ × ℕ) : Type 0 where
  pub part : Part
  pub size : ℕ
  pub first : ◌≡◌ {A = Part × ℕ} (part, size) (first_part (is_due old.before) (drop at text))
  pub gathers : Gathers text old new part (take size (drop at text)) line
  pub place : behind.0 ≡ at + size
  pub counted : behind.1 ≡ base + newlines (take size (drop at text))
