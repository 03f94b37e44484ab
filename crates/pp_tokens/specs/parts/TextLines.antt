-- What is left of a file from a line on of which no token more is kept. No public contract rests on these.
use Rattle.std.specs.Prelude.{◌≡◌, ℕ, zero, ◌+◌, ◌≤◌, ◌<◌, Bool, true, false, not, ◌&&◌, ◌||◌, List, [], ◌∷◌, length, take, drop, get_or, ◌==◌, codes, Option, ◌⊎◌}
use Rattle.base_types.specs.Ascii as ascii
use Rattle.pp_tokens.specs.declared.due.Before.{Before}
use Rattle.pp_tokens.specs.declared.due.Before.TheVariants.{Nothing, Hash, Other}
use Rattle.pp_tokens.specs.declared.text_line.LineEnd.{LineEnd}
use Rattle.pp_tokens.specs.declared.token.Token.{Token}
use Rattle.pp_tokens.specs.declared.token.Kind.{Kind}
use Rattle.pp_tokens.specs.declared.token.Kind.TheVariants.{Punct}
use Rattle.pp_tokens.specs.Phases.{Cell}
use Rattle.pp_tokens.specs.Lined.{lined}
use Rattle.pp_tokens.specs.Grammar.{is_white}
use Rattle.pp_tokens.specs.DirectiveLines.{may_tell}
use Rattle.pp_tokens.specs.Lines.{Part, newline, token, Element, LexedFile, elements, first_part, or_else, spells_hash, unended_line}
use Rattle.pp_tokens.specs.parts.Gathered.{lines_left}

-- a byte that ends no line, and neither begins nor ends a comment or a literal
abbrev pub is_ordinary : ℕ → Bool
is_ordinary b = not ((b == ascii.newline) || ((b == ascii.quote) || ((b == ascii.apostrophe) || (b == ascii.slash))))

-- the lines behind the one that has begun
unfoldable pub lines_behind : List Element → List (List Token)
lines_behind [] = []
lines_behind (e ∷ es) = elim e.part [ newline ↦ lines_left false [] true es | _ ↦ lines_behind es ]

-- the file behind the line that has begun, with a comment of that line that never ends
abbrev pub text_file : List Element → LexedFile
text_file es = record { lines = lines_behind es; unended = unended_line es }

-- the same from here on, where no header name is due on the line; with which words it has begun doesn't matter
abbrev pub text_left : List Cell → LexedFile
text_left cells = text_file (elements zero (codes "x" ∷ []) cells)

-- the file from the end of a line on, where this is the line of a comment that never ends
abbrev pub file_behind : Option ℕ → List Element → LexedFile
file_behind comment es = record {
  lines = lines_left false [] true es;
  unended = or_else comment (unended_line es);
}

-- a line of which no token more is kept has its end there
pub record EndsText (text splices : List ℕ) (at base : ℕ) (end : LineEnd) : Type 0 where
  pub within : end.at ≤ length text
  pub later : at ≤ end.at
  pub moves : at < length text → at < end.at
  pub counted : end.base ≤ end.at + 1
  pub file : text_left (lined splices at base (drop at text)) ≡ file_behind end.comment (elements zero [] (lined splices end.at end.base (drop end.at text)))

-- nothing but white space and comments stands on the line
abbrev pub begins_line : Before → Bool
begins_line before = elim before [ Nothing ↦ true | _ ↦ false ]

-- the line has its `#` alone so far
abbrev pub begins_name : Before → Bool
begins_name before = elim before [ Hash ↦ true | _ ↦ false ]

-- whatever else stands on the line, it asks for no file
abbrev pub asks_nothing : Before → Bool
asks_nothing before = elim before [ Other ↦ true | _ ↦ false ]

abbrev pub is_token_part : Part → Bool
is_token_part part = elim part [ token k ↦ true | _ ↦ false ]

-- this part is the first token of a line of text (6.10 paragraph 2)
abbrev pub begins_text : Before → Part → List ℕ → Bool
begins_text before part word = begins_line before && (is_token_part part && not (spells_hash word))

-- a directive's name has told that nothing of its line is kept
abbrev pub is_cut : Bool → Before → Before → List ℕ → Bool
is_cut whole before after word = not whole && (begins_name before && (asks_nothing after && not (may_tell word)))

-- no name that begins with these two bytes may tell of a file: those begin with `i`, `l` or `el`
abbrev pub begins_idle : ℕ → ℕ → Bool
begins_idle first second = not ((first == 105) || ((first == 108) || ((first == 101) && (second == 108))))

-- a token stands first at a place
pub record FirstToken (text : List ℕ) (at : ℕ) : Type 0 where
  pub kind : Kind
  pub size : ℕ
  pub within : at < length text
  pub first : ◌≡◌ {A = Part × ℕ} (first_part false (drop at text)) (token kind, size)

-- its spelling
abbrev pub spelled_first : (text : List ℕ) (at : ℕ) → FirstToken text at → List ℕ
spelled_first text at t = take t.size (drop at text)

-- it is the name of a directive of which nothing is kept
abbrev pub IsIdleName : List ℕ → ℕ → Type 0
IsIdleName text at = (t : FirstToken text at) × (may_tell (spelled_first text at t) ≡ false)

-- such a name stands behind white space from a place on
pub record IsIdleBehind (text : List ℕ) (from name : ℕ) : Type 0 where
  pub later : from ≤ name
  pub white : (i : ℕ) → from ≤ i → i < name → is_white (get_or text i 0) ≡ true
  pub idle : IsIdleName text name

-- the first token of a line of text
abbrev pub IsText : List ℕ → ℕ → Type 0
IsText text at = (t : FirstToken text at) × (spells_hash (spelled_first text at t) ≡ false)

-- a `#` and an idle name
pub record IsIdleDirective (text : List ℕ) (at from : ℕ) : Type 0 where
  pub first : ◌≡◌ {A = Part × ℕ} (first_part false (drop at text)) (token Punct, 1)
  pub hash : spells_hash (take 1 (drop at text)) ≡ true
  pub name : IsIdleBehind text (at + 1) from

-- nothing is kept of the line whose first token stands at a place, and what is left of it begins at another
abbrev pub IsIdleFrom : Bool → List ℕ → ℕ → ℕ → Type 0
IsIdleFrom whole text at from = ((from ≡ at) × IsText text at) ⊎ ((whole ≡ false) × IsIdleDirective text at from)
