-- The directives of a file alone (ISO C 6.10): its lines of text are empty.
use Rattle.std.specs.Prelude.{ℕ, Bool, true, false, ◌||◌, List, [], ◌∷◌, map, codes, bytes_eq, if◌then◌else◌}
use Rattle.pp_tokens.specs.declared.token.Token.{Token}
use Rattle.pp_tokens.specs.Lines.{LexedFile, spells_hash}

-- the line is a directive: its first token is `#`, or its digraph (6.10 paragraph 2)
abbrev pub begins_hash : List Token → Bool
begins_hash [] = false
begins_hash (t ∷ ts) = spells_hash t.text

-- a directive of this name may ask for a file: `#include` (6.10.2) does, and a condition may with `__has_include` (6.10.1)
abbrev pub may_ask : List ℕ → Bool
may_ask name = (bytes_eq name (codes "include") || bytes_eq name (codes "include_next")) || (bytes_eq name (codes "if") || bytes_eq name (codes "elif"))

-- or it may change what `__FILE__` and `__LINE__` are in its own: `#line` (6.10.4)
abbrev pub may_tell : List ℕ → Bool
may_tell name = may_ask name || bytes_eq name (codes "line")

-- a directive whose name is one of those, or that has none; nothing is kept of any other
abbrev pub asking_part : List Token → List Token
asking_part [] = []
asking_part (hash ∷ []) = hash ∷ []
asking_part (hash ∷ name ∷ ts) = if may_tell name.text then hash ∷ name ∷ ts else []

-- of a directive all tokens or those, and of text none
abbrev pub kept_line : Bool → List Token → List Token
kept_line whole ts = if begins_hash ts then (if whole then ts else asking_part ts) else []

-- the line itself where it is a directive, and an empty one where it is text
abbrev pub directive_line : List Token → List Token
directive_line = kept_line true

-- the file with what is kept of each line's tokens, and as many lines
abbrev pub kept_alone : Bool → LexedFile → LexedFile
kept_alone whole f = record { lines = map (kept_line whole) f.lines; unended = f.unended }

-- the file with the tokens of its directives alone, each on its line
abbrev pub directives_alone : LexedFile → LexedFile
directives_alone = kept_alone true

-- the same of those directives alone that may ask for a file, or tell of their own
abbrev pub asking_alone : LexedFile → LexedFile
asking_alone = kept_alone false
