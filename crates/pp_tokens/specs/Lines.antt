-- Translation phase 3 (ISO C 5.1.1.2, 6.4): a text after phases 1 and 2 is cut into newlines, white space,
-- comments and tokens, and these are logical lines of tokens.
use Rattle.std.specs.Prelude.{◌≡◌, ◌≢◌, ℕ, zero, suc, ◌-◌, Bool, true, false, not, ◌&&◌, ◌||◌, List, [], ◌∷◌, ◌++◌, map, length, take, if◌then◌else◌, ◌==◌, nat_eq, Option, Some, None, codes, bytes_eq, ◌⊎◌, unwrap_or, option_map}
use Rattle.std.specs.List.{starts_with, list_all, flat_map}
use Rattle.base_types.specs.Ascii as ascii
use Rattle.pp_tokens.specs.declared.token.Kind.{Kind}
use Rattle.pp_tokens.specs.declared.token.Token.{Token}
use Rattle.pp_tokens.specs.declared.token.Kind.TheVariants.{Header}
use Rattle.pp_tokens.specs.Grammar.{is_white, is_newline, is_header, kind_of}
use Rattle.pp_tokens.specs.Phases.{Cell, bytes, source_text}

-- what a stretch of a text is
pub data Part : Type 0 where
  newline : Part
  white : Part
  comment : Part
  open_comment : Part
  token : Kind → Part

-- a stretch of a text: what it is, and its bytes with their lines
pub record Element : Type 0 where
  pub part : Part
  pub cells : List Cell

-- the logical lines of a file, and the line of a comment that never ends
pub record LexedFile : Type 0 where
  pub lines : List (List Token)
  pub unended : Option ℕ

-- the tokens of all lines
abbrev pub all_tokens : LexedFile → List Token
all_tokens file = flat_map (λ line. line) file.lines

-- Comments (6.4.9).

-- `*/` stands somewhere in the text
unfoldable pub has_end : List ℕ → Bool
has_end [] = false
has_end (b ∷ bs) = starts_with nat_eq (b ∷ bs) (codes "*/") || has_end bs

-- `*/` stands at the end of the text, and nowhere before
unfoldable pub ends_comment : List ℕ → Bool
ends_comment [] = false
ends_comment (b ∷ bs) = if starts_with nat_eq (b ∷ bs) (codes "*/") then bytes_eq bs (codes "/") else ends_comment bs

-- the test holds of what follows these two bytes
abbrev pub behind : ℕ → ℕ → (List ℕ → Bool) → List ℕ → Bool
behind x y test [] = false
behind x y test (a ∷ []) = false
behind x y test (a ∷ b ∷ bs) = (a == x) && ((b == y) && test bs)

-- `/*` with its `*/`, or `//` and what is left of its line
unfoldable pub is_comment : List ℕ → Bool
is_comment t = behind ascii.slash ascii.star ends_comment t || behind ascii.slash ascii.slash (list_all (λ b. not (is_newline b))) t

-- `/*` without a `*/`
unfoldable pub is_open_comment : List ℕ → Bool
is_open_comment = behind ascii.slash ascii.star (λ bs. not (has_end bs))

abbrev pub is_one : (ℕ → Bool) → List ℕ → Bool
is_one test [] = false
is_one test (b ∷ []) = test b
is_one test (b ∷ c ∷ bs) = false

-- what a text is, as a whole: one newline, one byte of white space, one comment or one token; none else
unfoldable pub part_of : List ℕ → Option Part
part_of t =
    if is_one is_newline t then Some newline
    else (if is_one is_white t then Some white
    else (if is_comment t then Some comment
    else (if is_open_comment t then Some open_comment
    else option_map token (kind_of t))))

-- The words are the spellings of a logical line's tokens so far. A header name is due right behind them
-- where they are `# include` or `# include_next`, or where they begin with `# if` or `# elif` and end
-- with `__has_include (` (6.4.7, 6.10.1, 6.10.2).
abbrev pub spells_hash : List ℕ → Bool
spells_hash w = bytes_eq w (codes "#") || bytes_eq w (codes "%:")

abbrev pub ends_with_probe : List (List ℕ) → Bool
ends_with_probe [] = false
ends_with_probe (a ∷ []) = false
ends_with_probe (a ∷ b ∷ []) = bytes_eq a (codes "__has_include") && bytes_eq b (codes "(")
ends_with_probe (a ∷ b ∷ c ∷ ws) = ends_with_probe (b ∷ c ∷ ws)

unfoldable pub header_due : List (List ℕ) → Bool
header_due [] = false
header_due (a ∷ []) = false
header_due (a ∷ b ∷ []) = spells_hash a && (bytes_eq b (codes "include") || bytes_eq b (codes "include_next"))
header_due (a ∷ b ∷ c ∷ ws) = spells_hash a && ((bytes_eq b (codes "if") || bytes_eq b (codes "elif")) && ends_with_probe (c ∷ ws))

-- the words after one more element
unfoldable pub words_after : List (List ℕ) → Element → List (List ℕ)
words_after words e =
    elim e.part [ newline ↦ [] | white ↦ words | comment ↦ words | open_comment ↦ words | token k ↦ words ++ (bytes e.cells ∷ []) ]

-- THE RELATION

-- t is a front of t ++ after that passes no test, however far it is taken
abbrev pub NoLonger : {A : Type 0} → (List ℕ → Option A) → List ℕ → List ℕ → Type 0
NoLonger grammar t after = (more rest : List ℕ) → more ≢ [] → after ≡ more ++ rest → grammar (t ++ more) ≡ None

-- no front of the text is a header name
abbrev pub NoHeader : List ℕ → Type 0
NoHeader text = (front rest : List ℕ) → text ≡ front ++ rest → is_header front ≡ false

-- In front of after, t is rightly read as this part: where a header name is due and begins here, as that;
-- else t is such a part, and no longer front of the text is any part (6.4 paragraph 4).
abbrev pub Stands : Bool → Part → List ℕ → List ℕ → Type 0
Stands due part t after =
    ((due ≡ true) × (part ≡ token Header) × (is_header t ≡ true))
    ⊎ ((due ≡ true → NoHeader (t ++ after)) × (part_of t ≡ Some part) × NoLonger part_of t after)

-- the text is these elements one after another, each rightly read at its place
abbrev pub Reads : List (List ℕ) → List Element → List Cell → Type 0
Reads words [] text = text ≡ []
Reads words (e ∷ es) text =
    (rest : List Cell) × (text ≡ e.cells ++ rest) × Stands (header_due words) e.part (bytes e.cells) (bytes rest)
    × Reads (words_after words e) es rest

-- LOGICAL LINES

-- the elements of each logical line; a last line needs no newline
abbrev pub onto_first : Element → List (List Element) → List (List Element)
onto_first e [] = (e ∷ []) ∷ []
onto_first e (l ∷ ls) = (e ∷ l) ∷ ls

unfoldable pub cut_at_newlines : List Element → List (List Element)
cut_at_newlines [] = []
cut_at_newlines (e ∷ es) =
    elim e.part [ newline ↦ [] ∷ cut_at_newlines es | _ ↦ onto_first e (cut_at_newlines es) ]

abbrev pub line_of : List Cell → ℕ
line_of [] = 0
line_of (c ∷ cs) = c.line

-- the tokens of a line, where space tells whether white space stands before it or it begins there
unfoldable pub line_tokens : Bool → List Element → List Token
line_tokens space [] = []
line_tokens space (e ∷ es) =
    elim e.part [
      | token k ↦ record { kind = k; text = bytes e.cells; line = line_of e.cells; space = space } ∷ line_tokens false es
      | _ ↦ line_tokens true es
    ]

-- the line of the comment that never ends, which can only be the last element
unfoldable pub unended_line : List Element → Option ℕ
unended_line [] = None
unended_line (e ∷ es) = elim e.part [ open_comment ↦ Some (line_of e.cells) | _ ↦ unended_line es ]

-- what a file is, from its elements
unfoldable pub file_of : List Element → LexedFile
file_of es = record { lines = map (line_tokens true) (cut_at_newlines es); unended = unended_line es }

-- a file's body read as lines of tokens
abbrev pub IsLexed : Bool → List ℕ → LexedFile → Type 0
IsLexed trigraphs body file =
    (es : List Element) × Reads [] es (source_text trigraphs body) × (file ≡ file_of es)

-- THE FUNCTION

-- the first of two that is there
abbrev pub or_else : {A : Type 0} → Option A → Option A → Option A
or_else None o = o
or_else (Some x) o = Some x

-- the longest front of a text that is in the grammar, with its length; front is what was passed already
unfoldable pub longest_from : {A : Type 0} → (List ℕ → Option A) → List ℕ → List ℕ → Option (A × ℕ)
longest_from grammar front [] = None
longest_from grammar front (b ∷ bs) =
    let t = front ++ b ∷ [] in
    or_else (longest_from grammar t bs) (option_map (λ a. (a, length t)) (grammar t))

abbrev pub header_part : List ℕ → Option Part
header_part t = if is_header t then Some (token Header) else None

-- what stands first in a text, and how long it is; one byte is always a part
unfoldable pub first_part : Bool → List ℕ → Part × ℕ
first_part due text =
    unwrap_or (or_else (if due then longest_from header_part [] text else None) (longest_from part_of [] text)) (newline, 1)

-- the elements of a text, from the place skip bytes on
unfoldable pub elements : ℕ → List (List ℕ) → List Cell → List Element
elements skip words [] = []
elements (suc n) words (c ∷ cs) = elements n words cs
elements zero words (c ∷ cs) =
    let found = first_part (header_due words) (bytes (c ∷ cs)) in
    let e : Element = record { part = found.0; cells = take found.1 (c ∷ cs) } in
    e ∷ elements (found.1 - 1) (words_after words e) cs

-- a file's logical lines of tokens, with the line of a comment that never ends
unfoldable pub lexed : Bool → List ℕ → LexedFile
lexed trigraphs body = file_of (elements zero [] (source_text trigraphs body))

-- a body has exactly one reading, and the function gives it
abbrev pub HasOneReading : Bool → List ℕ → Type 0
HasOneReading trigraphs body =
    IsLexed trigraphs body (lexed trigraphs body) × ((file : LexedFile) → IsLexed trigraphs body file → file ≡ lexed trigraphs body)
