-- Translation phases 1 and 2 (ISO C 5.1.1.2): the characters of a file after trigraphs and spliced lines,
-- each with the physical line on which it stands.
use Rattle.std.specs.Prelude.{ℕ, ◌+◌, Bool, ◌&&◌, List, [], ◌∷◌, map, if◌then◌else◌, ◌==◌, nat_eq, Option, Some, None}
use Rattle.std.specs.List.{starts_with}
use Rattle.base_types.specs.Ascii as ascii

-- a byte of the source, and its physical line, from 1
pub record Cell : Type 0 where
  pub byte : ℕ
  pub line : ℕ

abbrev pub cell : ℕ → ℕ → Cell
cell byte line = record { byte = byte; line = line }

-- the bytes of a text
abbrev pub bytes : List Cell → List ℕ
bytes = map (λ c. c.byte)

-- A last line without a line feed gets one; an empty body has no line (5.1.1.2 paragraph 2).
unfoldable pub newline_ended : List ℕ → List ℕ
newline_ended [] = []
newline_ended (b ∷ []) = if b == ascii.newline then b ∷ [] else b ∷ ascii.newline ∷ []
newline_ended (b ∷ c ∷ bs) = b ∷ newline_ended (c ∷ bs)

-- a carriage return right before a newline is part of it (phase 1)
unfoldable pub with_newlines : List ℕ → List ℕ
with_newlines [] = []
with_newlines (b ∷ bs) =
    if (b == ascii.carriage_return) && starts_with nat_eq bs (ascii.newline ∷ []) then with_newlines bs else b ∷ with_newlines bs

-- each byte with its line: one more after each newline
unfoldable pub numbered : ℕ → List ℕ → List Cell
numbered line [] = []
numbered line (b ∷ bs) = cell b line ∷ numbered (if b == ascii.newline then line + 1 else line) bs

-- what `??` and this byte stand for (5.2.1.1)
abbrev pub trigraph : ℕ → Option ℕ
trigraph b =
    if b == ascii.equals then Some ascii.hash
    else (if b == ascii.open_parenthesis then Some ascii.open_bracket
    else (if b == ascii.slash then Some ascii.backslash
    else (if b == ascii.close_parenthesis then Some ascii.close_bracket
    else (if b == ascii.apostrophe then Some ascii.caret
    else (if b == ascii.less then Some ascii.open_brace
    else (if b == ascii.exclamation then Some ascii.bar
    else (if b == ascii.greater then Some ascii.close_brace
    else (if b == ascii.minus then Some ascii.tilde
    else None))))))))

-- the character that a trigraph of these three bytes stands for
abbrev pub trigraph_of : ℕ → ℕ → ℕ → Option ℕ
trigraph_of a b c = if (a == ascii.question) && (b == ascii.question) then trigraph c else None

-- trigraphs replaced, from left to right (phase 1)
unfoldable pub without_trigraphs : List Cell → List Cell
without_trigraphs [] = []
without_trigraphs (c ∷ []) = c ∷ []
without_trigraphs (c ∷ d ∷ []) = c ∷ d ∷ []
without_trigraphs (c ∷ d ∷ e ∷ cs) =
    elim (trigraph_of c.byte d.byte e.byte) [
      | Some x ↦ cell x c.line ∷ without_trigraphs cs
      | None ↦ c ∷ without_trigraphs (d ∷ e ∷ cs)
    ]

-- each backslash right before a newline is deleted with it (phase 2)
unfoldable pub spliced : List Cell → List Cell
spliced [] = []
spliced (c ∷ []) = c ∷ []
spliced (c ∷ d ∷ cs) = if (c.byte == ascii.backslash) && (d.byte == ascii.newline) then spliced cs else c ∷ spliced (d ∷ cs)

-- The text of a file after phases 1 and 2. The missing last line feed is added first, so a `\` at the very end
-- is spliced away, and a carriage return there is part of the newline. Comments stand in it as they are.
unfoldable pub source_text : Bool → List ℕ → List Cell
source_text trigraphs body =
    let cells = numbered 1 (with_newlines (newline_ended body)) in
    spliced (if trigraphs then without_trigraphs cells else cells)
