-- The text of preprocessed output: tokens on output lines that stand for physical lines, and line markers. The
-- form of a marker, `# LINE "NAME" FLAG`, is that of GNU cpp; ISO C has no text form of the result of translation
-- phase 4 (5.1.1.2).
use Rattle.std.specs.Prelude.{ℕ, ◌+◌, ◌-◌, ◌==◌, max, Bool, false, not, ◌||◌, List, [], ◌∷◌, ◌++◌, if◌then◌else◌, nat_lt, replicate, codes, ℤ, pos}
use Rattle.std.specs.List.{list_any}
use Rattle.std.specs.Fmt.{signed_decimal}
use Rattle.base_types.specs.Ascii as ascii
use Rattle.pp_tokens.specs.declared.Token.{Token}
use Rattle.cpp_output.specs.declared.last.Last.{Last}
use Rattle.cpp_output.specs.declared.last.Last.TheVariants.{Nothing, Tight, Loose}

-- What happens to the output: a file is entered under a name; one comes back to a file under a name, from the
-- directive on a physical line, and shows a presumed line; the same with no coming back, as after a #line (ISO C
-- 6.10.4); a token of text; a pragma on a physical line (6.10.6).
pub data Event : Type 0 where
  enter : List ℕ → Event
  back : List ℕ → ℤ → ℕ → Event
  mark : List ℕ → ℤ → ℕ → Event
  put : Token → Event
  pragma : ℕ → List Token → Event

-- `# LINE "NAME"`, a flag, and a newline
unfoldable pub marker : ℤ → List ℕ → List ℕ → List ℕ
marker line name flag = codes "# " ++ (signed_decimal line ++ (codes " \"" ++ (name ++ (codes "\"" ++ (flag ++ ascii.newline ∷ [])))))

-- the punctuators that want no space beside them, by spelling
abbrev pub is_tight : List ℕ → Bool
is_tight [] = false
is_tight (b ∷ []) = list_any (λ c. c == b) (codes "()[]{},;")
is_tight (b ∷ c ∷ bs) = false

-- what stands last on an output line that ends in this spelling
abbrev pub last_on_line : List ℕ → Last
last_on_line text = if is_tight text then Tight else Loose

-- What stands between a token and what is on its left: nothing where it is the first of its output line; else a
-- space where one stands before it in the source, or where neither of the two is tight.
unfoldable pub gap : Last → Token → List ℕ
gap Nothing t = []
gap Tight t = if t.space then ascii.space ∷ [] else []
gap Loose t = if t.space || not (is_tight t.text) then ascii.space ∷ [] else []

-- the newlines that lead from the output line of one physical line to that of a later one
abbrev pub newlines_between : ℕ → ℕ → List ℕ
newlines_between at line = replicate (line - at) ascii.newline

-- what stands last after those newlines: nothing where there are any
abbrev pub last_at : ℕ → Last → ℕ → Last
last_at at last line = if nat_lt at line then Nothing else last

-- what ends an output line that isn't empty
abbrev pub fresh : Last → List ℕ
fresh Nothing = []
fresh Tight = ascii.newline ∷ []
fresh Loose = ascii.newline ∷ []

-- tokens on one output line
unfoldable pub on_line : Last → List Token → List ℕ
on_line last [] = []
on_line last (t ∷ ts) = gap last t ++ (t.text ++ on_line (last_on_line t.text) ts)

-- The bytes that an event adds, where the present output line stands for the physical line at. The word
-- `#pragma` counts as an identifier on the left of the pragma's first token.
unfoldable pub written : ℕ → Last → Event → List ℕ
written at last (enter name) = fresh last ++ marker (pos 1) name (codes " 1")
written at last (back name shown line) = fresh last ++ marker shown name (codes " 2")
written at last (mark name shown line) = fresh last ++ marker shown name []
written at last (put t) = newlines_between at t.line ++ (gap (last_at at last t.line) t ++ t.text)
written at last (pragma line ts) = newlines_between at line ++ (codes "#pragma" ++ (on_line Loose ts ++ ascii.newline ∷ []))

-- the physical line that the output line stands for after an event
unfoldable pub line_after : ℕ → Event → ℕ
line_after at (enter name) = 1
line_after at (back name shown line) = line + 1
line_after at (mark name shown line) = line + 1
line_after at (put t) = max at t.line
line_after at (pragma line ts) = line + 1

-- what stands last on the output line after an event
unfoldable pub last_after : Event → Last
last_after (enter name) = Nothing
last_after (back name shown line) = Nothing
last_after (mark name shown line) = Nothing
last_after (put t) = last_on_line t.text
last_after (pragma line ts) = Nothing

-- the text of events, one after another, and the end of the last line
unfoldable pub text_of_events : ℕ → Last → List Event → List ℕ
text_of_events at last [] = fresh last
text_of_events at last (e ∷ es) = written at last e ++ text_of_events (line_after at e) (last_after e) es

-- the whole output, of a source with this name
unfoldable pub laid_out : List ℕ → List Event → List ℕ
laid_out name es = marker (pos 1) name [] ++ text_of_events 1 Nothing es
