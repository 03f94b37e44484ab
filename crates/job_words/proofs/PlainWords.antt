-- A `-D` whose name and value are one word each, as the lexer and `#define` read it.
use Rattle.std.specs.Prelude.{◌≡◌, ℕ, Bool, true, false, ◌||◌, List, [], ◌∷◌, ◌++◌, map, take, drop, zero, suc, ◌+◌, Some, refl, ◌==◌}
use Rattle.std.specs.List.{list_all, list_any}
use Rattle.std.proofs.Common.{sym, ◌∙◌, ap, subst, append_assoc, arith}
use Rattle.std.proofs.lemmas.Bool.{and_parts, and_from, or_from}
use Rattle.std.proofs.lemmas.List.{map-append}
use Rattle.std.proofs.lemmas.List.Folds.{list_all-append}
use Rattle.pp_tokens.specs.declared.token.Kind.{Kind}
use Rattle.pp_tokens.specs.declared.token.Kind.TheVariants.{Ident, Number, Char, Str, Punct, Header, Other}
use Rattle.pp_tokens.specs.declared.Token.{Token}
use Rattle.pp_tokens.specs.Grammar.{kind_of}
use Rattle.pp_tokens.specs.Phases.{Cell, cell, bytes, newline_ended, with_newlines, numbered, spliced, source_text}
use Rattle.pp_tokens.specs.Lines.{Element, white, newline, token, header_due, words_after, Reads, Stands, cut_at_newlines, line_tokens, unended_line, file_of, lexed}
use Rattle.pp_tokens.proofs.Reading.{lexed_is}
use Rattle.macro_defs.specs.Defining.{is_reserved_name, defined_by, ends_with_pasting}
use Rattle.tree_model.specs.Paths.{Text}
use Rattle.job_words.specs.declared.macro_word.MacroWord.TheVariants.{Define}
use Rattle.job_words.specs.Macros.{define_line, define_word, define_word_of, file_line, tokens_of_line}
use Rattle.job_words.specs.parts.Told.{IsFirst, is_word_kind, word_macro}
use Rattle.job_words.proofs.WordParts.{is_wordy, apart, Ends, all_wordy, some_word, at_space, at_newline, word_stands, space_stands, newline_stands}

-- PHASES 1 AND 2

-- a byte of a word, or a space
abbrev is_kept : ℕ → Bool
is_kept b = is_wordy b || (b == 32)

-- the bytes on line 1
abbrev placed : List ℕ → List Cell
placed = map (λ b. cell b 1)

placed_bytes : (bs : List ℕ) → bytes (placed bs) ≡ bs
placed_bytes [] = refl
placed_bytes (b ∷ bs) = ap (λ (l : List ℕ). b ∷ l) (placed_bytes bs)

wordy_kept : (bs : List ℕ) → list_all is_wordy bs ≡ true → list_all is_kept bs ≡ true
wordy_kept [] h = refl
wordy_kept (b ∷ bs) h =
    let both = and_parts (is_wordy b) (list_all is_wordy bs) h in
    rw both.0 (wordy_kept bs both.1)

ended : (b : ℕ) (bs : List ℕ) → list_all is_kept (b ∷ bs) ≡ true → newline_ended (b ∷ bs) ≡ b ∷ (bs ++ (10 ∷ []))
unfolding newline_ended
ended b [] h = rw (apart is_kept b 10 (and_parts (is_kept b) true h).0 refl) refl
ended b (c ∷ bs) h = ap (λ (l : List ℕ). b ∷ l) (ended c bs (and_parts (is_kept b) (list_all is_kept (c ∷ bs)) h).1)

no_returns : (bs : List ℕ) → list_all is_kept bs ≡ true → with_newlines (bs ++ (10 ∷ [])) ≡ bs ++ (10 ∷ [])
unfolding with_newlines
no_returns [] h = refl
no_returns (b ∷ bs) h =
    let both = and_parts (is_kept b) (list_all is_kept bs) h in
    rw (apart is_kept b 13 both.0 refl) (ap (λ (l : List ℕ). b ∷ l) (no_returns bs both.1))

one_line : (bs : List ℕ) → list_all is_kept bs ≡ true → numbered 1 (bs ++ (10 ∷ [])) ≡ placed (bs ++ (10 ∷ []))
unfolding numbered
one_line [] h = refl
one_line (b ∷ bs) h =
    let both = and_parts (is_kept b) (list_all is_kept bs) h in
    rw (apart is_kept b 10 both.0 refl) (ap (λ (l : List Cell). cell b 1 ∷ l) (one_line bs both.1))

no_splices : (bs : List ℕ) → list_all is_kept bs ≡ true → spliced (placed (bs ++ (10 ∷ []))) ≡ placed (bs ++ (10 ∷ []))
unfolding spliced
no_splices [] h = refl
no_splices (b ∷ []) h = rw (apart is_kept b 92 (and_parts (is_kept b) true h).0 refl) refl
no_splices (b ∷ c ∷ bs) h =
    let both = and_parts (is_kept b) (list_all is_kept (c ∷ bs)) h in
    rw (apart is_kept b 92 both.0 refl) (ap (λ (l : List Cell). cell b 1 ∷ l) (no_splices (c ∷ bs) both.1))

plain_source : (b : ℕ) (bs : List ℕ) → list_all is_kept (b ∷ bs) ≡ true → source_text false (b ∷ bs) ≡ placed (b ∷ (bs ++ (10 ∷ [])))
unfolding source_text
plain_source b bs h =
    ap (λ (l : List ℕ). spliced (numbered 1 (with_newlines l))) (ended b bs h)
    ∙ ap (λ (l : List ℕ). spliced (numbered 1 l)) (no_returns (b ∷ bs) h)
    ∙ ap spliced (one_line (b ∷ bs) h)
    ∙ no_splices (b ∷ bs) h

no_newline : (bs : List ℕ) → list_all is_kept bs ≡ true → list_any (λ b. b == 10) bs ≡ false
no_newline [] h = refl
no_newline (b ∷ bs) h =
    let both = and_parts (is_kept b) (list_all is_kept bs) h in
    or_from _ _ (apart is_kept b 10 both.0 refl) (no_newline bs both.1)

-- PHASE 3

abbrev word_element : Kind → List ℕ → Element
word_element k text = record { part = token k; cells = placed text }

abbrev line_elements : List ℕ → Kind → List ℕ → List Element
line_elements name k value =
    word_element Ident name ∷ record { part = white; cells = cell 32 1 ∷ [] } ∷ word_element k value ∷ record { part = newline; cells = cell 10 1 ∷ [] } ∷ []

word_at : (due : Bool) (text : List ℕ) (k : Kind) (stop : ℕ) (behind : List Cell) → due ≡ false → is_word_kind k ≡ true → kind_of text ≡ Some k → Ends stop
    → Stands due (token k) (bytes (placed text)) (stop ∷ bytes behind)
word_at due text k stop behind none plain is ends =
    subst (λ t. Stands due (token k) t (stop ∷ bytes behind)) (sym (placed_bytes text)) (word_stands due text k stop (bytes behind) none plain is ends)

line_reads : (name value : List ℕ) (k : Kind) → kind_of name ≡ Some Ident → is_word_kind k ≡ true → kind_of value ≡ Some k
    → Reads [] (line_elements name k value) (placed (name ++ (32 ∷ (value ++ (10 ∷ [])))))
unfolding header_due words_after
line_reads name value k named plain is = (
  cell 32 1 ∷ placed (value ++ (10 ∷ [])),
  map-append (λ b. cell b 1) name (32 ∷ (value ++ (10 ∷ []))),
  word_at false name Ident 32 (placed (value ++ (10 ∷ []))) refl refl named at_space,
  (
    placed (value ++ (10 ∷ [])),
    refl,
    space_stands false (bytes (placed (value ++ (10 ∷ [])))) refl,
    (
      cell 10 1 ∷ [],
      map-append (λ b. cell b 1) value (10 ∷ []),
      word_at false value k 10 [] refl plain is at_newline,
      ([], refl, newline_stands (header_due (bytes (placed name) ∷ bytes (placed value) ∷ [])), refl),
    ),
  ),
)

-- the tokens, whose spellings are told by their cells
line_file : (b : ℕ) (bs : List ℕ) (c : ℕ) (cs : List ℕ) (k : Kind)
    → file_line (file_of (line_elements (b ∷ bs) k (c ∷ cs)))
    ≡ Some (record { kind = Ident; text = bytes (placed (b ∷ bs)); line = 1; space = true } ∷ record { kind = k; text = bytes (placed (c ∷ cs)); line = 1; space = true } ∷ [])
unfolding file_of cut_at_newlines line_tokens unended_line
line_file b bs c cs k = refl

abbrev first_token : Kind → List ℕ → Token
first_token k text = record { kind = k; text = text; line = 1; space = true }

line_lexed : (name value : List ℕ) (k : Kind) → kind_of name ≡ Some Ident → is_word_kind k ≡ true → kind_of value ≡ Some k
    → tokens_of_line (name ++ (32 ∷ value)) ≡ Some (first_token Ident name ∷ first_token k value ∷ [])
unfolding tokens_of_line
line_lexed [] value k named plain is = absurd (some_word Ident named)
line_lexed (b ∷ bs) [] k named plain is = absurd (some_word k is)
line_lexed (b ∷ bs) (c ∷ cs) k named plain is =
    let name : List ℕ = b ∷ bs in
    let value : List ℕ = c ∷ cs in
    let all : list_all is_kept (name ++ (32 ∷ value)) ≡ true =
    list_all-append is_kept name (32 ∷ value) ∙ and_from _ _ (wordy_kept name (all_wordy name Ident refl named)) (wordy_kept value (all_wordy value k plain is)) in
    let end : placed (b ∷ ((bs ++ (32 ∷ value)) ++ (10 ∷ []))) ≡ placed (name ++ (32 ∷ (value ++ (10 ∷ [])))) = ap placed (append_assoc name (32 ∷ value) (10 ∷ [])) in
    let source : source_text false (name ++ (32 ∷ value)) ≡ placed (name ++ (32 ∷ (value ++ (10 ∷ [])))) = plain_source b (bs ++ (32 ∷ value)) all ∙ end in
    let reads : Reads [] (line_elements name k value) (source_text false (name ++ (32 ∷ value))) =
    subst (Reads [] (line_elements name k value)) (sym source) (line_reads name value k named plain is) in
    let file : file_of (line_elements name k value) ≡ lexed false (name ++ (32 ∷ value)) =
    lexed_is false (name ++ (32 ∷ value)) (file_of (line_elements name k value)) (line_elements name k value, reads, refl) in
    let lexes : file_line (lexed false (name ++ (32 ∷ value))) ≡ Some (first_token Ident name ∷ first_token k value ∷ []) =
    ap file_line (sym file) ∙ line_file b bs c cs k ∙ (λ i. Some (first_token Ident (placed_bytes name i) ∷ first_token k (placed_bytes value i) ∷ [])) in
    rw (no_newline (name ++ (32 ∷ value)) all) lexes

-- WHAT IT DEFINES

two_define : (name value : List ℕ) (k : Kind) → is_reserved_name name ≡ false → is_word_kind k ≡ true
    → define_word_of (Some (first_token Ident name ∷ first_token k value ∷ [])) ≡ Some (Define name (word_macro k value))
unfolding defined_by ends_with_pasting
two_define name value Ident free plain = rw free refl
two_define name value Number free plain = rw free refl
two_define name value Char free plain = absurd (cc)
two_define name value Str free plain = absurd (cc)
two_define name value Punct free plain = absurd (cc)
two_define name value Header free plain = absurd (cc)
two_define name value Other free plain = absurd (cc)

pub word_defines : (text name value : Text) (k : Kind) → define_line text ≡ name ++ (32 ∷ value) → kind_of name ≡ Some Ident → is_reserved_name name ≡ false
    → is_word_kind k ≡ true → kind_of value ≡ Some k → define_word text ≡ Some (Define name (word_macro k value))
unfolding define_word
word_defines text name value k line named free plain is =
    ap (λ l. define_word_of (tokens_of_line l)) line ∙ ap define_word_of (line_lexed name value k named plain is) ∙ two_define name value k free plain

-- WHERE THE NAME ENDS

-- a text whose first `=` stands at a place
pub line-cut : (text : Text) (place : ℕ) → IsFirst place 61 text → define_line text ≡ take place text ++ (32 ∷ drop (place + 1) text)
unfolding define_line
line-cut [] place first = absurd (omega (arith, first.0))
line-cut (b ∷ bs) zero first = rw first.1 refl
line-cut (b ∷ bs) (suc place) first =
    let next : suc place + 1 ≡ suc (place + 1) = omega arith in
    rw (first.2 0 (omega arith), next)
    (ap (λ (rest : Text). b ∷ rest) (line-cut bs place (omega (arith, first.0), first.1, λ k below. first.2 (suc k) (omega (arith, below)))))
