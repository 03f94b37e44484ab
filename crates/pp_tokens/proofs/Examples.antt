-- Small files, read by the definitions.
use Rattle.std.specs.Prelude.{◌≡◌, ℕ, map, Bool, true, false, List, [], ◌∷◌, ◌++◌, Some, None, codes, refl}
use Rattle.pp_tokens.specs.declared.token.Kind.{Kind}
use Rattle.pp_tokens.specs.declared.token.Token.{Token}
use Rattle.pp_tokens.specs.declared.token.Kind.TheVariants.{Ident, Number, Str, Punct, Header, Other}
use Rattle.pp_tokens.specs.Grammar.{is_identifier, is_number, number_goes_on, closes, is_string, is_character, closes_header, is_header, is_punctuator, kind_of}
use Rattle.pp_tokens.specs.Phases.{with_newlines, numbered, newline_ended, without_trigraphs, spliced, source_text}
use Rattle.pp_tokens.specs.Lines.{LexedFile, has_end, ends_comment, is_comment, is_open_comment, part_of, header_due, words_after, cut_at_newlines, line_tokens, unended_line, file_of, longest_from, first_part, elements, lexed}

abbrev a_token : Kind → List ℕ → ℕ → Bool → Token
a_token kind text line space = record { kind = kind; text = text; line = line; space = space }

abbrev newline : List ℕ
newline = 10 ∷ []

abbrev closed : List (List Token) → LexedFile
closed lines = record { lines = lines; unended = None }

-- the kind and the text of each token of each line
abbrev pub shown : LexedFile → List (List (Kind × List ℕ))
shown file = map (map (λ t. (t.kind, t.text))) file.lines

-- a line that goes on over a spliced newline: the second token begins on physical line 2
spliced_token : lexed false (codes "in\\" ++ newline ++ codes "t a;" ++ newline)
    ≡ closed ((a_token Ident (codes "int") 1 true ∷ a_token Ident (codes "a") 2 true ∷ a_token Punct (codes ";") 2 false ∷ []) ∷ [])
unfolding is_identifier is_number number_goes_on closes is_string is_character closes_header is_header is_punctuator kind_of with_newlines numbered newline_ended without_trigraphs spliced source_text has_end ends_comment is_comment is_open_comment part_of header_due words_after cut_at_newlines line_tokens unended_line file_of longest_from first_part elements lexed
spliced_token = refl

-- a comment counts as one space, and newlines inside it don't end the logical line
comment_is_space : lexed false (codes "a/*" ++ newline ++ codes "*/b" ++ newline ++ codes "c//d")
    ≡ closed ((a_token Ident (codes "a") 1 true ∷ a_token Ident (codes "b") 2 true ∷ []) ∷ (a_token Ident (codes "c") 3 true ∷ []) ∷ [])
unfolding is_identifier is_number number_goes_on closes is_string is_character closes_header is_header is_punctuator kind_of with_newlines numbered newline_ended without_trigraphs spliced source_text has_end ends_comment is_comment is_open_comment part_of header_due words_after cut_at_newlines line_tokens unended_line file_of longest_from first_part elements lexed
comment_is_space = refl

-- no comment begins inside a string, and a quote without its partner is a token of its own
string_holds_comment : shown (lexed false (codes "u8\"/*\" '" ++ newline ++ codes "a")) ≡ ((Str, codes "u8\"/*\"") ∷ (Other, codes "'") ∷ []) ∷ ((Ident, codes "a") ∷ []) ∷ []
unfolding is_identifier is_number number_goes_on closes is_string is_character closes_header is_header is_punctuator kind_of with_newlines numbered newline_ended without_trigraphs spliced source_text has_end ends_comment is_comment is_open_comment part_of header_due words_after cut_at_newlines line_tokens unended_line file_of longest_from first_part elements lexed
string_holds_comment = refl

-- no comment begins inside a header name, which is read in its own places alone
header_holds_comment : shown (lexed false (codes "%: include/**/<a//b>" ++ newline ++ codes "x <a>")) ≡ ((Punct, codes "%:") ∷ (Ident, codes "include") ∷ (Header, codes "<a//b>") ∷ []) ∷ ((Ident, codes "x") ∷ (Punct, codes "<") ∷ (Ident, codes "a") ∷ (Punct, codes ">") ∷ []) ∷ []
unfolding is_identifier is_number number_goes_on closes is_string is_character closes_header is_header is_punctuator kind_of with_newlines numbered newline_ended without_trigraphs spliced source_text has_end ends_comment is_comment is_open_comment part_of header_due words_after cut_at_newlines line_tokens unended_line file_of longest_from first_part elements lexed
header_holds_comment = refl

-- a header name takes a backslash as any other byte, and a probe's operand is one too
header_takes_backslash : shown (lexed false (codes "#if __has_include(\"a\\\")")) ≡ ((Punct, codes "#") ∷ (Ident, codes "if") ∷ (Ident, codes "__has_include") ∷ (Punct, codes "(") ∷ (Header, codes "\"a\\\"") ∷ (Punct, codes ")") ∷ []) ∷ []
unfolding is_identifier is_number number_goes_on closes is_string is_character closes_header is_header is_punctuator kind_of with_newlines numbered newline_ended without_trigraphs spliced source_text has_end ends_comment is_comment is_open_comment part_of header_due words_after cut_at_newlines line_tokens unended_line file_of longest_from first_part elements lexed
header_takes_backslash = refl

-- an open comment runs to the end, and its line is kept
comment_without_end : lexed false (newline ++ codes "a /* b" ++ newline) ≡ record { lines = [] ∷ (a_token Ident (codes "a") 2 true ∷ []) ∷ []; unended = Some 2 }
unfolding is_identifier is_number number_goes_on closes is_string is_character closes_header is_header is_punctuator kind_of with_newlines numbered newline_ended without_trigraphs spliced source_text has_end ends_comment is_comment is_open_comment part_of header_due words_after cut_at_newlines line_tokens unended_line file_of longest_from first_part elements lexed
comment_without_end = refl

-- the longest token wins
longest_wins : shown (lexed false (codes "a+++b ..1e+x.%:%:..")) ≡ ((Ident, codes "a") ∷ (Punct, codes "++") ∷ (Punct, codes "+") ∷ (Ident, codes "b") ∷ (Punct, codes ".") ∷ (Number, codes ".1e+x.") ∷ (Punct, codes "%:%:") ∷ (Punct, codes ".") ∷ (Punct, codes ".") ∷ []) ∷ []
unfolding is_identifier is_number number_goes_on closes is_string is_character closes_header is_header is_punctuator kind_of with_newlines numbered newline_ended without_trigraphs spliced source_text has_end ends_comment is_comment is_open_comment part_of header_due words_after cut_at_newlines line_tokens unended_line file_of longest_from first_part elements lexed
longest_wins = refl

-- trigraphs are read where they are asked for, before lines are spliced
trigraphs_read : shown (lexed true (codes "??=a??/" ++ newline ++ codes "b")) ≡ ((Punct, codes "#") ∷ (Ident, codes "ab") ∷ []) ∷ []
unfolding is_identifier is_number number_goes_on closes is_string is_character closes_header is_header is_punctuator kind_of with_newlines numbered newline_ended without_trigraphs spliced source_text has_end ends_comment is_comment is_open_comment part_of header_due words_after cut_at_newlines line_tokens unended_line file_of longest_from first_part elements lexed
trigraphs_read = refl

trigraphs_left : shown (lexed false (codes "??=a")) ≡ ((Punct, codes "?") ∷ (Punct, codes "?") ∷ (Punct, codes "=") ∷ (Ident, codes "a") ∷ []) ∷ []
unfolding is_identifier is_number number_goes_on closes is_string is_character closes_header is_header is_punctuator kind_of with_newlines numbered newline_ended without_trigraphs spliced source_text has_end ends_comment is_comment is_open_comment part_of header_due words_after cut_at_newlines line_tokens unended_line file_of longest_from first_part elements lexed
trigraphs_left = refl

-- a carriage return before a newline is part of it, and white space elsewhere; a backslash at the very end goes
carriage_returns : lexed false (codes "a" ++ (13 ∷ 10 ∷ codes "b" ++ (13 ∷ codes "c\\"))) ≡ closed ((a_token Ident (codes "a") 1 true ∷ []) ∷ (a_token Ident (codes "b") 2 true ∷ a_token Ident (codes "c") 2 true ∷ []) ∷ [])
unfolding is_identifier is_number number_goes_on closes is_string is_character closes_header is_header is_punctuator kind_of with_newlines numbered newline_ended without_trigraphs spliced source_text has_end ends_comment is_comment is_open_comment part_of header_due words_after cut_at_newlines line_tokens unended_line file_of longest_from first_part elements lexed
carriage_returns = refl

-- no lines at all
empty_file : lexed false [] ≡ closed []
unfolding is_identifier is_number number_goes_on closes is_string is_character closes_header is_header is_punctuator kind_of with_newlines numbered newline_ended without_trigraphs spliced source_text has_end ends_comment is_comment is_open_comment part_of header_due words_after cut_at_newlines line_tokens unended_line file_of longest_from first_part elements lexed
empty_file = refl

-- an include line, and the line behind it
include_line : lexed false (codes "#include \"a-b.h\"" ++ newline ++ codes "int x;" ++ newline)
    ≡ closed (
    (a_token Punct (codes "#") 1 true ∷ a_token Ident (codes "include") 1 false ∷ a_token Header (codes "\"a-b.h\"") 1 true ∷ [])
    ∷ (a_token Ident (codes "int") 2 true ∷ a_token Ident (codes "x") 2 true ∷ a_token Punct (codes ";") 2 false ∷ []) ∷ []
    )
unfolding is_identifier is_number number_goes_on closes is_string is_character closes_header is_header is_punctuator kind_of with_newlines numbered newline_ended without_trigraphs spliced source_text has_end ends_comment is_comment is_open_comment part_of header_due words_after cut_at_newlines line_tokens unended_line file_of longest_from first_part elements lexed
include_line = refl

-- a line that a backslash at the very end splices to nothing is no line
backslash_alone : lexed false (codes "a" ++ newline ++ codes "\\") ≡ closed ((a_token Ident (codes "a") 1 true ∷ []) ∷ [])
unfolding is_identifier is_number number_goes_on closes is_string is_character closes_header is_header is_punctuator kind_of with_newlines numbered newline_ended without_trigraphs spliced source_text has_end ends_comment is_comment is_open_comment part_of header_due words_after cut_at_newlines line_tokens unended_line file_of longest_from first_part elements lexed
backslash_alone = refl

-- a backslash and a carriage return at the very end are a spliced newline
backslash_return : lexed false (codes "a\\" ++ (13 ∷ [])) ≡ closed ((a_token Ident (codes "a") 1 true ∷ []) ∷ [])
unfolding is_identifier is_number number_goes_on closes is_string is_character closes_header is_header is_punctuator kind_of with_newlines numbered newline_ended without_trigraphs spliced source_text has_end ends_comment is_comment is_open_comment part_of header_due words_after cut_at_newlines line_tokens unended_line file_of longest_from first_part elements lexed
backslash_return = refl
