-- The macros of compile words, in the spelling of GCC's options.
use Rattle.std.specs.Prelude.{ℕ, List, [], ◌∷◌, ◌==◌, false, if◌then◌else◌, Option, Some, None, Result, Ok, Err, codes, unwrap_or}
use Rattle.std.specs.List.{list_any, slice_get}
use Rattle.base_types.specs.Ascii as ascii
use Rattle.pp_tokens.specs.declared.Token.{Token}
use Rattle.pp_tokens.specs.Lines.{lexed, LexedFile}
use Rattle.macro_defs.specs.declared.DefineError.{DefineError}
use Rattle.macro_defs.specs.Defining.{Named, defined_by, names_macro}
use Rattle.tree_model.specs.Paths.{Text}
use Rattle.job_words.specs.declared.macro_word.MacroWord.{MacroWord}
use Rattle.job_words.specs.declared.macro_word.MacroWord.TheVariants as word

-- what `-D` defines, as what stands behind `#define`: its first `=` is a space, and where it has none a `1` stands behind it
unfoldable pub define_line : Text → Text
define_line [] = codes " 1"
define_line (b ∷ bs) = if b == ascii.equals then ascii.space ∷ bs else b ∷ define_line bs

-- the tokens of a logical line, none behind the last one
abbrev pub line_at : LexedFile → ℕ → List Token
line_at file line = unwrap_or (slice_get file.lines line) []

-- the tokens of a line without a comment that never ends
abbrev pub ended_line : LexedFile → Option ℕ → Option (List Token)
ended_line file None = Some (line_at file 0)
ended_line file (Some line) = None

abbrev pub file_line : LexedFile → Option (List Token)
file_line file = ended_line file file.unended

-- the tokens of a text that is one line
unfoldable pub tokens_of_line : Text → Option (List Token)
tokens_of_line text = if list_any (λ b. b == ascii.newline) text then None else file_line (lexed false text)

abbrev pub defined_word : Result Named DefineError → Option MacroWord
defined_word (Ok named) = Some (word.Define named.name named.definition)
defined_word (Err error) = None

abbrev pub define_word_of : Option (List Token) → Option MacroWord
define_word_of None = None
define_word_of (Some tokens) = defined_word (defined_by tokens)

-- what a `-D` says (6.10.3)
unfoldable pub define_word : Text → Option MacroWord
define_word text = define_word_of (tokens_of_line (define_line text))

-- one identifier that may be defined
abbrev pub undef_word_of : Option (List Token) → Option MacroWord
undef_word_of None = None
undef_word_of (Some []) = None
undef_word_of (Some (t ∷ [])) = if names_macro t then Some (word.Undef t.text) else None
undef_word_of (Some (t ∷ u ∷ ts)) = None

-- what a `-U` says (6.10.3.5)
unfoldable pub undef_word : Text → Option MacroWord
undef_word text = undef_word_of (tokens_of_line text)
