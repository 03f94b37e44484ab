-- What the tokens of a file say: their kinds and spellings, whatever their lines and the white space before them.
use Rattle.std.specs.Prelude.{◌≡◌, ◌≢◌, ℕ, List, length, Option, slice_get, option_map, option_and_then}
use Rattle.pp_tokens.specs.declared.token.Kind.{Kind}
use Rattle.pp_tokens.specs.declared.token.Token.{Token}
use Rattle.pp_tokens.specs.Lines.{LexedFile}
use Rattle.bench_program.specs.declared.tokens.Difference.{Difference}
use Rattle.bench_program.specs.declared.tokens.Difference.TheVariants.{Place, Lines}

-- the kind and the spelling of a token
abbrev pub said : Option Token → Option (Kind × List ℕ)
said = option_map (λ (t : Token). (t.kind, t.text))

-- a token by its line and its place there, both from 0; none where no token is there
abbrev pub token_of : LexedFile → ℕ → ℕ → Option Token
token_of file line place = option_and_then (λ ts. slice_get ts place) (slice_get file.lines line)

-- two lines, by their number, have the same kinds and spellings in all places
abbrev pub SameLine : LexedFile → LexedFile → ℕ → Type 0
SameLine first second line = (place : ℕ) → said (token_of first line place) ≡ said (token_of second line place)

-- two files have the same number of lines, and the same kinds and spellings in all places
pub record SayTheSame (first second : LexedFile) : Type 0 where
  pub count : length first.lines ≡ length second.lines
  pub lines : (line : ℕ) → SameLine first second line

-- what is said to differ between two files does
abbrev pub Differs : LexedFile → LexedFile → Difference → Type 0
Differs first second (Place line place) = said (token_of first line place) ≢ said (token_of second line place)
Differs first second Lines = length first.lines ≢ length second.lines
