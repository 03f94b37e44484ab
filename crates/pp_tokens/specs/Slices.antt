-- Where the tokens of a file stand in its text after translation phases 1 and 2 (ISO C 5.1.1.2): trigraphs are replaced in
-- that text, where they are read, and lines spliced, but comments stand in it as they are.
use Rattle.std.specs.Prelude.{◌≡◌, ℕ, Bool, true, List, [], ◌∷◌, ◌++◌, All}
use Rattle.std.specs.List.{flat_map}
use Rattle.std.specs.Option.{ForSome}
use Rattle.pp_tokens.specs.declared.token.Token.{Token}
use Rattle.pp_tokens.specs.Phases.{Cell, bytes, source_text}
use Rattle.pp_tokens.specs.Lines.{is_open_comment, lexed}

-- The token, of whatever kind, is a slice of the text: its spelling is a stretch of at least one byte there, with before in
-- front of it and after behind it, and its line is the physical line of the first of these bytes.
pub record IsSliceOf (text : List Cell) (token : Token) : Type 0 where
  pub before : List Cell
  pub first : Cell
  pub others : List Cell
  pub after : List Cell
  pub stands : text ≡ before ++ (first ∷ (others ++ after))
  pub spelling : token.text ≡ bytes (first ∷ others)
  pub line : token.line ≡ first.line

-- the tokens stand in the text one behind the other: each next one in what is behind the one before it
abbrev pub StandInOrder : List Token → List Cell → Type 0
StandInOrder [] text = Unit {0}
StandInOrder (t ∷ ts) text = (slice : IsSliceOf text t) × StandInOrder ts slice.after

-- the text ends with a comment that never ends, which begins on this line (6.4.9)
pub record EndsWithOpenComment (text : List Cell) (line : ℕ) : Type 0 where
  pub before : List Cell
  pub first : Cell
  pub others : List Cell
  pub stands : text ≡ before ++ (first ∷ others)
  pub never_ends : is_open_comment (bytes (first ∷ others)) ≡ true
  pub begins : line ≡ first.line

-- each token of each line of a file is a slice of the file's text
abbrev pub EachTokenIsSlice : Bool → List ℕ → Type 0
EachTokenIsSlice trigraphs body = All (All (IsSliceOf (source_text trigraphs body))) (lexed trigraphs body).lines

-- the tokens of all its lines, one line after the other, stand there in this order
abbrev pub TokensStandInOrder : Bool → List ℕ → Type 0
TokensStandInOrder trigraphs body = StandInOrder (flat_map (λ line. line) (lexed trigraphs body).lines) (source_text trigraphs body)

-- where the file has a comment that never ends, the text ends with it, and its line is the one on which it begins there
abbrev pub OpenCommentIsRest : Bool → List ℕ → Type 0
OpenCommentIsRest trigraphs body = ForSome (lexed trigraphs body).unended (EndsWithOpenComment (source_text trigraphs body))
