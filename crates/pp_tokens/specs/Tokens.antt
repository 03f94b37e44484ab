-- Owned and borrowed tokens, and those of a stretch of a lexed file.
use Rattle.std.specs.Prelude.{ℕ, ◌-◌, List, take, drop}
use Rattle.pp_tokens.specs.declared.token.Token.{Token}
use Rattle.pp_tokens.specs.declared.token.TokenRef.{TokenRef}
use Rattle.pp_tokens.specs.declared.token_cow.Spelling.{Spelling}
use Rattle.pp_tokens.specs.declared.token_cow.Spelling.TheVariants.{Lent, Owned}
use Rattle.pp_tokens.specs.declared.tokens.Tokens.{Tokens}
use Rattle.pp_tokens.specs.Lines.{all_tokens}

-- the token that a borrowed one shows
abbrev pub token_seen : TokenRef → Token
token_seen t = record { kind = t.kind; text = t.text.now; line = t.line; space = t.space }

-- the tokens that are still to come
abbrev pub rest_of : Tokens → List Token
rest_of tokens = take (tokens.end - tokens.at) (drop tokens.at (all_tokens tokens.lexed.now))

-- the bytes of a spelling, whoever owns them
abbrev pub bytes_of_spelling : Spelling → List ℕ
bytes_of_spelling (Lent text) = text.now
bytes_of_spelling (Owned text) = text.value
