-- Where a token stands in a text, and what it is, as its place tells it. No public contract rests on these.
use Rattle.std.specs.Prelude.{ℕ, ◌+◌, ◌*◌, ◌/◌, ◌%◌, ◌==◌, Bool}
use Rattle.pp_tokens.specs.declared.token.Kind.{Kind}
use Rattle.pp_tokens.specs.declared.place.Place.{Place}

pub record PlaceTold : Type 0 where
  pub start : ℕ
  pub length : ℕ
  pub line : ℕ
  pub kind : Kind
  pub space : Bool

-- twice the start is kept, and one more where white space stands before the token, and one less than the length, in two parts
abbrev pub place_told : Place → PlaceTold
place_told p = record { start = p.spot / 2; length = p.low + p.high * 65536 + 1; line = p.line; kind = p.kind; space = (p.spot % 2) == 1 }
