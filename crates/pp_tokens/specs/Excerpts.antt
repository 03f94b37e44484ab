-- Tokens of a file on their way to a copy of its text.
use Rattle.std.specs.Prelude.{◌≡◌, ℕ, List, ◌∷◌, ◌++◌}
use Rattle.pp_tokens.specs.declared.token.Token.{Token}

-- the bytes of the file that spell the tokens that were taken, with what stands between them there, and the tokens that are still to come
pub record Excerpted : Type 0 where
  pub taken : List ℕ
  pub rest : List Token

-- the first token is taken, with these bytes between it and what was taken before
abbrev pub TakesBehind : List ℕ → Excerpted → Excerpted → Type 0
TakesBehind between old new = (t : Token) × ((old.rest ≡ t ∷ new.rest) × (new.taken ≡ old.taken ++ (between ++ t.text)))

-- the first token is taken alone, where there is one
abbrev pub TakesAlone : Excerpted → Excerpted → Type 0
TakesAlone old new = (t : Token) (ts : List Token) → old.rest ≡ t ∷ ts → new ≡ record { taken = t.text; rest = ts }
