-- What a call of the outside does to a told content.
use Rattle.std.specs.Prelude.{◌≡◌, ℕ, List, Option, Result, MatchResult, take}
use Rattle.std.specs.Io.KnownBytes.{prepend_known}
use Rattle.base_types.specs.Told.{added}

-- a take gives the front of what is left, and a refused one leaves it; what isn't told stays so
abbrev pub TakesFront : {E : Type 0} → Option (List ℕ) → Option (List ℕ) → Result ℕ E → List ℕ → Type 0
TakesFront before now result room =
    MatchResult result (λ n. before ≡ prepend_known (take n room) now) (λ _. now ≡ before)

-- a put appends the whole piece, and after a refusal some prefix of it
abbrev pub PutsPiece : {E : Type 0} → Option (List ℕ) → Option (List ℕ) → Result (Unit {0}) E → List ℕ → Type 0
PutsPiece before now result piece =
    MatchResult result (λ _. now ≡ added piece before) (λ _. (n : ℕ) × (now ≡ added (take n piece) before))
