-- The other side of a wire whose answers are written down.
use Rattle.std.specs.Prelude.{ℕ, List, [], ◌∷◌}

-- any answer may be given to any bytes
abbrev pub AnyAnswer : List ℕ → List ℕ → Type 0
AnyAnswer sent answer = Unit {0}

-- the first answer of a list, or the empty one
abbrev pub first_answer : List (List ℕ) → List ℕ
first_answer [] = []
first_answer (answer ∷ rest) = answer
