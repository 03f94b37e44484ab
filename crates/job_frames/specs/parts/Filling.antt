-- Moving bytes of a piece to the field that is due.
use Rattle.std.specs.Prelude.{◌≡◌, ◌⊎◌, ℕ, ◌≤◌, List, ◌++◌, length, take, Result, Ok, Err}
use Rattle.std.specs.declared.alloc.AllocError.{AllocError}

-- bytes were moved behind those of the field that came before, as many as it lacks or as there are
pub record Topped (old : List ℕ) (wanted : ℕ) (rest new : List ℕ) (n : ℕ) : Type 0 where
  pub within : n ≤ length rest
  pub pending : new ≡ old ++ take n rest
  pub fits : length new ≤ wanted
  pub full : (length new ≡ wanted) ⊎ (n ≡ length rest)

abbrev pub IsTopped : List ℕ → ℕ → List ℕ → List ℕ → Result ℕ AllocError → Type 0
IsTopped old wanted rest new (Ok n) = Topped old wanted rest new n
IsTopped old wanted rest new (Err e) = Unit {0}
