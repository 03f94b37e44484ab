-- Calls of an object in memory that fail where a list says so.
use Rattle.std.specs.Prelude.{◌≡◌, ℕ, List, Bool, Result, IsErrOf}
use Rattle.std.specs.Bool.{Decides}
use Rattle.base_types.specs.Members.{Member}

-- the numbers of the calls that fail, and how many failed
pub record Failures (N : Type 0) : Type 0 where
  pub fails : List N
  pub faults : ℕ

abbrev pub failures_of : {N : Type 0} → List N → ℕ → Failures N
failures_of fails faults = record { fails = fails; faults = faults }

-- how many calls were made, the numbers of those that fail, from 1, and how many failed
pub record Made : Type 0 where
  pub made : ℕ
  pub fails : List ℕ
  pub faults : ℕ

abbrev pub made_of : ℕ → List ℕ → ℕ → Made
made_of made fails faults = record { made = made; fails = fails; faults = faults }

-- two values are equal by this test just where they are the same
abbrev pub TellsApart : {N : Type 0} → (N → N → Bool) → Type 0
TellsApart {N} eq = (x y : N) → Decides (eq x y) (x ≡ y)

-- a call with this number answers the fault exactly where its number stands on the list
pub record FailsAsListed {N T E : Type 0} (fault : E) (fails : List N) (number : N) (result : Result T E) : Type 0 where
  pub only_listed : IsErrOf result fault → Member number fails
  pub each_listed : Member number fails → IsErrOf result fault
