-- The laws of runs under sets of definitions (6.10.2 p4, 6.10.3).
use Rattle.std.specs.Prelude.{◌≡◌, ℕ, ◌≤◌, ◌↔◌, List, length, Option, Contains}
use Rattle.pp_tokens.specs.declared.Token.{Token}
use Rattle.macro_defs.specs.MacroDefinition.{MacroDefinition}
use Rattle.macro_expand.specs.Expansion.{Expanded}
use Rattle.macro_expand.specs.Choice.{Sets, IsDistinct, AreAmong, Run, computed_runs, MayName, HasManyRuns, HasLongRun, HasPresumedRun, Supports}

-- More definitions.

-- more definitions never take the end of a run away
abbrev pub MoreKeepRuns : Type 0
MoreKeepRuns = (sets other : Sets) (file : Option (List ℕ)) (ts : List Token) (r : Run Expanded) → AreAmong sets other →
    Contains (computed_runs sets file ts) r →
    (s : Run Expanded) × (Contains (computed_runs other file ts) s) × (s.ending ≡ r.ending)

-- nor a header, however headers are read
abbrev pub MoreKeepHeaders : Type 0 → Type 0
MoreKeepHeaders H = (reading : List Token → Option H) (sets other : Sets) (file : Option (List ℕ)) (ts : List Token) (h : H) → AreAmong sets other →
    MayName reading sets file ts h → MayName reading other file ts h

-- nor a reason for which computed tokens aren't analysed
abbrev pub MoreKeepLongRuns : Type 0
MoreKeepLongRuns = (sets other : Sets) (file : Option (List ℕ)) (ts : List Token) → AreAmong sets other →
    HasLongRun sets file ts → HasLongRun other file ts

abbrev pub MoreKeepPresumedRuns : Type 0
MoreKeepPresumedRuns = (sets other : Sets) (file : Option (List ℕ)) (ts : List Token) → AreAmong sets other →
    HasPresumedRun sets file ts → HasPresumedRun other file ts

abbrev pub MoreKeepManyRuns : Type 0
MoreKeepManyRuns = (budget : ℕ) (sets other : Sets) (file : Option (List ℕ)) (ts : List Token) → IsDistinct sets → AreAmong sets other →
    HasManyRuns budget sets file ts → HasManyRuns budget other file ts

-- nor do they make fewer runs, where each definition stands once
abbrev pub MoreMakeNoFewer : Type 0
MoreMakeNoFewer = (sets other : Sets) (file : Option (List ℕ)) (ts : List Token) → IsDistinct sets → AreAmong sets other →
    length (computed_runs sets file ts) ≤ length (computed_runs other file ts)

-- nor a name that the answer rests on
abbrev pub MoreKeepSupport : Type 0
MoreKeepSupport = (sets other : Sets) (file : Option (List ℕ)) (ts : List Token) (name : List ℕ) → AreAmong sets other →
    Supports sets file ts name → Supports other file ts name

-- Supports.

-- the same definitions, in whatever order
abbrev pub SameMembers : List MacroDefinition → List MacroDefinition → Type 0
SameMembers ds es = (d : MacroDefinition) → Contains ds d ↔ Contains es d

-- two sets that give each name that the answer rests on the same definitions
abbrev pub AgreeOnSupport : Sets → Sets → Option (List ℕ) → List Token → Type 0
AgreeOnSupport sets other file ts = (name : List ℕ) → Supports sets file ts name → SameMembers (sets name) (other name)

-- the answers on computed tokens are the same under two sets: headers, however they are read, support, and reasons for none
pub record SameAnswers (H : Type 0) (sets other : Sets) (file : Option (List ℕ)) (ts : List Token) : Type 0 where
  pub headers : (reading : List Token → Option H) (h : H) → MayName reading sets file ts h ↔ MayName reading other file ts h
  pub support : (name : List ℕ) → Supports sets file ts name ↔ Supports other file ts name
  pub many : (budget : ℕ) → HasManyRuns budget sets file ts ↔ HasManyRuns budget other file ts
  pub long : HasLongRun sets file ts ↔ HasLongRun other file ts
  pub presumed : HasPresumedRun sets file ts ↔ HasPresumedRun other file ts

-- the answers rest on the definitions of the names met alone
abbrev pub SupportDecides : Type 0 → Type 0
SupportDecides H = (sets other : Sets) (file : Option (List ℕ)) (ts : List Token) → IsDistinct sets → IsDistinct other →
    AgreeOnSupport sets other file ts → SameAnswers H sets other file ts
