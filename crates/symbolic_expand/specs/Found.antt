-- What the search for headers answers.
use Rattle.std.specs.Prelude.{◌↔◌, ℕ, ◌≤◌, Bool, true, false, List, length, Option, Some, None, Contains}
use Rattle.std.specs.Ordering.{ordering_then}
use Rattle.std.specs.declared.cmp.Ordering.{Ordering}
use Rattle.std.specs.declared.cmp.Ordering.TheVariants.{Less, Equal, Greater}
use Rattle.std.specs.List.Sorted.{IsStrictlySortedBy}
use Rattle.pp_tokens.specs.declared.Token.{Token}
use Rattle.directive_scan.specs.declared.directive.HeaderName.{HeaderName}
use Rattle.directive_scan.specs.HeaderNames.{header_named}
use Rattle.macro_expand.specs.Choice.{Sets, computed_runs, MayName, HasManyRuns, HasLongRun, HasPresumedRun, Supports}
use Rattle.symbolic_expand.specs.declared.outcome.SymError.{SymError}
use Rattle.symbolic_expand.specs.declared.outcome.SymError.TheVariants.{Budget, Long, Presumed as PresumedNames, Memory}
use Rattle.symbolic_expand.specs.Texts.{text_cmp}

-- The headers and their order.

abbrev pub form_cmp : Bool → Bool → Ordering
form_cmp true true = Equal
form_cmp true false = Greater
form_cmp false true = Less
form_cmp false false = Equal

-- by the form, those with quotes first, and then by the bytes of the name
abbrev pub header_cmp : HeaderName → HeaderName → Ordering
header_cmp a b = ordering_then (form_cmp a.angle b.angle) (text_cmp a.name b.name)

-- the presumed name of a file, where no `#line` changes it (6.10.4)
abbrev pub name_unless_changed : List ℕ → Bool → Option (List ℕ)
name_unless_changed file true = None
name_unless_changed file false = Some file

-- Nothing refuses: no more complete lists of choices than the budget, none of them without work, and none with a presumed line or
-- name that isn't known.
pub record NothingRefuses (budget : ℕ) (sets : Sets) (file : Option (List ℕ)) (ts : List Token) : Type 0 where
  pub within_budget : length (computed_runs sets file ts) ≤ budget
  pub not_long : HasLongRun sets file ts → ⊥
  pub not_presumed : HasPresumedRun sets file ts → ⊥

-- Exactly the headers that the tokens may name (6.10.2 p4), and exactly the names that the answer rests on, each once and in order.
pub record NamesExactly (sets : Sets) (file : Option (List ℕ)) (ts : List Token) (headers : List HeaderName) (support : List (List ℕ)) : Type 0 where
  pub named : (h : HeaderName) → Contains headers h ↔ MayName header_named sets file ts h
  pub headers_ordered : IsStrictlySortedBy header_cmp headers
  pub supports : (n : List ℕ) → Contains support n ↔ Supports sets file ts n
  pub support_ordered : IsStrictlySortedBy text_cmp support

-- a refusal that holds
abbrev pub RefusalHolds : SymError → ℕ → Sets → Option (List ℕ) → List Token → Type 0
RefusalHolds Budget budget sets file ts = HasManyRuns budget sets file ts
RefusalHolds Long budget sets file ts = HasLongRun sets file ts
RefusalHolds PresumedNames budget sets file ts = HasPresumedRun sets file ts
RefusalHolds Memory budget sets file ts = Unit {0}
