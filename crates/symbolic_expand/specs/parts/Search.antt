-- One run after the other, and what they find together.
use Rattle.std.specs.Prelude.{if◌then◌else◌, ◌≡◌, ◌↔◌, ℕ, Bool, true, false, List, map, Option, Some, None, Contains}
use Rattle.std.specs.declared.collections.VecDeque.{VecDeque}
use Rattle.std.specs.declared.alloc.Global.{Global}
use Rattle.base_types.specs.Limits.{choice_work_limit}
use Rattle.pp_tokens.specs.declared.Token.{Token}
use Rattle.directive_scan.specs.declared.directive.HeaderName.{HeaderName}
use Rattle.directive_scan.specs.HeaderNames.{header_named}
use Rattle.macro_expand.specs.declared.outcome.Mode.TheVariants.{Text}
use Rattle.macro_expand.specs.declared.outcome.RunError.{RunError}
use Rattle.macro_expand.specs.declared.outcome.RunError.TheVariants.{Count as CountError, Unclosed as UnclosedError, Paste as PasteError, Deep as DeepError, Work as WorkError, Presumed as PresumedError, Memory as MemoryError}
use Rattle.macro_expand.specs.Asking.{Asking, Work}
use Rattle.macro_expand.specs.Replacement.{unmarked}
use Rattle.macro_expand.specs.Expansion.{Expanded, expansion}
use Rattle.macro_expand.specs.Choice.{Sets, Failed, Presumed, header_of_ending, MayName, Supports}
use Rattle.macro_expand.specs.Laws.{IsCutOff}
use Rattle.symbolic_expand.specs.declared.outcome.SymError.{SymError}
use Rattle.symbolic_expand.specs.declared.outcome.SymError.TheVariants.{Budget, Long, Presumed as PresumedNames, Memory}
use Rattle.symbolic_expand.specs.Texts.{text_inserted, all_inserted}
use Rattle.symbolic_expand.specs.parts.Enumeration.{Numbered}
use Rattle.symbolic_expand.specs.Found.{NothingRefuses}

-- the questions of computed tokens (6.10.2 p4)
abbrev pub computed : List Token → Asking Expanded
computed ts = expansion Text 0 choice_work_limit (map unmarked ts)

-- a run that isn't cut off, with the header that it names, the numbers that it took, and the names met before it and after it
pub record EndsWith (n : Numbered Expanded) (header : Option HeaderName) (taken : List (ℕ × ℕ)) (met now : List (List ℕ)) : Type 0 where
  pub names : header_of_ending header_named n.visit.ending ≡ header
  pub took : n.numbers ≡ taken
  pub meets : now ≡ all_inserted n.visit.met met
  pub whole : IsCutOff n.visit.ending → ⊥

-- why one run refuses all
abbrev pub RefusesRun : SymError → Numbered Expanded → Type 0
RefusesRun Budget n = ⊥
RefusesRun Long n = n.visit.ending ≡ Failed Work
RefusesRun PresumedNames n = n.visit.ending ≡ Presumed
RefusesRun Memory n = Unit {0}

-- what an error of expansion says of a run: nothing, where the run only names no header
abbrev pub refusal_of : RunError → Option SymError
refusal_of (CountError name line) = None
refusal_of (UnclosedError name line) = None
refusal_of (PasteError left right line) = None
refusal_of (DeepError line) = None
refusal_of WorkError = Some Long
refusal_of PresumedError = Some PresumedNames
refusal_of MemoryError = Some Memory

-- the next list of numbers as code keeps it
abbrev pub KeepsNext : Option (VecDeque ℕ Global) → Option (List ℕ) → Type 0
KeepsNext None o = o ≡ None
KeepsNext (Some q) o = o ≡ Some q.items

abbrev pub is_form : Bool → Bool → Bool
is_form true b = b
is_form false true = false
is_form false false = true

-- the texts with one more, where a run names a header of this form
abbrev pub with_header : Bool → Option HeaderName → List (List ℕ) → List (List ℕ)
with_header angle None texts = texts
with_header angle (Some h) texts = if is_form h.angle angle then text_inserted h.name texts else texts

abbrev pub header_at : Bool → List ℕ → HeaderName
header_at angle n = record { angle = angle; name = n }

-- The headers of all complete runs, those with quotes and those with angles, and the names met, where nothing refuses.
pub record FoundAll (budget : ℕ) (sets : Sets) (file : Option (List ℕ)) (ts : List Token) (quoted angled met : List (List ℕ)) : Type 0 where
  pub quoted_are : (n : List ℕ) → Contains quoted n ↔ MayName header_named sets file ts (header_at false n)
  pub angled_are : (n : List ℕ) → Contains angled n ↔ MayName header_named sets file ts (header_at true n)
  pub met_are : (n : List ℕ) → Contains met n ↔ Supports sets file ts n
  pub complete : NothingRefuses budget sets file ts
