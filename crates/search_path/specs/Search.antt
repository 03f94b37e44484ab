-- The search for a source, a forced file or an included file. ISO C 6.10.2 leaves the places to the implementation; these are
-- GCC's: the directory of the file that asks, then the chain, which is the directories of quoted names and then those of all.
use Rattle.std.specs.Prelude.{ℕ, ◌+◌, List, [], ◌∷◌, ◌++◌, length, drop, map, Option, Some, None, cond, IsSome}
use Rattle.std.specs.List.{enumerate_from}
use Rattle.base_types.specs.Ascii.{slash}
use Rattle.tree_model.specs.Paths.{Text, Path, parent}
use Rattle.tree_model.specs.Trees.{FileTree}
use Rattle.tree_model.specs.Walk.{is_absolute, locate}
use Rattle.tree_model.specs.declared.walk.Located.{Located}
use Rattle.search_path.specs.SetupOf.{SetupData, absolute}
use Rattle.search_path.specs.declared.asking.Found.{Found}
use Rattle.search_path.specs.declared.asking.Found.TheVariants.{Primary, Absolute, Here, Chain}
use Rattle.search_path.specs.declared.asking.Visit.{Visit}
use Rattle.search_path.specs.declared.asking.Form.{Form}
use Rattle.search_path.specs.declared.asking.Form.TheVariants.{Source, Forced, Quote, Angle, NextQuote, NextAngle}
use Rattle.search_path.specs.declared.asking.Ask.{Ask}

-- a text to locate from a directory, and how a file that it locates was found
pub record Candidate : Type 0 where
  pub found : Found
  pub dir : Path
  pub text : Text

abbrev pub from_root : Found → Text → Candidate
from_root found text = record { found = found; dir = []; text = text }

-- a name below a directory of the chain
abbrev pub in_directory : SetupData → Text → ℕ × Text → Candidate
in_directory setup name entry = from_root (Chain entry.0) (absolute setup.cwd entry.1 ++ slash ∷ name)

-- the candidates of a name in the chain's directories from the k-th on
abbrev pub chain_from : SetupData → ℕ → Text → List Candidate
chain_from setup k name = map (in_directory setup name) (drop k (enumerate_from 0 (setup.quote ++ setup.bracket)))

-- the candidate beside the file that asks
abbrev pub beside : Visit → Text → Candidate
beside from name = record { found = Here; dir = parent from.place; text = name }

abbrev pub quote_candidates : SetupData → Visit → Text → List Candidate
quote_candidates setup from name = beside from name ∷ chain_from setup 0 name

abbrev pub angle_candidates : SetupData → Text → List Candidate
angle_candidates setup name = chain_from setup (length setup.quote) name

-- `#include_next` goes on behind the place where its own file was found; `whole` is the list of the include without `_next`
abbrev pub next_candidates : SetupData → Found → Text → List Candidate → List Candidate
next_candidates setup Primary name whole = whole
next_candidates setup Absolute name whole = whole
next_candidates setup Here name whole = chain_from setup 0 name
next_candidates setup (Chain k) name whole = chain_from setup (k + 1) name

-- what the file that asks gives; the forms of an include have one
abbrev pub of_visit : Option Visit → (Visit → List Candidate) → List Candidate
of_visit None candidates = []
of_visit (Some visit) candidates = candidates visit

-- the candidates of a name that doesn't begin with `/`
abbrev pub relative_candidates : SetupData → Form → Option Visit → Text → List Candidate
relative_candidates setup Source from name = from_root Primary (absolute setup.cwd name) ∷ []
relative_candidates setup Forced from name = from_root Here (absolute setup.cwd name) ∷ chain_from setup 0 name
relative_candidates setup Quote from name = of_visit from (λ visit. quote_candidates setup visit name)
relative_candidates setup Angle from name = angle_candidates setup name
relative_candidates setup NextQuote from name = of_visit from (λ visit. next_candidates setup visit.found name (quote_candidates setup visit name))
relative_candidates setup NextAngle from name = of_visit from (λ visit. next_candidates setup visit.found name (angle_candidates setup name))

-- how a name that begins with `/` is found
abbrev pub found_absolute : Form → Found
found_absolute Source = Primary
found_absolute Forced = Absolute
found_absolute Quote = Absolute
found_absolute Angle = Absolute
found_absolute NextQuote = Absolute
found_absolute NextAngle = Absolute

-- the candidates in order; a name that begins with `/` is the only one
abbrev pub candidates : SetupData → Ask → List Candidate
candidates setup ask =
    cond (is_absolute ask.name)
    (from_root (found_absolute ask.form) ask.name ∷ [])
    (relative_candidates setup ask.form ask.from ask.name)

-- a file as it was found: the place with how it was found, and how it was located
abbrev pub Hit : Type 0
Hit = Visit × Located

abbrev pub hit_by : Found → Located → Hit
hit_by found located = (record { place = located.place; found = found }, located)

-- a candidate's file, or else a later one's
abbrev pub hit_or : Found → Option Located → Option Hit → Option Hit
hit_or found None later = later
hit_or found (Some located) later = Some (hit_by found located)

-- the first of the candidates that locates a file
abbrev pub first_located : FileTree → List Candidate → Option Hit
first_located tree [] = None
first_located tree (candidate ∷ rest) = hit_or candidate.found (locate tree candidate.dir candidate.text) (first_located tree rest)

unfoldable pub search : FileTree → SetupData → Ask → Option Hit
search tree setup ask = first_located tree (candidates setup ask)

-- the forms of an include want the file that asks
abbrev pub NeedsFrom : Form → Option Visit → Type 0
NeedsFrom Source from = Unit {0}
NeedsFrom Forced from = Unit {0}
NeedsFrom Quote from = IsSome from
NeedsFrom Angle from = IsSome from
NeedsFrom NextQuote from = IsSome from
NeedsFrom NextAngle from = IsSome from
