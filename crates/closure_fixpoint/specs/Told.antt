-- What is asked for next, and what is told.
use Rattle.std.specs.Prelude.{◌≡◌, ◌⊎◌, All, ℕ, Bool, true, false, IsTrue, length, take, List, [], ◌++◌, Option, None, Some}
use Rattle.std.specs.List.{slice_get}
use Rattle.base_types.specs.Members.{Member, EachOnce}
use Rattle.tree_model.specs.Paths.{Path, IsAtOrAbove, IsCanonical}
use Rattle.tree_model.specs.declared.walk.Located.{Located}
use Rattle.search_path.specs.Search.{Hit}
use Rattle.search_path.specs.declared.asking.Visit.{Visit}
use Rattle.search_path.specs.declared.asking.Ask.{Ask}
use Rattle.job_words.specs.JobOf.{JobData}
use Rattle.sheet_build.specs.Sheet.{SheetData}
use Rattle.closure_fixpoint.specs.declared.job_analysis.Refusal.{Refusal}
use Rattle.closure_fixpoint.specs.declared.job_analysis.Refusal.TheVariants.{Large}
use Rattle.closure_fixpoint.specs.declared.fixpoint.Next.{Next}
use Rattle.closure_fixpoint.specs.declared.fixpoint.Next.TheVariants as next
use Rattle.closure_fixpoint.specs.Progress.{Heard, with_search, with_sheet, IsWanted, IsDue, FoundKeeps, located_told, DoneMeans, RefusedMeans, LargeMeans, IsNewSearch, IsNewSheet, IsEnough, IsAccepted, visits_told, PlainAreFound}
use Rattle.closure_fixpoint.specs.Gathering.{are_rising}
use Rattle.closure_fixpoint.specs.Asked.{HasNoAnswer}
use Rattle.closure_fixpoint.specs.Naming.{Follows}
use Rattle.closure_fixpoint.specs.declared.naming.Naming.{Naming}

-- what is asked for and wasn't answered yet; of a search, whether a file that it finds is a visit
pub data Pending : Type 0 where
  NothingAsked : Pending
  OfSearch : Ask → Bool → Pending
  OfSheet : Visit → Pending

-- how an analysis ended: nothing was left to ask, or it was refused
pub data Ended : Type 0 where
  Finished : Ended
  RefusedBy : Refusal → Ended

-- an analysis: its job and budget, what it was told, the visits found in order, what is asked for, how it ended if it did, and
-- whether memory was wanting
pub record Progress : Type 0 where
  pub job : JobData
  pub budget : ℕ
  pub heard : Heard
  pub found : List Visit
  pub pending : Pending
  pub ended : Option Ended
  pub broken : Bool

abbrev pub IsBegun : JobData → ℕ → Progress → Type 0
IsBegun job budget p = p ≡ record { job = job; budget = budget; heard = record { searches = []; sheets = []; large = None }; found = []; pending = NothingAsked; ended = None; broken = false }

-- just the nodes of some located files, without the root, each once
pub record AreNodesOf (files : List Located) (nodes : List Path) : Type 0 where
  pub once : EachOnce nodes
  pub whole : (l : Located) (met path : Path) → Member l files → Member met l.walked → IsAtOrAbove path met → (path ≡ [] → ⊥) → Member path nodes
  pub only : (path : Path) → Member path nodes → (l : Located) × (met : Path) × Member l files × Member met l.walked × IsAtOrAbove path met × (path ≡ [] → ⊥)

-- the answer that a search or a sheet is wanted: a new one, of which the analysis keeps that it was asked for
abbrev pub AsksSearch : Progress → Ask → Progress → Type 0
AsksSearch old ask new = IsNewSearch old.job old.heard ask × ((include : Bool) × (new ≡ record old { pending = OfSearch ask include }))

-- sheets are asked for in the order in which visits were found
abbrev pub AsksSheet : Progress → Visit → Progress → Type 0
AsksSheet old visit new =
    IsNewSheet old.job old.heard visit
    × ((more : List Visit) × (slice_get (old.found ++ more) (length old.heard.sheets) ≡ Some visit) × (new ≡ record old { found = old.found ++ more; pending = OfSheet visit }))

-- the answer that it is done: the visits found, and the nodes of all searches that succeeded, in order of their spellings; it stays so
pub record IsDone (old : Progress) (visits : List Visit) (nodes : List Path) (new : Progress) : Type 0 where
  pub means : DoneMeans old.job old.budget old.heard visits
  pub all : visits ≡ old.found
  pub told : visits ≡ visits_told old.heard
  pub nodes_are : AreNodesOf (located_told old.heard) nodes
  pub rising : IsTrue (are_rising nodes)
  pub canonical : All IsCanonical nodes
  pub stays : new ≡ record old { pending = NothingAsked; ended = Some Finished }

-- what a refusal means: a file of every closed list is too large, or it is met at every closed list
abbrev pub RefusalMeans : JobData → ℕ → Heard → Refusal → Type 0
RefusalMeans job budget heard Large = LargeMeans job heard
RefusalMeans job budget heard refusal = RefusedMeans job budget heard refusal

-- the answer that it is refused, which it keeps
abbrev pub IsRefused : Progress → Refusal → Progress → Type 0
IsRefused old refusal new = RefusalMeans old.job old.budget old.heard refusal × (new ≡ record old { pending = NothingAsked; ended = Some (RefusedBy refusal) })

-- want of memory: the analysis stays without it
abbrev pub HasNoMemory : Progress → Type 0
HasNoMemory new = new.broken ≡ true

-- what an answer of `next` means
abbrev pub NextMeans : Progress → Next → Progress → Type 0
NextMeans old (next.Search ask) new = AsksSearch old ask new
NextMeans old (next.Sheet visit) new = AsksSheet old visit new
NextMeans old (next.Done closure) new = IsDone old closure.visits closure.nodes new
NextMeans old (next.Refused refusal) new = IsRefused old refusal new
NextMeans old next.Memory new = HasNoMemory new

-- what is answered after the end: the same, or that memory is wanting; a refusal is the same always
abbrev pub SaysAfterEnd : Ended → Next → Type 0
SaysAfterEnd Finished (next.Done closure) = Unit {0}
SaysAfterEnd Finished next.Memory = Unit {0}
SaysAfterEnd Finished _ = ⊥
SaysAfterEnd (RefusedBy refusal) answer = answer ≡ next.Refused refusal

-- what is answered where a file was too large
abbrev pub SaysLarge : Next → Type 0
SaysLarge answer = (answer ≡ next.Refused Large) ⊎ (answer ≡ next.Memory)

-- the job and its budget stay
pub record StaysOf (old new : Progress) : Type 0 where
  pub job : new.job ≡ old.job
  pub budget : new.budget ≡ old.budget

-- an answer to the search that was asked for is told, and nothing else of what was told changes
abbrev pub PutsSearch : Progress → Ask → Option Hit → Progress → Type 0
PutsSearch old ask got new =
    (new.heard ≡ with_search old.heard ask got) × (new.pending ≡ NothingAsked) × StaysOf old new

-- a sheet of the visit that was asked for
abbrev pub PutsSheet : Progress → Visit → SheetData → Progress → Type 0
PutsSheet old visit sheet new =
    (new.heard ≡ with_sheet old.heard visit sheet) × (new.pending ≡ NothingAsked) × StaysOf old new

-- that its file is too large
abbrev pub PutsLarge : Progress → Visit → Progress → Type 0
PutsLarge old visit new = (new.heard ≡ record old.heard { large = Some visit }) × (new.pending ≡ NothingAsked) × StaysOf old new

-- what is asked for is wanted: a search that is, whose file is due if it is a visit; or the sheet of the first visit found whose sheet
-- wasn't told
abbrev pub IsRight : JobData → Heard → List Visit → Pending → Type 0
IsRight job heard found NothingAsked = Unit {0}
IsRight job heard found (OfSearch ask include) =
    IsWanted job heard ask × ((hit : Hit) → include ≡ true → IsDue job (with_search heard ask (Some hit)) hit.0) × HasNoAnswer heard.searches ask
IsRight job heard found (OfSheet visit) = Member visit found × (heard.large ≡ None) × (slice_get found (length heard.sheets) ≡ Some visit)

-- each told sheet is that of a visit found, in order; a visit whose file is too large was found; after the end nothing is left to ask
-- and no refusal is met, or the refusal holds, which is the one for a too large file where there is one, and nothing is asked for; each
-- told sheet's plain includes were found
pub record ProgressStands (p : Progress) : Type 0 where
  pub keeps : FoundKeeps p.job p.heard p.found
  pub right : IsRight p.job p.heard p.found p.pending
  pub in_order : p.broken ≡ false → visits_told p.heard ≡ take (length p.heard.sheets) p.found
  pub plain : p.broken ≡ false → PlainAreFound p.heard p.found
  pub large : (visit : Visit) → p.heard.large ≡ Some visit → Member visit p.found
  pub finished : p.ended ≡ Some Finished → IsEnough p.job p.heard p.found × IsAccepted p.job p.budget p.heard p.found
  pub refused : (refusal : Refusal) → p.ended ≡ Some (RefusedBy refusal) → RefusalMeans p.job p.budget p.heard refusal
  pub too_large : (visit : Visit) (refusal : Refusal) → p.heard.large ≡ Some visit → p.ended ≡ Some (RefusedBy refusal) → refusal ≡ Large
  pub quiet : (ended : Ended) → p.ended ≡ Some ended → p.pending ≡ NothingAsked

-- the same, with what is kept of the definitions that were told
pub record StandsBy (naming : Naming) (p : Progress) : Type 0 where
  pub stands : ProgressStands p
  pub follows : p.broken ≡ false → Follows naming p.job p.heard.sheets
