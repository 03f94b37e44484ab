-- What is wanted next: of one search, and of those for some headers.
use Rattle.std.specs.Prelude.{◌≡◌, Bool, true, List, Option, None, Some}
use Rattle.base_types.specs.Members.{Member}
use Rattle.directive_scan.specs.declared.HeaderName.{HeaderName}
use Rattle.tree_model.specs.Paths.{Text}
use Rattle.search_path.specs.Asks.{forced_ask}
use Rattle.search_path.specs.Search.{Hit}
use Rattle.search_path.specs.declared.asking.Visit.{Visit}
use Rattle.search_path.specs.declared.asking.Ask.{Ask}
use Rattle.search_path.specs.declared.asking.Form.{Form}
use Rattle.closure_fixpoint.specs.declared.wanting.Want.{Want}
use Rattle.closure_fixpoint.specs.declared.wanting.Want.TheVariants as want
use Rattle.closure_fixpoint.specs.Closure.{with_angle}
use Rattle.closure_fixpoint.specs.Progress.{SearchIsMade}
use Rattle.closure_fixpoint.specs.Asked.{HasNoAnswer}

-- a name that expanded tokens gave, as a visited file asks for it
abbrev pub named_ask : Visit → Form → HeaderName → Ask
named_ask visit form header = record { form = with_angle form header.angle; from = Some visit; name = header.name }

-- a visit that a search found, which is one and wasn't found so far
pub record IsNewVisit (found : List Visit) (include : Bool) (got : Option Hit) (visit : Visit) : Type 0 where
  pub is_include : include ≡ true
  pub hit : Hit
  pub is_got : got ≡ Some hit
  pub is_visit : hit.0 ≡ visit
  pub new : Member visit found → ⊥

-- the visit of a file is wanted, or it was found
abbrev pub WantsOfFile : List Visit → Hit → Option Want → Type 0
WantsOfFile found hit None = Member hit.0 found
WantsOfFile found hit (Some (want.Visit visit)) = (visit ≡ hit.0) × (Member hit.0 found → ⊥)
WantsOfFile found hit (Some (want.Search ask more)) = ⊥

-- the visit of what a search found is wanted, or nothing is
abbrev pub WantsOfHit : List Visit → Bool → Option Hit → Option Want → Type 0
WantsOfHit found include got None = (hit : Hit) → got ≡ Some hit → include ≡ true → Member hit.0 found
WantsOfHit found include got (Some (want.Visit visit)) = IsNewVisit found include got visit
WantsOfHit found include got (Some (want.Search ask more)) = ⊥

-- a search is wanted, or the visit of what it found; or it was made
abbrev pub WantsOfAsk : List (Ask × Option Hit) → List Visit → Ask → Bool → Option Want → Type 0
WantsOfAsk searches found ask include None = SearchIsMade searches found ask include
WantsOfAsk searches found ask include (Some (want.Search a more)) = (a ≡ ask) × (more ≡ include) × HasNoAnswer searches ask
WantsOfAsk searches found ask include (Some (want.Visit visit)) = (got : Option Hit) × Member (ask, got) searches × IsNewVisit found include got visit

-- something is wanted for one of the headers, or all their searches were made
abbrev pub WantsOfHeaders : List (Ask × Option Hit) → List Visit → Visit → Form → Bool → List HeaderName → Option Want → Type 0
WantsOfHeaders searches found visit form include headers None =
    (header : HeaderName) → Member header headers → SearchIsMade searches found (named_ask visit form header) include
WantsOfHeaders searches found visit form include headers (Some want) =
    (header : HeaderName) × Member header headers × WantsOfAsk searches found (named_ask visit form header) include (Some want)

-- all searches of some headers were made
abbrev pub AllMade : List (Ask × Option Hit) → List Visit → Visit → Form → Bool → List HeaderName → Type 0
AllMade searches found visit form include headers =
    (header : HeaderName) → Member header headers → SearchIsMade searches found (named_ask visit form header) include

-- something is wanted of one of some asks, or all were made
abbrev pub WantsOfEach : List (Ask × Option Hit) → List Visit → List Ask → Option Want → Type 0
WantsOfEach searches found asks None = (ask : Ask) → Member ask asks → SearchIsMade searches found ask true
WantsOfEach searches found asks (Some want) = (ask : Ask) × Member ask asks × WantsOfAsk searches found ask true (Some want)

-- all searches for files in front of the source were made
abbrev pub AllForced : List (Ask × Option Hit) → List Visit → List Text → Type 0
AllForced searches found names = (name : Text) → Member name names → SearchIsMade searches found (forced_ask name) true
