-- The list of the visits found, each once, in order.
use Rattle.std.specs.Prelude.{◌≡◌, ◌⊎◌, ℕ, ◌+◌, Bool, Option, None, Some, ◌&&◌, nat_eq, List, [], ◌∷◌, ◌++◌, cond, map, take}
use Rattle.std.specs.List.{list_any}
use Rattle.tree_model.specs.Paths.{is_same_path}
use Rattle.search_path.specs.Search.{Hit}
use Rattle.search_path.specs.declared.asking.Visit.{Visit}
use Rattle.search_path.specs.declared.asking.Ask.{Ask}
use Rattle.sheet_build.specs.Sheet.{SheetData}
use Rattle.search_path.specs.declared.asking.Found.{Found}
use Rattle.search_path.specs.declared.asking.Found.TheVariants.{Primary, Absolute, Here, Chain}

-- the ways to be found, numbered
abbrev pub found_number : Found → ℕ
found_number Primary = 0
found_number Absolute = 1
found_number Here = 2
found_number (Chain k) = k + 3

-- visits of one place that were found alike
abbrev pub is_found_alike : Visit → Visit → Bool
is_found_alike a b = is_same_path a.place b.place && nat_eq (found_number a.found) (found_number b.found)

-- a visit more, where it isn't there yet
abbrev pub with_visit : List Visit → Visit → List Visit
with_visit found visit = cond (list_any (is_found_alike visit) found) found (found ++ visit ∷ [])

unfoldable pub with_visits : List Visit → List Visit → List Visit
with_visits found [] = found
with_visits found (visit ∷ visits) = with_visits (with_visit found visit) visits

-- the visits of a front of some files were added
abbrev pub AddsSome : List Visit → List Hit → List Visit → Type 0
AddsSome old files new = (n : ℕ) × (new ≡ with_visits old (map (λ file. file.0) (take n files)))

-- a sheet was told, with the visits of a front of its plain includes, or nothing was
abbrev pub TellsSome : List (Visit × SheetData) → List Visit → Visit → SheetData → List (Visit × SheetData) → List Visit → Type 0
TellsSome sheets found visit sheet sheets_now found_now =
    ((sheets_now ≡ sheets) × (found_now ≡ found)) ⊎ ((sheets_now ≡ sheets ++ (visit, sheet) ∷ []) × AddsSome found sheet.plain found_now)

-- the visit of a file that a search found, where it is one
abbrev pub visit_in : Bool → Option Hit → Option Visit
visit_in include None = None
visit_in include (Some hit) = cond include (Some hit.0) None

abbrev pub with_found : List Visit → Option Visit → List Visit
with_found found None = found
with_found found (Some visit) = with_visit found visit

abbrev pub with_hit : Bool → List Visit → Option Hit → List Visit
with_hit include found got = with_found found (visit_in include got)

-- an answer was told, or nothing was, and no visit was added
abbrev pub TellsNoVisit : List (Ask × Option Hit) → List Visit → Ask → Option Hit → List (Ask × Option Hit) → List Visit → Type 0
TellsNoVisit searches found ask got searches_now found_now =
    (found_now ≡ found) × ((searches_now ≡ searches) ⊎ (searches_now ≡ searches ++ (ask, got) ∷ []))
