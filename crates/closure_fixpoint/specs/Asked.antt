-- Which searches were made.
use Rattle.std.specs.Prelude.{List, Option}
use Rattle.base_types.specs.Members.{Member}
use Rattle.search_path.specs.Search.{Hit}
use Rattle.search_path.specs.declared.asking.Ask.{Ask}

-- an ask was answered so
abbrev pub HasAnswer : List (Ask × Option Hit) → Ask → Option Hit → Type 0
HasAnswer searches ask got = Member (ask, got) searches

-- an ask has no answer
abbrev pub HasNoAnswer : List (Ask × Option Hit) → Ask → Type 0
HasNoAnswer searches ask = (got : Option Hit) → Member (ask, got) searches → ⊥
