-- The spelling that a path keeps.
use Rattle.std.specs.Prelude.{◌≡◌, [], ◌∷◌, Option, Some, None}
use Rattle.std.specs.Arc.{arc_value}
use Rattle.std.specs.declared.sync.Arc.{Arc}
use Rattle.base_types.specs.Ascii.{slash}
use Rattle.tree_model.specs.Paths.{Text}

-- the spelling, which is `/` where none is kept
abbrev pub stored : {B : Type 0} → Option (Arc Text B) → Text
stored None = slash ∷ []
stored (Some spelling) = arc_value spelling

-- one that is kept is not `/`
abbrev pub IsBelowRoot : {B : Type 0} → Option (Arc Text B) → Type 0
IsBelowRoot None = Unit {0}
IsBelowRoot (Some spelling) = arc_value spelling ≡ slash ∷ [] → ⊥
