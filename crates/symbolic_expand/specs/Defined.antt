-- The distinct definitions of each name.
use Rattle.std.specs.Prelude.{◌≡◌, ℕ, Bool, true, false, List, [], ◌∷◌, ◌++◌, Contains, bytes_eq, if◌then◌else◌}
use Rattle.macro_defs.specs.MacroDefinition.{MacroDefinition}
use Rattle.macro_expand.specs.Choice.{Sets}

-- Definition sets as contracts see them: each name that has definitions, in the order in which they came, and those of each
-- in the order in which they were added.
abbrev pub Defined : Type 0
Defined = List (List ℕ × List MacroDefinition)

-- the definitions of a name
unfoldable pub sets_of : Defined → Sets
sets_of [] name = []
sets_of (e ∷ es) name = if bytes_eq name e.0 then e.1 else sets_of es name

-- what an addition does: a definition that its name lacks goes behind the name's others, and all other names keep theirs;
-- one that the name has changes nothing
abbrev pub AddsDefinition : Defined → List ℕ → MacroDefinition → Bool → Defined → Type 0
AddsDefinition old name d true new = (Contains (sets_of old name) d → ⊥)
    × ((n : List ℕ) → sets_of new n ≡ (if bytes_eq name n then sets_of old n ++ d ∷ [] else sets_of old n))
AddsDefinition old name d false new = Contains (sets_of old name) d × (new ≡ old)
