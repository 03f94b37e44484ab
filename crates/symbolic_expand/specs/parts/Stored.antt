-- How sets of definitions are kept.
use Rattle.std.specs.Prelude.{◌≡◌, ℕ, Bool, true, false, take, Option, List, [], ◌∷◌, ◌++◌, map, bytes_eq, if◌then◌else◌, Vec}
use Rattle.std.specs.declared.alloc.Global.{Global}
use Rattle.std.specs.List.{list_any}
use Rattle.std.specs.Option.{option_to_list}
use Rattle.macro_defs.specs.MacroDefinition.{MacroDefinition}
use Rattle.macro_defs.specs.Table.{TableEntries, names_ever_defined, lookup}
use Rattle.symbolic_expand.specs.Defined.{Defined, sets_of}

-- the sets with one definition more, which goes behind those of its name
abbrev pub with_more : Defined → List ℕ → MacroDefinition → Defined
with_more [] name d = (name, d ∷ []) ∷ []
with_more (e ∷ es) name d = if bytes_eq name e.0 then (e.0, e.1 ++ d ∷ []) ∷ es else e ∷ with_more es name d

-- how a map of names is seen
abbrev pub seen : List (Vec ℕ Global × Vec MacroDefinition Global) → Defined
seen entries = map (λ e. (e.0.items, e.1.items)) entries

-- the definition, where it counts
abbrev pub one_where : Bool → Option MacroDefinition → List MacroDefinition
one_where true d = option_to_list d
one_where false d = []

-- of the names before a place of a table each has the definition that it has there, and no other name has one
abbrev pub HasBefore : TableEntries → ℕ → Defined → Type 0
HasBefore table place sets =
    (name : List ℕ) → sets_of sets name ≡ one_where (list_any (bytes_eq name) (take place (names_ever_defined table))) (lookup table name)
