-- One token of a replacement as it is put in for a name (6.10.3.4).
use Rattle.std.specs.Prelude.{◌≡◌, ℕ, ◌||◌, Bool, List, [], ◌∷◌, map, Option, Some, None}
use Rattle.pp_tokens.specs.declared.Token.{Token}
use Rattle.macro_expand.specs.declared.marked.Marked.{Marked as Kept}
use Rattle.macro_expand.specs.declared.placing.United.{United}
use Rattle.macro_expand.specs.Sets.{names_in}
use Rattle.macro_expand.specs.Replacement.{Marked, Names, all_names}

-- a token on this line, with the names that the replacement hides
abbrev pub placed : ℕ → Names → Marked → Marked
placed line hidden m = record { token = record m.token { line = line }; hidden = all_names m.hidden hidden }

-- a hide set has the names of two others
abbrev pub HasNamesOfBoth : List (List ℕ) → List (List ℕ) → List (List ℕ) → Type 0
HasNamesOfBoth all own hidden = (n : List ℕ) → names_in all n ≡ (names_in own n || names_in hidden n)

-- what is kept of the last token's names is right
abbrev pub KnowsUnion : List (List ℕ) → Option United → Type 0
KnowsUnion hidden None = Unit {0}
KnowsUnion hidden (Some u) = HasNamesOfBoth u.all u.own hidden

-- a token of a replacement list that stands for itself, as it is put in on this line
abbrev pub lent_at : ℕ → List (List ℕ) → ℕ → Token → Kept
lent_at line hidden stamp u = record { token = record u { line = line }; hidden = hidden; stamp = stamp }

-- the same token with this space
abbrev pub with_space_of : Bool → Kept → Kept
with_space_of space m = record { token = record m.token { space = space }; hidden = m.hidden; stamp = m.stamp }

-- the tokens of such a list as they are put in for a name
abbrev pub lent_in : Token → List (List ℕ) → ℕ → List Token → List Kept
lent_in t hidden stamp [] = []
lent_in t hidden stamp (u ∷ us) = with_space_of t.space (lent_at t.line hidden stamp u) ∷ map (lent_at t.line hidden stamp) us
