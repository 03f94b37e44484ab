-- What one token of a replacement list stands for (6.10.3.1 to 6.10.3.3), as code reads it.
use Rattle.std.specs.Prelude.{◌≡◌, ◌<◌, ◌+◌, ◌==◌, ℕ, Bool, true, false, ◌||◌, List, [], ◌∷◌, map, length, get_or, Option, Some, None, if◌then◌else◌}
use Rattle.pp_tokens.specs.declared.Token.{Token}
use Rattle.pp_tokens.specs.Marks.{Pasting, mark_of, is_hash}
use Rattle.macro_defs.specs.MacroDefinition.{MacroDefinition, without_line}
use Rattle.macro_defs.specs.Runs.{run_tokens}
use Rattle.macro_defs.specs.Arguments.{parameter_at}
use Rattle.macro_expand.specs.declared.replace.Parts.{Parts as KeptParts}
use Rattle.macro_expand.specs.declared.replace.Parts.TheVariants.{Listed, Tokens}
use Rattle.macro_expand.specs.declared.token_parts.TokenParts.{TokenParts}
use Rattle.macro_expand.specs.Replacement.{BodyPart, Plain, Argument, Spelling, Join, is_alone, is_join}
use Rattle.macro_expand.specs.Seen.{parts_seen}

-- a token that is no join, nor a `#` that begins a spelling
abbrev pub operand_part : Option Bool → Token → Option ℕ → BodyPart
operand_part hash t None = Plain t
operand_part (Some space) t (Some i) = Spelling i space
operand_part None t (Some i) = Argument i t.space

-- a token that is no `#`, by the argument that it names (6.10.3.2, 6.10.3.3); `hash` is the space of one that stands right before
abbrev pub body_part : Option Bool → Token → Option ℕ → BodyPart
body_part (Some space) t named = operand_part (Some space) t named
body_part None t named = elim (mark_of t) [ Pasting ↦ Join | _ ↦ operand_part None t named ]

-- whether a token is a `#` that no other stands right before (6.10.3.2)
abbrev pub begins_spelling : Option Bool → Token → Bool
begins_spelling None t = is_hash t
begins_spelling (Some space) t = false

-- a token of an object-like macro's list, where only `##` is special (6.10.3.3)
abbrev pub object_part : Token → BodyPart
object_part t = elim (mark_of t) [ Pasting ↦ Join | _ ↦ Plain t ]

-- the arguments that are known to stand alone, with one more: the argument that this part is, beside no `##` (6.10.3.1)
abbrev pub Marks : List Bool → List Bool → Bool → BodyPart → List BodyPart → Type 0
Marks old new joined p right =
    (length new ≡ length old)
    × ((i : ℕ) → i < length old →
    get_or new i false ≡ (get_or old i false || is_alone i (if joined then Some Join else None) p right))

-- whether a part takes an argument as it is written, or may do so to the part beside it (6.10.3.2, 6.10.3.3)
abbrev pub takes_written : BodyPart → Bool
takes_written (Plain t) = false
takes_written (Argument i space) = false
takes_written (Spelling i space) = true
takes_written Join = true

-- whether a part is a `##`
abbrev pub joins : BodyPart → Bool
joins p = is_join (Some p)

-- what tokens stand for that are a replacement list without `#` and `##` from this place on, by the definition (6.10.3.1)
abbrev pub parts_from : MacroDefinition → ℕ → List Token → List BodyPart
parts_from d place [] = []
parts_from d place (t ∷ ts) = operand_part None t (parameter_at d place) ∷ parts_from d (place + 1) ts

-- the parts of such a list
abbrev pub token_parts : TokenParts → List BodyPart
token_parts parts = parts_from parts.definition.now 0 (map without_line (run_tokens parts.tokens))

-- the parts of a replacement list that code keeps
abbrev pub parts_told : KeptParts → List BodyPart
parts_told (Listed parts) = parts_seen parts.items
parts_told (Tokens parts) = token_parts parts

-- whether a token that names this parameter, if any, stands for argument `i`
abbrev pub is_named : ℕ → Option ℕ → Bool
is_named i None = false
is_named i (Some j) = i == j

-- the arguments that are known to stand alone, with one more: that of the parameter that a token names
abbrev pub MarksNamed : List Bool → List Bool → Option ℕ → Type 0
MarksNamed old new named =
    (length new ≡ length old) × ((i : ℕ) → i < length old → get_or new i false ≡ (get_or old i false || is_named i named))
