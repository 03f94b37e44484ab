-- How the tokens of definitions are counted.
use Rattle.std.specs.Prelude.{◌≡◌, ℕ, Bool, false, not, ◌&&◌, List, length, drop, if◌then◌else◌, Option, None, Some}
use Rattle.std.specs.List.{list_any}
use Rattle.pp_tokens.specs.declared.Token.{Token}
use Rattle.pp_tokens.specs.Marks.{is_identifier, is_hash}
use Rattle.macro_defs.specs.Defining.{Named, up_to_parenthesis, is_written_reserved, begins_with_pasting, ends_with_pasting, enclosed_of, defined_by}
use Rattle.sheet_build.specs.Sheet.{accepted}

-- the tokens of a definition
abbrev pub body_tokens : Option Named → ℕ
body_tokens None = 0
body_tokens (Some named) = length named.definition.body

-- those of the definition that the tokens behind `#define` give, none where it is refused
abbrev pub defined_tokens : List Token → ℕ
defined_tokens ts = body_tokens (accepted (defined_by ts))

-- those of an object-like macro with this replacement list (6.10.3.3 p1)
abbrev pub object_tokens : List Token → ℕ
object_tokens body = if begins_with_pasting body then 0 else (if ends_with_pasting body then 0 else length body)

-- those of a function-like macro with this name, by the tokens behind its `(`
abbrev pub enclosed_tokens : List ℕ → List Token → ℕ
enclosed_tokens name ts = body_tokens (accepted (enclosed_of name (up_to_parenthesis ts)))

-- an identifier that may be the name of a parameter, as it is written (6.10.3 p5)
abbrev pub is_parameter : Token → Bool
is_parameter t = is_identifier t && not (is_written_reserved t)

-- So many tokens behind the `(` list parameters, and the others are the replacement list. Where no `#` stands there, it is as that of an
-- object-like macro.
abbrev pub IsListed : ℕ → List Token → Type 0
IsListed n ts = (name : List ℕ) → list_any is_hash (drop n ts) ≡ false → enclosed_tokens name ts ≡ object_tokens (drop n ts)
