-- What a macro definition means (ISO C 6.10.3).
use Rattle.std.specs.Prelude.{ℕ, List, Option, Some, None, Bool, false, ◌||◌}
use Rattle.std.specs.List.{list_any}
use Rattle.std.specs.Borrow.{Bor}
use Rattle.pp_tokens.specs.declared.Token.{Token}
use Rattle.pp_tokens.specs.Marks.{is_hash, is_pasting}
use Rattle.macro_defs.specs.declared.definition.Shape.{Shape}
use Rattle.macro_defs.specs.declared.definition.Shape.TheVariants.{Object, Function}

-- A definition as contracts see it. Its tokens stand on line 0: no line of a definition is ever read, since a replacement's
-- tokens take the line of the name. So two definitions are one where shape and the tokens' kinds, texts and spaces are (6.10.3 p1, p2).
pub record MacroDefinition : Type 0 where
  pub shape : Shape
  pub body : List Token

abbrev pub without_line : Token → Token
without_line t = record t { line = 0 }

-- whether a token is a `#` or a `##` (6.10.3.2, 6.10.3.3)
abbrev pub is_operator : Token → Bool
is_operator t = is_hash t || is_pasting t

-- whether the replacement list of a function-like macro has a `#` or a `##`
abbrev pub has_operators : Shape → List Token → Bool
has_operators Object body = false
has_operators (Function params variadic) body = list_any is_operator body

-- the form of a macro with these parameters, or with none
abbrev pub shape_lent : Option (Bor (List (List ℕ)) × Bool) → Shape
shape_lent None = Object
shape_lent (Some params) = Function params.0.now params.1
