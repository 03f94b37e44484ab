-- Which argument a token of a replacement list stands for (6.10.3.1 p1).
use Rattle.std.specs.Prelude.{ℕ, List, [], Option, None, if◌then◌else◌, bytes_eq, slice_get, position}
use Rattle.std.specs.Option.{option_and_then}
use Rattle.pp_tokens.specs.declared.Token.{Token}
use Rattle.pp_tokens.specs.Marks.{is_identifier}
use Rattle.macro_defs.specs.declared.definition.Shape.{Shape}
use Rattle.macro_defs.specs.declared.definition.Shape.TheVariants.{Object, Function}
use Rattle.macro_defs.specs.MacroDefinition.{MacroDefinition}

-- the argument that a token names
abbrev pub argument_named : List (List ℕ) → Token → Option ℕ
argument_named names t = if is_identifier t then position (bytes_eq t.text) names else None

-- the names of the parameters; an object-like macro has none
abbrev pub parameters_in : Shape → List (List ℕ)
parameters_in Object = []
parameters_in (Function params variadic) = params

-- the number of the parameter that the token at a place of the replacement list names
abbrev pub parameter_at : MacroDefinition → ℕ → Option ℕ
parameter_at d place = option_and_then (argument_named (parameters_in d.shape)) (slice_get d.body place)
