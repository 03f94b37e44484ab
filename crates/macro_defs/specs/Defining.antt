-- What a `#define` line defines, or the first thing that is wrong with it (ISO C 6.10.3).
use Rattle.std.specs.Prelude.{◌≡◌, ℕ, Bool, true, false, not, ◌&&◌, ◌||◌, List, [], ◌∷◌, ◌++◌, map, if◌then◌else◌, Option, Some, None, Result, Ok, Err, codes, bytes_eq}
use Rattle.std.specs.List.{list_any}
use Rattle.pp_tokens.specs.declared.Token.{Token}
use Rattle.macro_defs.specs.declared.definition.Shape.{Shape}
use Rattle.macro_defs.specs.declared.definition.Shape.TheVariants.{Object, Function}
use Rattle.macro_defs.specs.declared.definition.DefineError.{DefineError}
use Rattle.macro_defs.specs.declared.definition.DefineError.TheVariants as error
use Rattle.pp_tokens.specs.Marks.{is_identifier, is_comma, is_open, is_close, is_ellipsis, is_hash, is_pasting}
use Rattle.macro_defs.specs.MacroDefinition.{MacroDefinition, without_line}

-- a name and its definition
pub record Named : Type 0 where
  pub name : List ℕ
  pub definition : MacroDefinition

-- the identifiers that name no macro of a program: `defined`, the names of the preprocessor's own, and that of a variable
-- argument (6.10.8 p4, 6.10.3 p5)
abbrev pub is_reserved_name : List ℕ → Bool
is_reserved_name name =
    list_any (bytes_eq name) (codes "defined" ∷ codes "__FILE__" ∷ codes "__LINE__" ∷ codes "__VA_ARGS__" ∷ codes "__has_include" ∷ [])

-- whether a token may name a macro, in `#define` and in `#undef`
abbrev pub names_macro : Token → Bool
names_macro t = is_identifier t && not (is_reserved_name t.text)

-- Parameters (6.10.3 p10).

-- the tokens before the first `)`, and those behind it; None where there is no `)`
pub record Enclosed : Type 0 where
  pub within : List Token
  pub rest : List Token

abbrev pub within_more : Token → Option Enclosed → Option Enclosed
within_more t None = None
within_more t (Some e) = Some (record e { within = t ∷ e.within })

unfoldable pub up_to_parenthesis : List Token → Option Enclosed
up_to_parenthesis [] = None
up_to_parenthesis (t ∷ ts) = if is_close t then Some (record { within = []; rest = ts }) else within_more t (up_to_parenthesis ts)

-- a token more at the front of the first piece
abbrev pub onto_first_piece : Token → List (List Token) → List (List Token)
onto_first_piece t [] = (t ∷ []) ∷ []
onto_first_piece t (piece ∷ pieces) = (t ∷ piece) ∷ pieces

-- the tokens, cut at each comma
unfoldable pub cut_at_commas : List Token → List (List Token)
cut_at_commas [] = [] ∷ []
cut_at_commas (t ∷ ts) = if is_comma t then [] ∷ cut_at_commas ts else onto_first_piece t (cut_at_commas ts)

-- The names of parameters in order. Where the macro is variadic, the last is that of its variable argument: `__VA_ARGS__`
-- for `...` (6.10.3 p12), or its own for `NAME...` (GNU).
pub record Parameters : Type 0 where
  pub names : List (List ℕ)
  pub variadic : Bool

abbrev pub only_named : Bool → List ℕ → Bool → Option Parameters
only_named true name variadic = Some (record { names = name ∷ []; variadic = variadic })
only_named false name variadic = None

-- the last piece: an identifier, `...`, or an identifier and `...`
abbrev pub last_parameter : List Token → Option Parameters
last_parameter [] = None
last_parameter (t ∷ []) =
    if is_ellipsis t then only_named true (codes "__VA_ARGS__") true else only_named (is_identifier t) t.text false
last_parameter (t ∷ u ∷ []) = only_named (is_identifier t && is_ellipsis u) t.text true
last_parameter (t ∷ u ∷ v ∷ ts) = None

-- a piece before the last: an identifier
abbrev pub before_parameters : List Token → Option Parameters → Option Parameters
before_parameters (t ∷ []) (Some more) = if is_identifier t then Some (record more { names = t.text ∷ more.names }) else None
before_parameters _ _ = None

unfoldable pub listed : List (List Token) → Option Parameters
listed [] = None
listed (piece ∷ []) = last_parameter piece
listed (piece ∷ next ∷ pieces) = before_parameters piece (listed (next ∷ pieces))

-- whether no name stands twice in the list, nor one of them before it
unfoldable pub are_distinct : List (List ℕ) → Bool
are_distinct [] = true
are_distinct (name ∷ names) = not (list_any (bytes_eq name) names) && are_distinct names

-- no parameter is written `__VA_ARGS__`, and none is repeated (6.10.3 p5, p6). The name of the variable argument of `...`
-- is the one that is given, not written.
abbrev pub is_written_reserved : Token → Bool
is_written_reserved t = bytes_eq t.text (codes "__VA_ARGS__")

abbrev pub where_distinct : Option Parameters → Option Parameters
where_distinct None = None
where_distinct (Some p) = if are_distinct p.names then Some p else None

-- the parameters that these tokens list
abbrev pub parameters_of : List Token → Option Parameters
parameters_of [] = Some (record { names = []; variadic = false })
parameters_of (t ∷ ts) =
    if list_any is_written_reserved (t ∷ ts) then None else where_distinct (listed (cut_at_commas (t ∷ ts)))

-- Replacement lists.

abbrev pub begins_with_pasting : List Token → Bool
begins_with_pasting [] = false
begins_with_pasting (t ∷ ts) = is_pasting t

unfoldable pub ends_with_pasting : List Token → Bool
ends_with_pasting [] = false
ends_with_pasting (t ∷ []) = is_pasting t
ends_with_pasting (t ∷ u ∷ ts) = ends_with_pasting (u ∷ ts)

-- whether a parameter stands first
abbrev pub begins_with_parameter : List (List ℕ) → List Token → Bool
begins_with_parameter names [] = false
begins_with_parameter names (t ∷ ts) = is_identifier t && list_any (bytes_eq t.text) names

-- whether a token is a `#`, and no parameter stands behind it
abbrev pub is_wrong_hash : List (List ℕ) → Token → List Token → Bool
is_wrong_hash names t ts = is_hash t && not (begins_with_parameter names ts)

-- whether a parameter follows each `#` (6.10.3.2 p1); a token right behind a `#` is its operand, or wrong
unfoldable pub hashes_parameters : List (List ℕ) → List Token → Bool
hashes_parameters names [] = true
hashes_parameters names (t ∷ ts) = (not (is_hash t) || begins_with_parameter names ts) && hashes_parameters names ts

abbrev pub definition_from : Shape → List Token → MacroDefinition
definition_from shape body = record { shape = shape; body = map without_line body }

abbrev pub with_body : List ℕ → Shape → Bool → List Token → Result Named DefineError
with_body name shape hashes body =
    if begins_with_pasting body || ends_with_pasting body then Err error.PasteEnd
    else (if hashes then Ok (record { name = name; definition = definition_from shape body }) else Err error.Hash)

-- a function-like macro, by its parameters and its replacement list
abbrev pub function_of : List ℕ → Option Parameters → List Token → Result Named DefineError
function_of name None body = Err error.Params
function_of name (Some p) body =
    with_body name (Function p.names p.variadic) (hashes_parameters p.names body) body

abbrev pub enclosed_of : List ℕ → Option Enclosed → Result Named DefineError
enclosed_of name None = Err error.Params
enclosed_of name (Some e) = function_of name (parameters_of e.within) e.rest

-- what follows the name: a `(` without white space before it begins parameters (6.10.3 p10)
abbrev pub after_name : List ℕ → List Token → Result Named DefineError
after_name name [] = with_body name Object true []
after_name name (t ∷ ts) =
    if is_open t && not t.space then enclosed_of name (up_to_parenthesis ts) else with_body name Object true (t ∷ ts)

-- What the tokens behind `#define` define, or the first error: of the name, the parameters, a `##` at an end, a `#` that no
-- parameter follows.
unfoldable pub defined_by : List Token → Result Named DefineError
defined_by [] = Err error.Name
defined_by (t ∷ ts) = if names_macro t then after_name t.text ts else Err error.Name

-- an error of code tells this reading; want of memory tells nothing
abbrev pub RefusesDefinition : DefineError → Result Named DefineError → Type 0
RefusesDefinition error.Memory r = Unit {0}
RefusesDefinition error.Name r = r ≡ Err error.Name
RefusesDefinition error.Params r = r ≡ Err error.Params
RefusesDefinition error.PasteEnd r = r ≡ Err error.PasteEnd
RefusesDefinition error.Hash r = r ≡ Err error.Hash

-- the same of parameters, which are wrong in one way only
abbrev pub RefusesParameters : DefineError → Option Parameters → Type 0
RefusesParameters error.Memory p = Unit {0}
RefusesParameters error.Params p = p ≡ None
RefusesParameters _ p = ⊥

-- the parameters, with these names before them
abbrev pub behind_names : List (List ℕ) → Option Parameters → Option Parameters
behind_names names None = None
behind_names names (Some p) = Some (record p { names = names ++ p.names })

-- A list of tokens, parted at the first one that passes a test: those before it and those behind it.
pub record IsParted (test : Token → Bool) (tokens before behind : List Token) : Type 0 where
  pub mark : Token
  pub whole : tokens ≡ before ++ mark ∷ behind
  pub passes : test mark ≡ true
  pub first : list_any test before ≡ false
