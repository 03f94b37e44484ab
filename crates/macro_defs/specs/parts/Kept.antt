-- What a definition keeps of its form and its replacement list.
use Rattle.std.specs.Prelude.{◌≡◌, ◌-◌, ℕ, Bool, List, [], ◌∷◌, false, map, take, drop, Option, Some, None, Box}
use Rattle.std.specs.Arc.{arc_value}
use Rattle.std.specs.Box.{box_value}
use Rattle.std.specs.List.{list_any}
use Rattle.pp_tokens.specs.declared.token.Token.{Token}
use Rattle.pp_tokens.specs.Lines.{all_tokens}
use Rattle.pp_tokens.specs.Marks.{is_pasting}
use Rattle.pp_tokens.specs.Tokens.{rest_of}
use Rattle.macro_defs.specs.MacroDefinition.{without_line, has_operators}
use Rattle.macro_defs.specs.Defining.{after_name, function_of}
use Rattle.macro_defs.specs.declared.definition.Function.{Function}
use Rattle.macro_defs.specs.declared.definition.Shape.{Shape}
use Rattle.macro_defs.specs.declared.definition.Shape.TheVariants.{Object}
use Rattle.macro_defs.specs.declared.body.Body.{Body}
use Rattle.macro_defs.specs.declared.body.Body.TheVariants as body
use Rattle.macro_defs.specs.declared.run.Run.{Run}
use Rattle.macro_defs.specs.declared.run.Run.TheVariants as run

-- the tokens of a replacement list, wherever they are
abbrev pub body_tokens : Body → List Token
body_tokens (body.Listed tokens) = tokens
body_tokens (body.One token) = token ∷ []
body_tokens (body.Shared file from end) = take (end - from) (drop from (all_tokens (arc_value file)))

-- the form, which is kept of a function-like macro alone
abbrev pub shape_kept : {A : Type 0} → Option (Box Function A) → Shape
shape_kept None = Object
shape_kept (Some function) = (box_value function).shape

-- the numbers of the parameters that the tokens name
abbrev pub numbers_of : {A : Type 0} → Option (Box Function A) → List (Option ℕ)
numbers_of None = []
numbers_of (Some function) = (box_value function).named.items

-- whether a function-like macro's tokens have a `#` or a `##`
abbrev pub operators_of : {A : Type 0} → Option (Box Function A) → Bool
operators_of None = false
operators_of (Some function) = (box_value function).operators

-- a replacement list that has no `##`, and that of a function-like macro no `#`
abbrev pub IsPlain : Shape → List Token → Type 0
IsPlain shape tokens = (has_operators shape (map without_line tokens) ≡ false) × (list_any is_pasting (map without_line tokens) ≡ false)

-- only such a replacement list is in a file
abbrev pub MayShare : Shape → Body → Type 0
MayShare shape (body.Listed tokens) = Unit {0}
MayShare shape (body.One token) = Unit {0}
MayShare shape (body.Shared file from end) = IsPlain shape (take (end - from) (drop from (all_tokens (arc_value file))))

-- the same of a replacement list that is lent
abbrev pub SharesPlain : Shape → Run → Type 0
SharesPlain shape (run.Listed tokens) = Unit {0}
SharesPlain shape (run.Lexed tokens) = IsPlain shape (rest_of tokens)

-- Parameters stand first behind a name: what the name defines goes by them and by the tokens behind, and so many tokens stand before these.
abbrev pub ReadsParameters : List Token → List Token → List (List ℕ) → Bool → ℕ → Type 0
ReadsParameters tokens behind names variadic count =
    ((name : List ℕ) → after_name name tokens ≡ function_of name (Some (record { names = names; variadic = variadic })) behind) × (behind ≡ drop count tokens)
