-- Macro expansion of a whole list of tokens (6.10.3): Prosser's recursion, as a tree of questions.
use Rattle.std.specs.Prelude.{ℕ, zero, suc, ◌+◌, ◌-◌, Bool, true, false, not, ◌&&◌, List, [], ◌∷◌, ◌++◌, length, nat_lt, if◌then◌else◌, Option, Some, None, Result, Ok, Err, codes, ℤ, pos, ◌+ℤ◌}
use Rattle.std.specs.Fmt.{signed_decimal}
use Rattle.base_types.specs.Limits.{argument_depth_limit}
use Rattle.base_types.specs.Ascii as ascii
use Rattle.pp_tokens.specs.declared.Kind.{Kind}
use Rattle.pp_tokens.specs.declared.Kind.TheVariants.{Str, Number}
use Rattle.pp_tokens.specs.declared.Token.{Token}
use Rattle.macro_defs.specs.declared.definition.Shape.{Shape}
use Rattle.macro_defs.specs.declared.definition.Shape.TheVariants.{Object, Function}
use Rattle.macro_defs.specs.MacroDefinition.{MacroDefinition}
use Rattle.macro_expand.specs.declared.outcome.Mode.{Mode}
use Rattle.macro_expand.specs.declared.outcome.Mode.TheVariants.{Text, Condition}
use Rattle.macro_expand.specs.declared.marked.Role.{Role}
use Rattle.macro_expand.specs.declared.marked.Role.TheVariants.{Defined, FileName, LineNumber, Name, Ordinary}
use Rattle.pp_tokens.specs.Marks.{is_identifier, is_open, is_close, is_word}
use Rattle.macro_expand.specs.Asking.{Failure, Count, Unclosed, Deep, Work, Asking, give, fail, ask_definition, ask_file, ask_line, then_with}
use Rattle.macro_expand.specs.Replacement.{with_name, common_names, Marked, Call, call_in, after_open, arguments_of, BodyPart, body_parts, object_parts, stands_alone, replacement}

-- Expanded tokens, and the units of work left.
pub record Expanded : Type 0 where
  pub tokens : List Marked
  pub units : ℕ

-- The same for a list of arguments.
pub record ExpandedEach : Type 0 where
  pub lists : List (List Marked)
  pub units : ℕ

-- A way to expand a list of tokens: the depth of arguments, the units of work, the tokens.
abbrev pub Expander : Type 0
Expander = ℕ → ℕ → List Marked → Asking Expanded

-- the tokens, put out before what the rest becomes
unfoldable pub put_out : List Marked → Asking Expanded → Asking Expanded
put_out ts rest = then_with rest (λ e. give (record e { tokens = ts ++ e.tokens }))

-- the variable argument's number, where a macro has one
abbrev pub variable_of : List (List ℕ) → Bool → Option ℕ
variable_of params variadic = if variadic then Some (length params - 1) else None

-- what a call is replaced by: its name hides what both the name and the `)` hide, and itself (6.10.3.4)
unfoldable pub call_replacement : Marked → List BodyPart → Option ℕ → Call → List (List Marked) → List (List Marked) →
    Result (List Marked) Failure
call_replacement t parts variable call written expanded =
    replacement t.token (with_name t.token.text (common_names t.hidden call.close.hidden)) parts
    (record { written = written; expanded = expanded; variable = variable })

-- what the name of an object-like macro is replaced by
unfoldable pub object_replacement : Marked → List Token → Result (List Marked) Failure
object_replacement t body =
    replacement t.token (with_name t.token.text t.hidden) (object_parts body)
    (record { written = []; expanded = []; variable = None })

-- a token in the place of another, with its line, space and hide set
abbrev pub replaced_token : Marked → Kind → List ℕ → Marked
replaced_token t kind text = record t { token = record t.token { kind = kind; text = text } }

-- a text between quotes
abbrev pub in_quotes : List ℕ → List ℕ
in_quotes text = ascii.quote ∷ text ++ ascii.quote ∷ []

-- What becomes of a token, over a way to expand what comes of it.
module _ (self : Expander) (depth : ℕ) where
  -- to go on, where the work could be paid
  unfoldable pub go_on : Bool → ℕ → List Marked → Asking Expanded
  go_on true units ts = self depth units ts
  go_on false units ts = fail Work

  -- to go on with a replacement, which costs one unit and one for each token that it puts in, or its error
  unfoldable pub charged : ℕ → Result (List Marked) Failure → List Marked → Asking Expanded
  charged units (Ok ts) rest = go_on (nat_lt (length ts) units) (units - suc (length ts)) (ts ++ rest)
  charged units (Err e) rest = fail e

  -- one argument, expanded by itself where its parameter stands alone and arguments aren't too deep
  unfoldable pub argument_expanded : Bool → Bool → Token → ℕ → List Marked → Asking Expanded
  argument_expanded false shallow t units a = give (record { tokens = []; units = units })
  argument_expanded true true t units a = self (suc depth) units a
  argument_expanded true false t units a = fail (Deep t.line)

  -- the arguments of a call of `t`, from number `i` on, from left to right (6.10.3.1)
  unfoldable pub arguments_expanded : Token → List BodyPart → ℕ → ℕ → List (List Marked) → Asking ExpandedEach
  arguments_expanded t parts i units [] = give (record { lists = []; units = units })
  arguments_expanded t parts i units (a ∷ rest) =
      then_with (argument_expanded (stands_alone i None parts) (nat_lt depth argument_depth_limit) t units a) (λ e.
      then_with (arguments_expanded t parts (suc i) e.units rest) (λ more.
      give (record { lists = e.tokens ∷ more.lists; units = more.units })))

  -- a call whose arguments were counted
  unfoldable pub counted : ℕ → Marked → List BodyPart → Option ℕ → Call → Option (List (List Marked)) → Asking Expanded
  counted units t parts variable call None = fail (Count t.token.text t.token.line)
  counted units t parts variable call (Some written) =
      then_with (arguments_expanded t.token parts 0 units written) (λ e.
      charged e.units (call_replacement t parts variable call written e.lists) call.after)

  -- a call that was read
  unfoldable pub called : ℕ → Marked → List (List ℕ) → Bool → List Token → Option Call → Asking Expanded
  called units t params variadic body None = fail (Unclosed t.token.text t.token.line)
  called units t params variadic body (Some call) =
      counted units t (body_parts params body) (variable_of params variadic) call
      (arguments_of (length params) variadic call.within)

  -- a function-like macro's name and the tokens after it, or those after a `(` that follows
  unfoldable pub function_replaced : ℕ → Marked → List (List ℕ) → Bool → List Token → List Marked → Option (List Marked) → Asking Expanded
  function_replaced units t params variadic body rest None = put_out (t ∷ []) (self depth units rest)
  function_replaced units t params variadic body rest (Some within) = called units t params variadic body (call_in 0 within)

  -- a macro's name and the tokens after it
  unfoldable pub macro_replaced : ℕ → Marked → List Marked → List Token → Shape → Asking Expanded
  macro_replaced units t rest body Object =
      charged units (object_replacement t body) rest
  macro_replaced units t rest body (Function params variadic) =
      function_replaced units t params variadic body rest (after_open rest)

  -- an identifier and the tokens after it, by the definition that it has here
  unfoldable pub name_replaced : ℕ → Marked → List Marked → Option MacroDefinition → Asking Expanded
  name_replaced units t rest None = put_out (t ∷ []) (self depth units rest)
  name_replaced units t rest (Some d) = macro_replaced units t rest d.body d.shape

  -- `__FILE__` or `__LINE__`: one token in the place of `t`, for two units (6.10.8.1)
  unfoldable pub built_in : ℕ → Marked → Kind → List ℕ → List Marked → Asking Expanded
  built_in units t kind text rest =
      put_out (replaced_token t kind text ∷ []) (go_on (nat_lt 1 units) (units - 2) rest)

-- the operand of a `defined` that stands before these tokens, an identifier or one in parentheses, and what follows it (6.10.1)
abbrev pub operand_of_defined : List Marked → List Marked × List Marked
operand_of_defined [] = ([], [])
operand_of_defined (a ∷ []) = if is_identifier a.token then (a ∷ [], []) else ([], a ∷ [])
operand_of_defined (a ∷ b ∷ []) = if is_identifier a.token then (a ∷ [], b ∷ []) else ([], a ∷ b ∷ [])
operand_of_defined (a ∷ b ∷ c ∷ ts) =
    if is_identifier a.token then (a ∷ [], b ∷ c ∷ ts)
    else (if is_open a.token && is_identifier b.token && is_close c.token then (a ∷ b ∷ c ∷ [], ts) else ([], a ∷ b ∷ c ∷ ts))

abbrev pub is_some_tokens : List Marked → Bool
is_some_tokens [] = false
is_some_tokens (t ∷ ts) = true

-- whether an operand of `defined` stands first
abbrev pub has_operand : List Marked → Bool
has_operand ts = is_some_tokens (operand_of_defined ts).0

-- what a token at the head of the list is, before the rest; a `defined` without an operand is a name as any other
unfoldable pub head_role : Mode → Marked → List Marked → Role
head_role mode t rest =
    if not (is_identifier t.token) then Ordinary
    else (if (elim mode [ Text ↦ false | Condition ↦ true ]) && (is_word (codes "defined") t.token && has_operand rest) then Defined
    else (if t.hidden t.token.text then Ordinary
    else (if is_word (codes "__FILE__") t.token then FileName
    else (if is_word (codes "__LINE__") t.token then LineNumber
    else Name))))

-- a token of this role and the tokens after it
unfoldable pub role_expanded : Expander → ℕ → ℕ → Marked → List Marked → Role → Asking Expanded
role_expanded self depth units t rest Ordinary = put_out (t ∷ []) (self depth units rest)
role_expanded self depth units t rest Defined =
    put_out (t ∷ (operand_of_defined rest).0) (self depth units (operand_of_defined rest).1)
role_expanded self depth units t rest FileName =
    ask_file (λ name. built_in self depth units t Str (in_quotes name) rest)
role_expanded self depth units t rest LineNumber =
    ask_line t.token.line (λ number. built_in self depth units t Number number rest)
role_expanded self depth units t rest Name =
    ask_definition t.token.text (λ d. name_replaced self depth units t rest d)

-- One step of expansion, over a way to expand what comes of it.
unfoldable pub expansion_step : Mode → Expander → Expander
expansion_step mode self depth units [] = give (record { tokens = []; units = units })
expansion_step mode self depth units (t ∷ rest) = role_expanded self depth units t rest (head_role mode t rest)

-- Expansion by at most so many steps one inside another.
unfoldable pub expansion_within : ℕ → Mode → Expander
expansion_within zero mode depth units ts = fail Work
expansion_within (suc steps) mode depth units ts = expansion_step mode (expansion_within steps mode) depth units ts

-- Expansion: a recursion on the units and the list together, whose sum falls at each step.
unfoldable pub expansion : Mode → Expander
expansion mode depth units ts = expansion_within (suc (units + length ts)) mode depth units ts

-- A table that answers.

-- A macro table, by what a name is defined as (6.10.3).
abbrev pub Table : Type 0
Table = List ℕ → Option MacroDefinition

-- Where the tokens stand: the presumed name of the file, and what is added to a physical line (6.10.4). The name is the form that
-- is shown, and stands between quotes as it is: what stands between those of a `#line`, or the path with `\`, `"` and newline
-- escaped.
pub record Place : Type 0 where
  pub name : List ℕ
  pub shift : ℤ

-- the result where this table and this place answer
unfoldable pub by_table : {A : Type 0} → Table → Place → Asking A → Result A Failure
by_table table here (give x) = Ok x
by_table table here (fail e) = Err e
by_table table here (ask_definition name next) = by_table table here (next (table name))
by_table table here (ask_file next) = by_table table here (next here.name)
by_table table here (ask_line line next) = by_table table here (next (signed_decimal (pos line +ℤ here.shift)))

-- Expansion where a table and a place answer: the tokens and the units left, or the first error.
unfoldable pub expanded_by : Table → Place → Mode → ℕ → ℕ → List Marked → Result Expanded Failure
expanded_by table here mode depth units ts = by_table table here (expansion mode depth units ts)
