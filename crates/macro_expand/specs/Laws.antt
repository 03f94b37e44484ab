-- The laws of macro expansion (6.10.3), and of its runs under sets of definitions.
use Rattle.std.specs.Prelude.{◌≡◌, ℕ, suc, ◌+◌, ◌<◌, ◌≤◌, ◌⊎◌, Bool, true, false, List, [], ◌∷◌, ◌++◌, length, Option, Some, None, Result, Ok, Err, Contains, pos, ◌+ℤ◌}
use Rattle.std.specs.Fmt.{signed_decimal}
use Rattle.base_types.specs.Limits.{argument_depth_limit}
use Rattle.base_types.specs.Ascii as ascii
use Rattle.pp_tokens.specs.declared.Token.{Token}
use Rattle.pp_tokens.specs.declared.Kind.TheVariants.{Str, Number}
use Rattle.macro_defs.specs.declared.definition.Shape.TheVariants.{Object, Function}
use Rattle.macro_defs.specs.MacroDefinition.{MacroDefinition}
use Rattle.macro_expand.specs.declared.outcome.Mode.{Mode}
use Rattle.macro_expand.specs.declared.marked.Role.TheVariants.{Defined, FileName, LineNumber, Name, Ordinary}
use Rattle.macro_expand.specs.Asking.{Failure, Count, Unclosed, Deep, Work, Asking, give, fail, ask_definition, ask_file, ask_line, then_with}
use Rattle.macro_expand.specs.Replacement.{Marked, BodyPart, Call, call_in, after_open, arguments_of, body_parts, stands_alone}
use Rattle.macro_expand.specs.Expansion.{Expanded, ExpandedEach, expansion, expansion_step, head_role, operand_of_defined, replaced_token, object_replacement, call_replacement, variable_of, charged, arguments_expanded, Table, Place, by_table, expanded_by}
use Rattle.macro_expand.specs.Choice.{Sets, IsWithin, Ending, Gave, Failed, Presumed, complete_runs, taken_run, choices_taken, run_by}

-- Steps.

-- Expansion is one step over itself: its recursion never meets the bound on its steps.
abbrev pub ExpansionUnfolds : Type 0
ExpansionUnfolds = (mode : Mode) (depth units : ℕ) (ts : List Marked) →
    expansion mode depth units ts ≡ expansion_step mode (expansion mode) depth units ts

-- what follows a result, or the error
abbrev pub after_ok : {A B : Type 0} → Result A Failure → (A → Result B Failure) → Result B Failure
after_ok (Ok x) f = f x
after_ok (Err e) f = Err e

-- tokens before those of a result
abbrev pub put_before : List Marked → Result Expanded Failure → Result Expanded Failure
put_before ts r = after_ok r (λ e. Ok (record e { tokens = ts ++ e.tokens }))

-- a list of tokens before the lists of a result
abbrev pub list_before : List Marked → Result ExpandedEach Failure → Result ExpandedEach Failure
list_before ts r = after_ok r (λ e. Ok (record e { lists = ts ∷ e.lists }))

-- what becomes of a replacement and the tokens after it, where a table answers
unfoldable pub charged_by : Table → Place → Mode → ℕ → ℕ → Result (List Marked) Failure → List Marked → Result Expanded Failure
charged_by table here mode depth units r rest = by_table table here (charged (expansion mode) depth units r rest)

-- the arguments of a call of `t`, from number `i` on, expanded by themselves where a table answers (6.10.3.1)
unfoldable pub arguments_by : Table → Place → Mode → ℕ → Token → List BodyPart → ℕ → ℕ → List (List Marked) → Result ExpandedEach Failure
arguments_by table here mode depth t parts i units args = by_table table here (arguments_expanded (expansion mode) depth t parts i units args)

-- a table answers the first part, and then what follows its result
abbrev pub Composes : Type 0 → Type 0 → Type 0
Composes A B = (table : Table) (here : Place) (t : Asking A) (f : A → Asking B) →
    by_table table here (then_with t f) ≡ after_ok (by_table table here t) (λ x. by_table table here (f x))

-- the same for the parts that expansion has
pub record TablesCompose : Type 0 where
  pub tokens : Composes Expanded Expanded
  pub first_argument : Composes Expanded ExpandedEach
  pub more_arguments : Composes ExpandedEach ExpandedEach
  pub arguments : Composes ExpandedEach Expanded

-- What becomes of a function-like macro's name, where a table answers (6.10.3 p10).
pub record FunctionExpands (table : Table) (here : Place) (mode : Mode) (depth units : ℕ) (t : Marked) (rest : List Marked)
    (body : List Token) (params : List (List ℕ)) (variadic : Bool) : Type 0 where
  -- it is put out where no `(` follows
  pub not_called : after_open rest ≡ None →
      expanded_by table here mode depth units (t ∷ rest) ≡ put_before (t ∷ []) (expanded_by table here mode depth units rest)
  pub unclosed : (within : List Marked) → after_open rest ≡ Some within → call_in 0 within ≡ None →
      expanded_by table here mode depth units (t ∷ rest) ≡ Err (Unclosed t.token.text t.token.line)
  -- too few or too many arguments (6.10.3 p4)
  pub count : (within : List Marked) (call : Call) → after_open rest ≡ Some within → call_in 0 within ≡ Some call →
      arguments_of (length params) variadic call.within ≡ None →
      expanded_by table here mode depth units (t ∷ rest) ≡ Err (Count t.token.text t.token.line)
  -- its arguments are expanded, and then it is replaced (6.10.3.1)
  pub called : (within : List Marked) (call : Call) (written : List (List Marked)) →
      after_open rest ≡ Some within → call_in 0 within ≡ Some call →
      arguments_of (length params) variadic call.within ≡ Some written →
      expanded_by table here mode depth units (t ∷ rest)
      ≡ after_ok (arguments_by table here mode depth t.token (body_parts params body) 0 units written) (λ e.
      charged_by table here mode depth e.units
      (call_replacement t (body_parts params body) (variable_of params variadic) call written e.lists) call.after)

-- What becomes of the arguments of a call of `t`, where a table answers (6.10.3.1).
pub record ArgumentsExpand (table : Table) (here : Place) (mode : Mode) (depth : ℕ) (t : Token) (parts : List BodyPart) : Type 0 where
  pub nil : (i units : ℕ) → arguments_by table here mode depth t parts i units [] ≡ Ok (record { lists = []; units = units })
  -- an argument that is only spelled or pasted isn't expanded
  pub skipped : (i units : ℕ) (a : List Marked) (rest : List (List Marked)) → stands_alone i None parts ≡ false →
      arguments_by table here mode depth t parts i units (a ∷ rest)
      ≡ list_before [] (arguments_by table here mode depth t parts (suc i) units rest)
  pub deep : (i units : ℕ) (a : List Marked) (rest : List (List Marked)) → stands_alone i None parts ≡ true → argument_depth_limit ≤ depth →
      arguments_by table here mode depth t parts i units (a ∷ rest) ≡ Err (Deep t.line)
  pub alone : (i units : ℕ) (a : List Marked) (rest : List (List Marked)) → stands_alone i None parts ≡ true → depth < argument_depth_limit →
      arguments_by table here mode depth t parts i units (a ∷ rest)
      ≡ after_ok (expanded_by table here mode (suc depth) units a)
      (λ e. list_before e.tokens (arguments_by table here mode depth t parts (suc i) e.units rest))

-- What becomes of the first token, where a table answers (6.10.3).
pub record TableExpands (table : Table) (here : Place) (mode : Mode) (depth units : ℕ) : Type 0 where
  pub nil : expanded_by table here mode depth units [] ≡ Ok (record { tokens = []; units = units })
  -- what is no macro's name is put out
  pub ordinary : (t : Marked) (rest : List Marked) → head_role mode t rest ≡ Ordinary →
      expanded_by table here mode depth units (t ∷ rest) ≡ put_before (t ∷ []) (expanded_by table here mode depth units rest)
  -- `defined` and its operand are put out (6.10.1)
  pub defined_operand : (t : Marked) (rest : List Marked) → head_role mode t rest ≡ Defined →
      expanded_by table here mode depth units (t ∷ rest)
      ≡ put_before (t ∷ (operand_of_defined rest).0) (expanded_by table here mode depth units (operand_of_defined rest).1)
  -- `__FILE__` and `__LINE__` become one token, for two units (6.10.8.1)
  pub file_name : (t : Marked) (rest : List Marked) (left : ℕ) → head_role mode t rest ≡ FileName → left + 2 ≡ units →
      expanded_by table here mode depth units (t ∷ rest)
      ≡ put_before (replaced_token t Str (ascii.quote ∷ here.name ++ ascii.quote ∷ []) ∷ []) (expanded_by table here mode depth left rest)
  pub line_number : (t : Marked) (rest : List Marked) (left : ℕ) → head_role mode t rest ≡ LineNumber → left + 2 ≡ units →
      expanded_by table here mode depth units (t ∷ rest)
      ≡ put_before (replaced_token t Number (signed_decimal (pos t.token.line +ℤ here.shift)) ∷ []) (expanded_by table here mode depth left rest)
  pub built_in_out : (t : Marked) (rest : List Marked) → (head_role mode t rest ≡ FileName) ⊎ (head_role mode t rest ≡ LineNumber) → units ≤ 1 →
      expanded_by table here mode depth units (t ∷ rest) ≡ Err Work
  -- a name without a definition is put out
  pub undefined : (t : Marked) (rest : List Marked) → head_role mode t rest ≡ Name → table t.token.text ≡ None →
      expanded_by table here mode depth units (t ∷ rest) ≡ put_before (t ∷ []) (expanded_by table here mode depth units rest)
  -- an object-like macro is replaced, and the rest is read again with its replacement (6.10.3 p9, 6.10.3.4)
  pub object : (t : Marked) (rest : List Marked) (d : MacroDefinition) →
      head_role mode t rest ≡ Name → table t.token.text ≡ Some d → d.shape ≡ Object →
      expanded_by table here mode depth units (t ∷ rest) ≡ charged_by table here mode depth units (object_replacement t d.body) rest
  pub function : (t : Marked) (rest : List Marked) (d : MacroDefinition) (params : List (List ℕ)) (variadic : Bool) →
      head_role mode t rest ≡ Name → table t.token.text ≡ Some d → d.shape ≡ Function params variadic →
      FunctionExpands table here mode depth units t rest d.body params variadic
  -- a replacement costs one unit and one for each token that it puts in
  pub paid : (ts rest : List Marked) (left : ℕ) → left + length ts + 1 ≡ units →
      charged_by table here mode depth units (Ok ts) rest ≡ expanded_by table here mode depth left (ts ++ rest)
  pub out_of_work : (ts rest : List Marked) → units ≤ length ts → charged_by table here mode depth units (Ok ts) rest ≡ Err Work
  pub refused : (e : Failure) (rest : List Marked) → charged_by table here mode depth units (Err e) rest ≡ Err e

abbrev pub ExpandsByTable : Type 0
ExpandsByTable = (table : Table) (here : Place) (mode : Mode) (depth units : ℕ) → TableExpands table here mode depth units

abbrev pub ArgumentsExpandByTable : Type 0
ArgumentsExpandByTable = (table : Table) (here : Place) (mode : Mode) (depth : ℕ) (t : Token) (parts : List BodyPart) →
    ArgumentsExpand table here mode depth t parts

-- Units.

-- whatever the answers, at most these units are left at the end
abbrev pub UnitsWithin : ℕ → Asking Expanded → Type 0
UnitsWithin units (give e) = e.units ≤ units
UnitsWithin units (fail e) = Unit {0}
UnitsWithin units (ask_definition name next) = (d : Option MacroDefinition) → UnitsWithin units (next d)
UnitsWithin units (ask_file next) = (name : List ℕ) → UnitsWithin units (next name)
UnitsWithin units (ask_line line next) = (number : List ℕ) → UnitsWithin units (next number)

-- the units of work never rise
abbrev pub UnitsNeverRise : Type 0
UnitsNeverRise = (mode : Mode) (depth units : ℕ) (ts : List Marked) → UnitsWithin units (expansion mode depth units ts)

-- the same where a table answers
abbrev pub UnitsNeverRiseByTable : Type 0
UnitsNeverRiseByTable = (table : Table) (here : Place) (mode : Mode) (depth units : ℕ) (ts : List Marked) (e : Expanded) →
    expanded_by table here mode depth units ts ≡ Ok e → e.units ≤ units

-- The choice fact.

-- the same tokens, and units that differ as they did at the start: `a` and `b` make up the difference
pub record SameTokens (a b : ℕ) (e f : Expanded) : Type 0 where
  pub tokens : e.tokens ≡ f.tokens
  pub units : e.units + a ≡ f.units + b

-- whether a run ends for want of units, or where a line or a name isn't known
abbrev pub IsCutOff : {A : Type 0} → Ending A → Type 0
IsCutOff (Gave x) = ⊥
IsCutOff (Failed e) = e ≡ Work
IsCutOff Presumed = Unit {0}

-- a result that is in the relation to a run's, or the same error
abbrev pub SameEnd : {A B : Type 0} → (A → B → Type 0) → Result A Failure → Ending B → Type 0
SameEnd R (Ok x) (Gave y) = R x y
SameEnd R (Ok x) (Failed e) = ⊥
SameEnd R (Ok x) Presumed = ⊥
SameEnd R (Err e) (Gave y) = ⊥
SameEnd R (Err e) (Failed f) = e ≡ f
SameEnd R (Err e) Presumed = ⊥

-- the presumed name that a run knows is the one that stands here
abbrev pub Knows : Option (List ℕ) → Place → Type 0
Knows None here = Unit {0}
Knows (Some name) here = name ≡ here.name

-- An expansion under a table and the run along the table's answers go alike: they end alike, and the answers that the table
-- gave in the expansion are the run's list of choices, which the run of that list uses up.
pub record GoesAlike (sets : Sets) (file : Option (List ℕ)) (table : Table) (here : Place) (mode : Mode) (units work : ℕ) (ts : List Marked) : Type 0 where
  pub ends : SameEnd (SameTokens work units) (expanded_by table here mode 0 units ts)
      (taken_run sets file table (expansion mode 0 work ts)).ending
  pub answers : choices_taken sets table here (expansion mode 0 units ts) ≡ (taken_run sets file table (expansion mode 0 work ts)).choices
  pub uses : run_by sets file (choices_taken sets table here (expansion mode 0 units ts)) (expansion mode 0 work ts)
      ≡ Some (record { ending = (taken_run sets file table (expansion mode 0 work ts)).ending; unused = [] })

-- The choice fact. The run along the table's answers is a complete run of the sets, and one of three things holds: the
-- expansion ends for want of units, or that run is cut off, or both go alike.
pub record ChoiceFact (sets : Sets) (file : Option (List ℕ)) (table : Table) (here : Place) (mode : Mode) (units work : ℕ) (ts : List Marked) : Type 0 where
  pub complete : Contains (complete_runs sets file (expansion mode 0 work ts)) (taken_run sets file table (expansion mode 0 work ts))
  pub outcome : (expanded_by table here mode 0 units ts ≡ Err Work)
      ⊎ (IsCutOff (taken_run sets file table (expansion mode 0 work ts)).ending
      ⊎ GoesAlike sets file table here mode units work ts)

-- It holds of a table within the sets, where the presumed name that the runs know is that of the place.
abbrev pub ChoiceFactHolds : Type 0
ChoiceFactHolds = (sets : Sets) (file : Option (List ℕ)) (table : Table) (here : Place) (mode : Mode) (units work : ℕ) (ts : List Marked) →
    IsWithin table sets → Knows file here → ChoiceFact sets file table here mode units work ts
