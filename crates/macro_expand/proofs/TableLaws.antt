-- How an expansion under a table goes on, token by token.
use Rattle.std.proofs.Common.{◌≡◌, ℕ, suc, ◌+◌, ◌-◌, ◌<◌, ◌≤◌, Bool, true, false, List, [], ◌∷◌, ◌++◌, length, refl, ap, subst, ◌∙◌, Result, Ok, Err, Option, Some, None, arith, nat_lt, pos, ◌+ℤ◌, inl, inr, ◌⊎◌}
use Rattle.std.specs.Fmt.{signed_decimal}
use Rattle.pp_tokens.specs.declared.Kind.TheVariants.{Str, Number}
use mathlib.Core.Path.{fun_ext}
use Rattle.std.proofs.lemmas.Bool.{le-ltb, lt-ltb}
use Rattle.base_types.specs.Limits.{argument_depth_limit}
use Rattle.pp_tokens.specs.declared.Kind.{Kind}
use Rattle.pp_tokens.specs.declared.Token.{Token}
use Rattle.macro_expand.specs.declared.outcome.Mode.{Mode}
use Rattle.macro_expand.specs.declared.marked.Role.{Role}
use Rattle.macro_expand.specs.declared.marked.Role.TheVariants.{Defined, FileName, LineNumber, Name, Ordinary}
use Rattle.macro_defs.specs.declared.definition.Shape.TheVariants.{Object, Function}
use Rattle.macro_defs.specs.MacroDefinition.{MacroDefinition}
use Rattle.macro_expand.specs.Asking.{Failure, Count, Unclosed, Deep, Work, Asking, give, fail, ask_definition, ask_file, ask_line, then_with}
use Rattle.macro_expand.specs.Replacement.{Marked, BodyPart, Call, call_in, after_open, arguments_of, body_parts, stands_alone}
use Rattle.macro_expand.specs.Expansion.{argument_expanded, arguments_expanded, built_in, counted, called, function_replaced, call_replacement, variable_of, Expanded, Table, Place, by_table, expansion, expansion_step, operand_of_defined, replaced_token, head_role, role_expanded, name_replaced, macro_replaced, charged, go_on, put_out, object_replacement, expanded_by}
use Rattle.macro_expand.specs.Laws.{after_ok, put_before, list_before, charged_by, arguments_by, TablesCompose, TableExpands, FunctionExpands, ArgumentsExpand, UnitsWithin}
use Rattle.macro_expand.proofs.AskingLaws.{Leaves}
use Rattle.macro_expand.proofs.StepLaws.{AtMost, expansion-unfolds, expansion_within-frugal}

composes : {A B : Type 0} (table : Table) (here : Place) (t : Asking A) (f : A → Asking B) →
    by_table table here (then_with t f) ≡ after_ok (by_table table here t) (λ x. by_table table here (f x))
unfolding then_with by_table
composes table here (give x) f = refl
composes table here (fail e) f = refl
composes table here (ask_definition name next) f = composes table here (next (table name)) f
composes table here (ask_file next) f = composes table here (next here.name) f
composes table here (ask_line line next) f = composes table here (next _) f

pub tables_compose : TablesCompose
tables_compose = record { tokens = composes; first_argument = composes; more_arguments = composes; arguments = composes }

module _ (table : Table) (here : Place) (mode : Mode) (depth units : ℕ) where
  by_table-put_out : (ts : List Marked) (t : Asking Expanded) → by_table table here (put_out ts t) ≡ put_before ts (by_table table here t)
  unfolding put_out by_table
  by_table-put_out ts t = composes table here t _

  nil : expanded_by table here mode depth units [] ≡ Ok (record { tokens = []; units = units })
  unfolding expanded_by expansion_step by_table
  nil = ap (by_table table here) (expansion-unfolds mode depth units [])

  module _ (t : Marked) (rest : List Marked) where
    step : (role : Role) → head_role mode t rest ≡ role →
        expanded_by table here mode depth units (t ∷ rest) ≡ by_table table here (role_expanded (expansion mode) depth units t rest role)
    unfolding expanded_by expansion_step
    step role e =
        ap (by_table table here) (expansion-unfolds mode depth units (t ∷ rest))
        ∙ ap (λ r. by_table table here (role_expanded (expansion mode) depth units t rest r)) e

    ordinary : head_role mode t rest ≡ Ordinary →
        expanded_by table here mode depth units (t ∷ rest) ≡ put_before (t ∷ []) (expanded_by table here mode depth units rest)
    unfolding expanded_by role_expanded
    ordinary e = step Ordinary e ∙ by_table-put_out (t ∷ []) (expansion mode depth units rest)

    defined_operand : head_role mode t rest ≡ Defined →
        expanded_by table here mode depth units (t ∷ rest)
        ≡ put_before (t ∷ (operand_of_defined rest).0) (expanded_by table here mode depth units (operand_of_defined rest).1)
    unfolding expanded_by role_expanded
    defined_operand e =
        step Defined e ∙ by_table-put_out (t ∷ (operand_of_defined rest).0) (expansion mode depth units (operand_of_defined rest).1)

    built : (kind : Kind) (spelling : List ℕ) (left : ℕ) → left + 2 ≡ units →
        by_table table here (built_in (expansion mode) depth units t kind spelling rest)
        ≡ put_before (replaced_token t kind spelling ∷ []) (expanded_by table here mode depth left rest)
    unfolding built_in go_on expanded_by
    built kind spelling left paid =
        let enough : 1 < units = omega arith in
        let left_units : units - 2 ≡ left = omega arith in
        ap (λ b. by_table table here (put_out (replaced_token t kind spelling ∷ []) (go_on (expansion mode) depth b (units - 2) rest)))
        (lt-ltb 1 units enough)
        ∙ ap (λ u. by_table table here (put_out (replaced_token t kind spelling ∷ []) (expansion mode depth u rest))) left_units
        ∙ by_table-put_out (replaced_token t kind spelling ∷ []) (expansion mode depth left rest)

    file_name : (left : ℕ) → head_role mode t rest ≡ FileName → left + 2 ≡ units →
        expanded_by table here mode depth units (t ∷ rest)
        ≡ put_before (replaced_token t Str (34 ∷ here.name ++ 34 ∷ []) ∷ []) (expanded_by table here mode depth left rest)
    unfolding role_expanded by_table
    file_name left e paid = step FileName e ∙ built _ _ left paid

    line_number : (left : ℕ) → head_role mode t rest ≡ LineNumber → left + 2 ≡ units →
        expanded_by table here mode depth units (t ∷ rest)
        ≡ put_before (replaced_token t Number (signed_decimal (pos t.token.line +ℤ here.shift)) ∷ []) (expanded_by table here mode depth left rest)
    unfolding role_expanded by_table
    line_number left e paid = step LineNumber e ∙ built _ _ left paid

    built_out : (kind : Kind) (spelling : List ℕ) → units ≤ 1 →
        by_table table here (built_in (expansion mode) depth units t kind spelling rest) ≡ Err Work
    unfolding built_in go_on put_out then_with by_table
    built_out kind spelling out =
        ap (λ b. by_table table here (put_out (replaced_token t kind spelling ∷ []) (go_on (expansion mode) depth b (units - 2) rest)))
        (le-ltb 1 units out)

    built_in_out : (head_role mode t rest ≡ FileName) ⊎ (head_role mode t rest ≡ LineNumber) → units ≤ 1 →
        expanded_by table here mode depth units (t ∷ rest) ≡ Err Work
    unfolding role_expanded by_table
    built_in_out (inl e) out = step FileName e ∙ built_out Str (34 ∷ here.name ++ 34 ∷ []) out
    built_in_out (inr e) out = step LineNumber e ∙ built_out Number (signed_decimal (pos t.token.line +ℤ here.shift)) out

    named : (d : Option MacroDefinition) → head_role mode t rest ≡ Name → table t.token.text ≡ d →
        expanded_by table here mode depth units (t ∷ rest) ≡ by_table table here (name_replaced (expansion mode) depth units t rest d)
    unfolding role_expanded by_table
    named d e f = step Name e ∙ ap (λ w. by_table table here (name_replaced (expansion mode) depth units t rest w)) f

    undefined : head_role mode t rest ≡ Name → table t.token.text ≡ None →
        expanded_by table here mode depth units (t ∷ rest) ≡ put_before (t ∷ []) (expanded_by table here mode depth units rest)
    unfolding expanded_by name_replaced
    undefined e f = named None e f ∙ by_table-put_out (t ∷ []) (expansion mode depth units rest)

    object : (d : MacroDefinition) → head_role mode t rest ≡ Name → table t.token.text ≡ Some d → d.shape ≡ Object →
        expanded_by table here mode depth units (t ∷ rest) ≡ charged_by table here mode depth units (object_replacement t d.body) rest
    unfolding name_replaced macro_replaced charged_by
    object d e f shape =
        named (Some d) e f ∙ ap (λ s. by_table table here (macro_replaced (expansion mode) depth units t rest d.body s)) shape

    module _ (d : MacroDefinition) (params : List (List ℕ)) (variadic : Bool)
        (role : head_role mode t rest ≡ Name) (some : table t.token.text ≡ Some d) (shape : d.shape ≡ Function params variadic) where
      opened : (within : Option (List Marked)) → after_open rest ≡ within →
          expanded_by table here mode depth units (t ∷ rest)
          ≡ by_table table here (function_replaced (expansion mode) depth units t params variadic d.body rest within)
      unfolding name_replaced macro_replaced
      opened within e =
          named (Some d) role some
          ∙ ap (λ s. by_table table here (macro_replaced (expansion mode) depth units t rest d.body s)) shape
          ∙ ap (λ w. by_table table here (function_replaced (expansion mode) depth units t params variadic d.body rest w)) e

      not_called : after_open rest ≡ None →
          expanded_by table here mode depth units (t ∷ rest) ≡ put_before (t ∷ []) (expanded_by table here mode depth units rest)
      unfolding function_replaced expanded_by
      not_called e = opened None e ∙ by_table-put_out (t ∷ []) (expansion mode depth units rest)

      read : (within : List Marked) (call : Option Call) → after_open rest ≡ Some within → call_in 0 within ≡ call →
          expanded_by table here mode depth units (t ∷ rest)
          ≡ by_table table here (called (expansion mode) depth units t params variadic d.body call)
      unfolding function_replaced
      read within call e is =
          opened (Some within) e ∙ ap (λ c. by_table table here (called (expansion mode) depth units t params variadic d.body c)) is

      unclosed : (within : List Marked) → after_open rest ≡ Some within → call_in 0 within ≡ None →
          expanded_by table here mode depth units (t ∷ rest) ≡ Err (Unclosed t.token.text t.token.line)
      unfolding called by_table
      unclosed within e is = read within None e is

      cut : (within : List Marked) (call : Call) (written : Option (List (List Marked))) →
          after_open rest ≡ Some within → call_in 0 within ≡ Some call → arguments_of (length params) variadic call.within ≡ written →
          expanded_by table here mode depth units (t ∷ rest)
          ≡ by_table table here (counted (expansion mode) depth units t (body_parts params d.body) (variable_of params variadic) call written)
      unfolding called
      cut within call written e is args =
          read within (Some call) e is
          ∙ ap (λ w. by_table table here (counted (expansion mode) depth units t (body_parts params d.body) (variable_of params variadic) call w)) args

      wrong_count : (within : List Marked) (call : Call) → after_open rest ≡ Some within → call_in 0 within ≡ Some call →
          arguments_of (length params) variadic call.within ≡ None →
          expanded_by table here mode depth units (t ∷ rest) ≡ Err (Count t.token.text t.token.line)
      unfolding counted by_table
      wrong_count within call e is args = cut within call None e is args

      expanded_call : (within : List Marked) (call : Call) (written : List (List Marked)) →
          after_open rest ≡ Some within → call_in 0 within ≡ Some call → arguments_of (length params) variadic call.within ≡ Some written →
          expanded_by table here mode depth units (t ∷ rest)
          ≡ after_ok (arguments_by table here mode depth t.token (body_parts params d.body) 0 units written) (λ e.
          charged_by table here mode depth e.units
          (call_replacement t (body_parts params d.body) (variable_of params variadic) call written e.lists) call.after)
      unfolding counted arguments_by charged_by
      expanded_call within call written e is args =
          cut within call (Some written) e is args
          ∙ composes table here (arguments_expanded (expansion mode) depth t.token (body_parts params d.body) 0 units written) _

      function : FunctionExpands table here mode depth units t rest d.body params variadic
      function = record { not_called = not_called; unclosed = unclosed; count = wrong_count; called = expanded_call }

  paid : (ts rest : List Marked) (left : ℕ) → left + length ts + 1 ≡ units →
      charged_by table here mode depth units (Ok ts) rest ≡ expanded_by table here mode depth left (ts ++ rest)
  unfolding charged_by charged go_on expanded_by
  paid ts rest left sum =
      let fits : length ts < units = omega arith in
      let left_units : units - suc (length ts) ≡ left = omega arith in
      ap (λ b. by_table table here (go_on (expansion mode) depth b (units - suc (length ts)) (ts ++ rest)))
      (lt-ltb (length ts) units fits)
      ∙ ap (λ u. by_table table here (expansion mode depth u (ts ++ rest))) left_units

  out_of_work : (ts rest : List Marked) → units ≤ length ts → charged_by table here mode depth units (Ok ts) rest ≡ Err Work
  unfolding charged_by charged by_table go_on
  out_of_work ts rest out =
      ap (λ b. by_table table here (go_on (expansion mode) depth b (units - suc (length ts)) (ts ++ rest)))
      (le-ltb (length ts) units out)

  refused : (e : Failure) (rest : List Marked) → charged_by table here mode depth units (Err e) rest ≡ Err e
  unfolding charged_by charged by_table
  refused e rest = refl

  pub expands_by_table : TableExpands table here mode depth units
  expands_by_table = record {
    nil = nil;
    ordinary = ordinary;
    defined_operand = defined_operand;
    file_name = file_name;
    line_number = line_number;
    built_in_out = built_in_out;
    undefined = undefined;
    object = object;
    function = function;
    paid = paid;
    out_of_work = out_of_work;
    refused = refused;
  }

-- The arguments of a call, where a table answers.
module _ (table : Table) (here : Place) (mode : Mode) (depth : ℕ) (t : Token) (parts : List BodyPart) where
  no_arguments : (i units : ℕ) → arguments_by table here mode depth t parts i units [] ≡ Ok (record { lists = []; units = units })
  unfolding arguments_by arguments_expanded by_table
  no_arguments i units = refl

  -- what one argument becomes
  argument_by : Bool → Bool → ℕ → List Marked → Result Expanded Failure
  argument_by alone shallow units a = by_table table here (argument_expanded (expansion mode) depth alone shallow t units a)

  first_argument : (i units : ℕ) (a : List Marked) (rest : List (List Marked)) (alone shallow : Bool) →
      stands_alone i None parts ≡ alone → nat_lt depth argument_depth_limit ≡ shallow →
      arguments_by table here mode depth t parts i units (a ∷ rest)
      ≡ after_ok (argument_by alone shallow units a) (λ e. list_before e.tokens (arguments_by table here mode depth t parts (suc i) e.units rest))
  unfolding arguments_by arguments_expanded by_table argument_by
  first_argument i units a rest alone shallow is_alone is_shallow =
      composes table here (argument_expanded (expansion mode) depth (stands_alone i None parts) (nat_lt depth argument_depth_limit) t units a) _
      ∙ ap (after_ok (argument_by (stands_alone i None parts) (nat_lt depth argument_depth_limit) units a))
      (fun_ext (λ e. composes table here (arguments_expanded (expansion mode) depth t parts (suc i) e.units rest) _))
      ∙ ap (λ b. after_ok (argument_by b (nat_lt depth argument_depth_limit) units a)
      (λ e. list_before e.tokens (arguments_by table here mode depth t parts (suc i) e.units rest))) is_alone
      ∙ ap (λ b. after_ok (argument_by alone b units a)
      (λ e. list_before e.tokens (arguments_by table here mode depth t parts (suc i) e.units rest))) is_shallow

  skipped : (i units : ℕ) (a : List Marked) (rest : List (List Marked)) → stands_alone i None parts ≡ false →
      arguments_by table here mode depth t parts i units (a ∷ rest)
      ≡ list_before [] (arguments_by table here mode depth t parts (suc i) units rest)
  unfolding argument_by argument_expanded by_table
  skipped i units a rest e = first_argument i units a rest false _ e refl

  deep : (i units : ℕ) (a : List Marked) (rest : List (List Marked)) → stands_alone i None parts ≡ true → argument_depth_limit ≤ depth →
      arguments_by table here mode depth t parts i units (a ∷ rest) ≡ Err (Deep t.line)
  unfolding argument_by argument_expanded by_table
  deep i units a rest e far = first_argument i units a rest true false e (le-ltb depth argument_depth_limit far)

  alone : (i units : ℕ) (a : List Marked) (rest : List (List Marked)) → stands_alone i None parts ≡ true → depth < argument_depth_limit →
      arguments_by table here mode depth t parts i units (a ∷ rest)
      ≡ after_ok (expanded_by table here mode (suc depth) units a)
      (λ e. list_before e.tokens (arguments_by table here mode depth t parts (suc i) e.units rest))
  unfolding argument_by argument_expanded expanded_by
  alone i units a rest e near = first_argument i units a rest true true e (lt-ltb depth argument_depth_limit near)

  pub arguments_expand_by_table : ArgumentsExpand table here mode depth t parts
  arguments_expand_by_table = record { nil = no_arguments; skipped = skipped; deep = deep; alone = alone }

-- Units.

units_within : (units : ℕ) (t : Asking Expanded) → Leaves (AtMost units) t → UnitsWithin units t
units_within units (give e) h = h
units_within units (fail e) h = tt
units_within units (ask_definition name next) h = λ d. units_within units (next d) (h d)
units_within units (ask_file next) h = λ name. units_within units (next name) (h name)
units_within units (ask_line line next) h = λ number. units_within units (next number) (h number)

pub units_never_rise : (mode : Mode) (depth units : ℕ) (ts : List Marked) → UnitsWithin units (expansion mode depth units ts)
unfolding expansion
units_never_rise mode depth units ts = units_within units _ (expansion_within-frugal (suc (units + length ts)) mode depth units ts)

left_by_table : (table : Table) (here : Place) (units : ℕ) (t : Asking Expanded) (e : Expanded) → UnitsWithin units t →
    by_table table here t ≡ Ok e → e.units ≤ units
unfolding by_table
left_by_table table here units (give x) e h is = let same : x ≡ e = cc is in subst (λ w. w.units ≤ units) same h
left_by_table table here units (fail x) e h is = absurd (cc is)
left_by_table table here units (ask_definition name next) e h is = left_by_table table here units (next (table name)) e (h _) is
left_by_table table here units (ask_file next) e h is = left_by_table table here units (next here.name) e (h _) is
left_by_table table here units (ask_line line next) e h is = left_by_table table here units (next _) e (h _) is

pub units_never_rise_by_table : (table : Table) (here : Place) (mode : Mode) (depth units : ℕ) (ts : List Marked) (e : Expanded) →
    expanded_by table here mode depth units ts ≡ Ok e → e.units ≤ units
unfolding expanded_by
units_never_rise_by_table table here mode depth units ts e is =
    left_by_table table here units (expansion mode depth units ts) e (units_never_rise mode depth units ts) is
