-- How an expansion goes on, token by token, whoever answers.
use Rattle.std.proofs.Common.{◌≡◌, ℕ, suc, add-one, ◌+◌, ◌-◌, ◌<◌, ◌≤◌, Bool, true, false, ◌⊎◌, inl, inr, List, [], ◌∷◌, ◌++◌, length, refl, ap, sym, ◌∙◌, append_assoc, Result, Ok, Err, Option, Some, None, arith, nat_lt}
use mathlib.Core.Path.{fun_ext}
use Rattle.std.proofs.lemmas.Bool.{le-ltb, lt-ltb}
use Rattle.base_types.specs.Limits.{argument_depth_limit}
use Rattle.macro_expand.specs.declared.outcome.Mode.{Mode}
use Rattle.pp_tokens.specs.declared.Kind.{Kind}
use Rattle.pp_tokens.specs.declared.Kind.TheVariants.{Str, Number}
use Rattle.pp_tokens.specs.declared.Token.{Token}
use Rattle.macro_expand.specs.declared.marked.Role.TheVariants.{Name, Ordinary, Defined, FileName, LineNumber}
use Rattle.macro_defs.specs.declared.definition.Shape.TheVariants.{Object, Function}
use Rattle.macro_defs.specs.MacroDefinition.{MacroDefinition}
use Rattle.macro_expand.specs.Asking.{Failure, Count, Unclosed, Deep, Work, Asking, give, fail, ask_definition, ask_file, ask_line, then_with}
use Rattle.macro_expand.specs.Replacement.{Marked, BodyPart, Call, call_in, after_open, arguments_of, body_parts, stands_alone}
use Rattle.macro_expand.specs.Expansion.{ExpandedEach, argument_expanded, arguments_expanded, counted, called, function_replaced, call_replacement, variable_of, Expanded, expansion, expansion_step, head_role, role_expanded, name_replaced, macro_replaced, charged, go_on, put_out, object_replacement, operand_of_defined, replaced_token, built_in, Table, Place, by_table}
use Rattle.macro_expand.specs.Answered.{Answerer, Stop, ByFailure, ByPresumed, Answered, with_text, answered, after_result, answered_and_then, before, expanded_for, charged_for, argument_for, arguments_for, table_answerer}
use Rattle.macro_expand.specs.parts.Steps.{EachStaysFor}
use Rattle.macro_expand.proofs.StepLaws.{expansion-unfolds}

-- the first part, and then what follows its result
pub answered-then_with : {A B S : Type 0} (w : Answerer S) (s : S) (t : Asking A) (f : A → Asking B) →
    answered w s (then_with t f) ≡ answered_and_then (answered w s t) (λ x u. answered w u (f x))
unfolding answered then_with answered_and_then after_result
answered-then_with w s (give x) f = refl
answered-then_with w s (fail e) f = refl
answered-then_with w s (ask_definition name next) f =
    answered-then_with w (w.definition s name).state (next (w.definition s name).answer) f
answered-then_with {A = A} {B = B} w s (ask_file next) f =
    go (w.file s).answer (w.file s).state (λ n. answered-then_with w (w.file s).state (next n) f)
  where
    go : (o : Option (List ℕ)) (u : _) → ((n : List ℕ) → answered w u (then_with (next n) f) ≡ answered_and_then (answered w u (next n)) (λ x v. answered w v (f x))) →
        with_text o u (λ n. answered w u (then_with (next n) f)) ≡ answered_and_then (with_text o u (λ n. answered w u (next n))) (λ x v. answered w v (f x))
    go None u ih = refl
    go (Some n) u ih = ih n
answered-then_with {A = A} {B = B} w s (ask_line line next) f =
    go (w.line s line).answer (w.line s line).state (λ n. answered-then_with w (w.line s line).state (next n) f)
  where
    go : (o : Option (List ℕ)) (u : _) → ((n : List ℕ) → answered w u (then_with (next n) f) ≡ answered_and_then (answered w u (next n)) (λ x v. answered w v (f x))) →
        with_text o u (λ n. answered w u (then_with (next n) f)) ≡ answered_and_then (with_text o u (λ n. answered w u (next n))) (λ x v. answered w v (f x))
    go None u ih = refl
    go (Some n) u ih = ih n

pub before-nothing : {S : Type 0} (a : Answered Expanded S) → before [] a ≡ a
unfolding before answered_and_then after_result
before-nothing a = go a.result
  where
    go : (r : Result Expanded Stop) → after_result r a.state (λ e s. record { result = Ok (record e { tokens = [] ++ e.tokens }); state = s }) ≡ record { result = r; state = a.state }
    go (Ok e) = refl
    go (Err e) = refl

pub before-before : {S : Type 0} (a b : List Marked) (r : Answered Expanded S) → before a (before b r) ≡ before (a ++ b) r
unfolding before answered_and_then after_result
before-before a b r = go r.result
  where
    go : (q : Result Expanded Stop) → before a (before b (record { result = q; state = r.state })) ≡ before (a ++ b) (record { result = q; state = r.state })
    go (Ok e) = ap (λ w. record { result = Ok (record e { tokens = w }); state = r.state }) (sym (append_assoc a b e.tokens))
    go (Err e) = refl

module _ {S : Type 0} (w : Answerer S) (s : S) (mode : Mode) (depth units : ℕ) where
  answered-put_out : (ts : List Marked) (t : Asking Expanded) → answered w s (put_out ts t) ≡ before ts (answered w s t)
  unfolding put_out before answered
  answered-put_out ts t = answered-then_with w s t _

  pub expanded_for-nil : expanded_for w s mode depth units [] ≡ record { result = Ok (record { tokens = []; units = units }); state = s }
  unfolding expanded_for expansion_step answered
  expanded_for-nil = ap (answered w s) (expansion-unfolds mode depth units [])

  expanded_for-step : (t : Marked) (rest : List Marked) →
      expanded_for w s mode depth units (t ∷ rest) ≡ answered w s (role_expanded (expansion mode) depth units t rest (head_role mode t rest))
  unfolding expanded_for expansion_step
  expanded_for-step t rest = ap (answered w s) (expansion-unfolds mode depth units (t ∷ rest))

  pub expanded_for-ordinary : (t : Marked) (rest : List Marked) → head_role mode t rest ≡ Ordinary →
      expanded_for w s mode depth units (t ∷ rest) ≡ before (t ∷ []) (expanded_for w s mode depth units rest)
  unfolding expanded_for role_expanded
  expanded_for-ordinary t rest e =
      expanded_for-step t rest
      ∙ ap (λ r. answered w s (role_expanded (expansion mode) depth units t rest r)) e
      ∙ answered-put_out (t ∷ []) (expansion mode depth units rest)

  pub expanded_for-defined : (t : Marked) (rest : List Marked) → head_role mode t rest ≡ Defined →
      expanded_for w s mode depth units (t ∷ rest)
      ≡ before (t ∷ (operand_of_defined rest).0) (expanded_for w s mode depth units (operand_of_defined rest).1)
  unfolding expanded_for role_expanded
  expanded_for-defined t rest e =
      expanded_for-step t rest
      ∙ ap (λ r. answered w s (role_expanded (expansion mode) depth units t rest r)) e
      ∙ answered-put_out (t ∷ (operand_of_defined rest).0) (expansion mode depth units (operand_of_defined rest).1)

  -- a token in the place of `__FILE__` or `__LINE__`
  built_in-paid : (t : Marked) (kind : Kind) (text : List ℕ) (rest : List Marked) (left : ℕ) → left + 2 ≡ units →
      answered w s (built_in (expansion mode) depth units t kind text rest)
      ≡ before (replaced_token t kind text ∷ []) (expanded_for w s mode depth left rest)
  unfolding built_in go_on expanded_for
  built_in-paid t kind text rest left paid =
      let fits : 1 < units = omega arith in
      let rest_units : units - 2 ≡ left = omega arith in
      ap (λ b. answered w s (put_out (replaced_token t kind text ∷ []) (go_on (expansion mode) depth b (units - 2) rest))) (lt-ltb 1 units fits)
      ∙ ap (λ u. answered w s (put_out (replaced_token t kind text ∷ []) (expansion mode depth u rest))) rest_units
      ∙ answered-put_out (replaced_token t kind text ∷ []) (expansion mode depth left rest)

  built_in-work : (t : Marked) (kind : Kind) (text : List ℕ) (rest : List Marked) → units ≤ 1 →
      answered w s (built_in (expansion mode) depth units t kind text rest) ≡ record { result = Err (ByFailure Work); state = s }
  unfolding built_in go_on put_out then_with answered
  built_in-work t kind text rest out =
      ap (λ b. answered w s (put_out (replaced_token t kind text ∷ []) (go_on (expansion mode) depth b (units - 2) rest))) (le-ltb 1 units out)

module _ {S : Type 0} (w : Answerer S) (s : S) (mode : Mode) (depth units : ℕ) (t : Marked) (rest : List Marked) (u : S) where
  module _ (role : head_role mode t rest ≡ FileName) (state : (w.file s).state ≡ u) where
    expanded_for-file : (o : Option (List ℕ)) → (w.file s).answer ≡ o →
        expanded_for w s mode depth units (t ∷ rest)
        ≡ with_text o u (λ name. answered w u (built_in (expansion mode) depth units t Str (34 ∷ name ++ 34 ∷ []) rest))
    unfolding role_expanded answered
    expanded_for-file o e =
        expanded_for-step w s mode depth units t rest
        ∙ ap (λ r. answered w s (role_expanded (expansion mode) depth units t rest r)) role
        ∙ ap (λ o. with_text o (w.file s).state (λ name. answered w (w.file s).state (built_in (expansion mode) depth units t Str (34 ∷ name ++ 34 ∷ []) rest))) e
        ∙ ap (λ v. with_text o v (λ name. answered w v (built_in (expansion mode) depth units t Str (34 ∷ name ++ 34 ∷ []) rest))) state

    pub expanded_for-file_unknown : (w.file s).answer ≡ None → expanded_for w s mode depth units (t ∷ rest) ≡ record { result = Err ByPresumed; state = u }
    expanded_for-file_unknown e = expanded_for-file None e

    pub expanded_for-file_paid : (name : List ℕ) (left : ℕ) → (w.file s).answer ≡ Some name → left + 2 ≡ units →
        expanded_for w s mode depth units (t ∷ rest) ≡ before (replaced_token t Str (34 ∷ name ++ 34 ∷ []) ∷ []) (expanded_for w u mode depth left rest)
    expanded_for-file_paid name left e paid = expanded_for-file (Some name) e ∙ built_in-paid w u mode depth units t Str (34 ∷ name ++ 34 ∷ []) rest left paid

    pub expanded_for-file_work : (name : List ℕ) → (w.file s).answer ≡ Some name → units ≤ 1 →
        expanded_for w s mode depth units (t ∷ rest) ≡ record { result = Err (ByFailure Work); state = u }
    expanded_for-file_work name e out = expanded_for-file (Some name) e ∙ built_in-work w u mode depth units t Str (34 ∷ name ++ 34 ∷ []) rest out

  module _ (role : head_role mode t rest ≡ LineNumber) (state : (w.line s t.token.line).state ≡ u) where
    expanded_for-line : (o : Option (List ℕ)) → (w.line s t.token.line).answer ≡ o →
        expanded_for w s mode depth units (t ∷ rest)
        ≡ with_text o u (λ name. answered w u (built_in (expansion mode) depth units t Number name rest))
    unfolding role_expanded answered
    expanded_for-line o e =
        expanded_for-step w s mode depth units t rest
        ∙ ap (λ r. answered w s (role_expanded (expansion mode) depth units t rest r)) role
        ∙ ap (λ o. with_text o (w.line s t.token.line).state (λ name. answered w (w.line s t.token.line).state (built_in (expansion mode) depth units t Number name rest))) e
        ∙ ap (λ v. with_text o v (λ name. answered w v (built_in (expansion mode) depth units t Number name rest))) state

    pub expanded_for-line_unknown : (w.line s t.token.line).answer ≡ None → expanded_for w s mode depth units (t ∷ rest) ≡ record { result = Err ByPresumed; state = u }
    expanded_for-line_unknown e = expanded_for-line None e

    pub expanded_for-line_paid : (name : List ℕ) (left : ℕ) → (w.line s t.token.line).answer ≡ Some name → left + 2 ≡ units →
        expanded_for w s mode depth units (t ∷ rest) ≡ before (replaced_token t Number name ∷ []) (expanded_for w u mode depth left rest)
    expanded_for-line_paid name left e paid = expanded_for-line (Some name) e ∙ built_in-paid w u mode depth units t Number name rest left paid

    pub expanded_for-line_work : (name : List ℕ) → (w.line s t.token.line).answer ≡ Some name → units ≤ 1 →
        expanded_for w s mode depth units (t ∷ rest) ≡ record { result = Err (ByFailure Work); state = u }
    expanded_for-line_work name e out = expanded_for-line (Some name) e ∙ built_in-work w u mode depth units t Number name rest out

-- Replacements and their charge.
module _ {S : Type 0} (w : Answerer S) (s : S) (mode : Mode) (depth units : ℕ) where
  pub charged_for-work : (ts rest : List Marked) → units ≤ length ts →
      charged_for w s mode depth units (Ok ts) rest ≡ record { result = Err (ByFailure Work); state = s }
  unfolding charged_for charged answered go_on
  charged_for-work ts rest out =
      ap (λ b. answered w s (go_on (expansion mode) depth b (units - suc (length ts)) (ts ++ rest)))
      (le-ltb (length ts) units out)

  pub charged_for-paid : (ts rest : List Marked) (left : ℕ) → left + length ts + 1 ≡ units →
      charged_for w s mode depth units (Ok ts) rest ≡ expanded_for w s mode depth left (ts ++ rest)
  unfolding charged_for charged go_on expanded_for
  charged_for-paid ts rest left paid =
      let fits : length ts < units = omega arith in
      let rest_units : units - suc (length ts) ≡ left = omega arith in
      ap (λ b. answered w s (go_on (expansion mode) depth b (units - suc (length ts)) (ts ++ rest)))
      (lt-ltb (length ts) units fits)
      ∙ ap (λ u. answered w s (expansion mode depth u (ts ++ rest))) rest_units

  pub charged_for-error : (e : Failure) (rest : List Marked) →
      charged_for w s mode depth units (Err e) rest ≡ record { result = Err (ByFailure e); state = s }
  unfolding charged_for charged answered
  charged_for-error e rest = refl

-- Names, by the definition that the answerer gives, which leaves the state `u`.
module _ {S : Type 0} (w : Answerer S) (s u : S) (mode : Mode) (depth units : ℕ) (t : Marked) (rest : List Marked)
    (role : head_role mode t rest ≡ Name) (state : (w.definition s t.token.text).state ≡ u) where
  expanded_for-name : (d : Option MacroDefinition) → (w.definition s t.token.text).answer ≡ d →
      expanded_for w s mode depth units (t ∷ rest) ≡ answered w u (name_replaced (expansion mode) depth units t rest d)
  unfolding role_expanded answered
  expanded_for-name d e =
      expanded_for-step w s mode depth units t rest
      ∙ ap (λ r. answered w s (role_expanded (expansion mode) depth units t rest r)) role
      ∙ ap (λ v. answered w v (name_replaced (expansion mode) depth units t rest (w.definition s t.token.text).answer)) state
      ∙ ap (λ d. answered w u (name_replaced (expansion mode) depth units t rest d)) e

  pub expanded_for-undefined : (w.definition s t.token.text).answer ≡ None →
      expanded_for w s mode depth units (t ∷ rest) ≡ before (t ∷ []) (expanded_for w u mode depth units rest)
  unfolding expanded_for name_replaced
  expanded_for-undefined e = expanded_for-name None e ∙ answered-put_out w u mode depth units (t ∷ []) (expansion mode depth units rest)

  module _ (d : MacroDefinition) (some : (w.definition s t.token.text).answer ≡ Some d) where
    pub expanded_for-object : d.shape ≡ Object →
        expanded_for w s mode depth units (t ∷ rest) ≡ charged_for w u mode depth units (object_replacement t d.body) rest
    unfolding name_replaced macro_replaced charged_for
    expanded_for-object shape =
        expanded_for-name (Some d) some
        ∙ ap (λ q. answered w u (macro_replaced (expansion mode) depth units t rest d.body q)) shape

    module _ (params : List (List ℕ)) (variadic : Bool) (shape : d.shape ≡ Function params variadic) where
      expanded_for-function : (within : Option (List Marked)) → after_open rest ≡ within →
          expanded_for w s mode depth units (t ∷ rest)
          ≡ answered w u (function_replaced (expansion mode) depth units t params variadic d.body rest within)
      unfolding name_replaced macro_replaced
      expanded_for-function within e =
          expanded_for-name (Some d) some
          ∙ ap (λ q. answered w u (macro_replaced (expansion mode) depth units t rest d.body q)) shape
          ∙ ap (λ q. answered w u (function_replaced (expansion mode) depth units t params variadic d.body rest q)) e

      pub expanded_for-not_called : after_open rest ≡ None →
          expanded_for w s mode depth units (t ∷ rest) ≡ before (t ∷ []) (expanded_for w u mode depth units rest)
      unfolding function_replaced expanded_for
      expanded_for-not_called e =
          expanded_for-function None e ∙ answered-put_out w u mode depth units (t ∷ []) (expansion mode depth units rest)

      module _ (within : List Marked) (opened : after_open rest ≡ Some within) where
        pub expanded_for-unclosed : call_in 0 within ≡ None →
            expanded_for w s mode depth units (t ∷ rest) ≡ record { result = Err (ByFailure (Unclosed t.token.text t.token.line)); state = u }
        unfolding function_replaced called answered
        expanded_for-unclosed e =
            expanded_for-function (Some within) opened
            ∙ ap (λ c. answered w u (called (expansion mode) depth units t params variadic d.body c)) e

        module _ (call : Call) (read : call_in 0 within ≡ Some call) where
          pub expanded_for-count : arguments_of (length params) variadic call.within ≡ None →
              expanded_for w s mode depth units (t ∷ rest) ≡ record { result = Err (ByFailure (Count t.token.text t.token.line)); state = u }
          unfolding function_replaced called counted answered
          expanded_for-count e =
              expanded_for-function (Some within) opened
              ∙ ap (λ c. answered w u (called (expansion mode) depth units t params variadic d.body c)) read
              ∙ ap (λ q. answered w u (counted (expansion mode) depth units t (body_parts params d.body) (variable_of params variadic) call q)) e

          -- a call with its arguments: they are expanded, and then the replacement is charged
          pub expanded_for-called : (written : List (List Marked)) → arguments_of (length params) variadic call.within ≡ Some written →
              expanded_for w s mode depth units (t ∷ rest)
              ≡ answered_and_then (arguments_for w u mode depth t.token (body_parts params d.body) 0 units written) (λ e v.
              charged_for w v mode depth e.units
              (call_replacement t (body_parts params d.body) (variable_of params variadic) call written e.lists) call.after)
          unfolding function_replaced called counted arguments_for charged_for
          expanded_for-called written e =
              expanded_for-function (Some within) opened
              ∙ ap (λ c. answered w u (called (expansion mode) depth units t params variadic d.body c)) read
              ∙ ap (λ q. answered w u (counted (expansion mode) depth units t (body_parts params d.body) (variable_of params variadic) call q)) e
              ∙ answered-then_with w u (arguments_expanded (expansion mode) depth t.token (body_parts params d.body) 0 units written) _

-- The arguments of a call.
-- lists before other lists
unfoldable pub before_all : {S : Type 0} → List (List Marked) → Answered ExpandedEach S → Answered ExpandedEach S
before_all ls a = answered_and_then a (λ e s. record { result = Ok (record e { lists = ls ++ e.lists }); state = s })

-- Tokens that are put out as they are, whoever was asked before, stand for themselves.
pub expanded_for-staying : {S : Type 0} (w : Answerer S) (s : S) (mode : Mode) (depth units : ℕ) (ts : List Marked) → EachStaysFor w mode ts →
    expanded_for w s mode depth units ts ≡ record { result = Ok (record { tokens = ts; units = units }); state = s }
unfolding before answered_and_then after_result
expanded_for-staying w s mode depth units [] each = expanded_for-nil w s mode depth units
expanded_for-staying w s mode depth units (t ∷ ts) each = go (each.0 ts) ∙ ap (before (t ∷ [])) (expanded_for-staying w s mode depth units ts each.1)
  where
    go : (head_role mode t ts ≡ Ordinary) ⊎ ((head_role mode t ts ≡ Name) × ((u : _) → w.definition u t.token.text ≡ record { answer = None; state = u })) →
        expanded_for w s mode depth units (t ∷ ts) ≡ before (t ∷ []) (expanded_for w s mode depth units ts)
    go (inl ordinary) = expanded_for-ordinary w s mode depth units t ts ordinary
    go (inr (name, lacks)) =
        expanded_for-undefined w s s mode depth units t ts name (ap (λ r. r.state) (lacks s)) (ap (λ r. r.answer) (lacks s))

pub before_all-nothing : {S : Type 0} (a : Answered ExpandedEach S) → before_all [] a ≡ a
unfolding before_all answered_and_then after_result
before_all-nothing a = go a.result
  where
    go : (r : Result ExpandedEach Stop) → before_all [] (record { result = r; state = a.state }) ≡ record { result = r; state = a.state }
    go (Ok e) = refl
    go (Err e) = refl

pub before_all-lists : {S : Type 0} (ls : List (List Marked)) (ts : List Marked) (a : Answered ExpandedEach S) →
    before_all ls (before_all (ts ∷ []) a) ≡ before_all (ls ++ ts ∷ []) a
unfolding before_all answered_and_then after_result
before_all-lists ls ts a = go a.result
  where
    go : (r : Result ExpandedEach Stop) → before_all ls (before_all (ts ∷ []) (record { result = r; state = a.state })) ≡ before_all (ls ++ ts ∷ []) (record { result = r; state = a.state })
    go (Ok e) = ap (λ q. record { result = Ok (record e { lists = q }); state = a.state }) (sym (append_assoc ls (ts ∷ []) e.lists))
    go (Err e) = refl

module _ {S : Type 0} (w : Answerer S) (s : S) (mode : Mode) (depth : ℕ) (t : Token) (parts : List BodyPart) where
  pub arguments_for-nil : (i units : ℕ) →
      arguments_for w s mode depth t parts i units [] ≡ record { result = Ok (record { lists = []; units = units }); state = s }
  unfolding arguments_for arguments_expanded answered
  arguments_for-nil i units = refl

  arguments_for-cons : (i units : ℕ) (a : List Marked) (rest : List (List Marked)) →
      arguments_for w s mode depth t parts i units (a ∷ rest)
      ≡ answered_and_then (argument_for w s mode depth t (stands_alone i None parts) units a)
      (λ e v. before_all (e.tokens ∷ []) (arguments_for w v mode depth t parts (suc i) e.units rest))
  unfolding arguments_for arguments_expanded answered argument_for before_all
  arguments_for-cons i units a rest =
      answered-then_with w s (argument_expanded (expansion mode) depth (stands_alone i None parts) (nat_lt depth argument_depth_limit) t units a) _
      ∙ ap (answered_and_then (answered w s (argument_expanded (expansion mode) depth (stands_alone i None parts) (nat_lt depth argument_depth_limit) t units a)))
      (fun_ext (λ e. fun_ext (λ v. answered-then_with w v (arguments_expanded (expansion mode) depth t parts (suc i) e.units rest) _)))

  pub arguments_for-next : (i units : ℕ) (a : List Marked) (rest : List (List Marked)) (alone : Bool) → stands_alone i None parts ≡ alone →
      arguments_for w s mode depth t parts i units (a ∷ rest)
      ≡ answered_and_then (argument_for w s mode depth t alone units a)
      (λ e v. before_all (e.tokens ∷ []) (arguments_for w v mode depth t parts (suc i) e.units rest))
  arguments_for-next i units a rest alone is =
      arguments_for-cons i units a rest
      ∙ ap (λ b. answered_and_then (argument_for w s mode depth t b units a) (λ e v. before_all (e.tokens ∷ []) (arguments_for w v mode depth t parts (suc i) e.units rest))) is

module _ {S : Type 0} (w : Answerer S) (s : S) (mode : Mode) (depth : ℕ) (t : Token) (units : ℕ) (a : List Marked) where
  pub argument_for-skipped : argument_for w s mode depth t false units a ≡ record { result = Ok (record { tokens = []; units = units }); state = s }
  unfolding argument_for argument_expanded answered
  argument_for-skipped = refl

  pub argument_for-deep : argument_depth_limit ≤ depth → argument_for w s mode depth t true units a ≡ record { result = Err (ByFailure (Deep t.line)); state = s }
  unfolding argument_for argument_expanded answered
  argument_for-deep deep = ap (λ b. answered w s (argument_expanded (expansion mode) depth true b t units a)) (le-ltb depth argument_depth_limit deep)

  pub argument_for-alone : depth < argument_depth_limit → argument_for w s mode depth t true units a ≡ expanded_for w s mode (depth + 1) units a
  unfolding argument_for argument_expanded expanded_for
  argument_for-alone shallow =
      ap (λ b. answered w s (argument_expanded (expansion mode) depth true b t units a)) (lt-ltb depth argument_depth_limit shallow)
      ∙ ap (λ n. answered w s (expansion mode n units a)) (sym (add-one depth))

-- A table is an answerer that keeps its state.
abbrev pub lifted : {A : Type 0} → Result A Failure → Result A Stop
lifted (Ok x) = Ok x
lifted (Err e) = Err (ByFailure e)

pub answered-table : {A S : Type 0} (table : S → Table) (here : S → Place) (s : S) (t : Asking A) →
    answered (table_answerer table here) s t ≡ record { result = lifted (by_table (table s) (here s) t); state = s }
unfolding answered by_table
answered-table table here s (give x) = refl
answered-table table here s (fail e) = refl
answered-table table here s (ask_definition name next) = answered-table table here s (next (table s name))
answered-table table here s (ask_file next) = answered-table table here s (next (here s).name)
answered-table table here s (ask_line line next) = answered-table table here s (next _)
