-- One step of expansion: its units never rise, and it goes on only where units and list together have fallen.
use Rattle.std.proofs.Common.{◌≡◌, IfSome, ◌&&◌, ℕ, zero, suc, ◌+◌, ◌-◌, ◌<◌, ◌≤◌, Bool, true, false, if◌then◌else◌, ◌==◌, List, [], ◌∷◌, ◌++◌, length, refl, ap, ◌∙◌, Result, Ok, Err, Option, Some, None, arith, length-append, le_refl, le_trans}
use borrow.Author.Tests.{ltb-true}
use mathlib.Core.Path.{fun_ext}
use Rattle.pp_tokens.specs.declared.Kind.{Kind}
use Rattle.pp_tokens.specs.declared.Kind.TheVariants.{Str, Number}
use Rattle.macro_expand.specs.declared.outcome.Mode.{Mode}
use Rattle.pp_tokens.specs.declared.Token.{Token}
use Rattle.macro_defs.specs.declared.definition.Shape.{Shape}
use Rattle.macro_defs.specs.declared.definition.Shape.TheVariants.{Object, Function}
use Rattle.macro_expand.specs.declared.marked.Role.{Role}
use Rattle.macro_expand.specs.declared.marked.Role.TheVariants.{Defined, FileName, LineNumber, Name, Ordinary}
use Rattle.macro_defs.specs.MacroDefinition.{MacroDefinition}
use Rattle.macro_expand.specs.Asking.{Failure, Asking, give, fail, ask_definition, ask_file, ask_line, then_with}
use Rattle.pp_tokens.specs.Marks.{Opening, Closing, Comma, mark_of, is_identifier, is_open, is_close}
use Rattle.macro_expand.specs.Replacement.{Marked, Call, call_with, call_in, after_open, argument_with, cut_at_outer_commas, arguments_of, BodyPart}
use Rattle.macro_expand.specs.Expansion.{Expanded, ExpandedEach, Expander, put_out, call_replacement, go_on, charged, argument_expanded, arguments_expanded, counted, called, function_replaced, macro_replaced, name_replaced, built_in, operand_of_defined, head_role, role_expanded, expansion_step, expansion_within, expansion}
use Rattle.macro_expand.proofs.AskingLaws.{Leaves, Leaves-then_with, then_with-agree}

-- the units left are at most these
abbrev pub AtMost : ℕ → Expanded → Type 0
AtMost units e = e.units ≤ units

abbrev pub AtMostEach : ℕ → ExpandedEach → Type 0
AtMostEach units e = e.units ≤ units

-- an expander that leaves at most the units that it was given
abbrev pub IsFrugal : Expander → Type 0
IsFrugal self = (depth units : ℕ) (ts : List Marked) → Leaves (AtMost units) (self depth units ts)

put_out-frugal : (units : ℕ) (ts : List Marked) (t : Asking Expanded) → Leaves (AtMost units) t → Leaves (AtMost units) (put_out ts t)
unfolding put_out
put_out-frugal units ts t h = Leaves-then_with (AtMost units) (AtMost units) t _ h (λ x k. k)

weaker : (a b : ℕ) (t : Asking Expanded) → a ≤ b → Leaves (AtMost a) t → Leaves (AtMost b) t
weaker a b (give x) h k = le_trans k h
weaker a b (fail e) h k = tt
weaker a b (ask_definition name next) h k = λ d. weaker a b (next d) h (k d)
weaker a b (ask_file next) h k = λ d. weaker a b (next d) h (k d)
weaker a b (ask_line line next) h k = λ d. weaker a b (next d) h (k d)

module _ (self : Expander) (depth : ℕ) (frugal : IsFrugal self) where
  go_on-frugal : (b : Bool) (units most : ℕ) (ts : List Marked) → units ≤ most → Leaves (AtMost most) (go_on self depth b units ts)
  unfolding go_on
  go_on-frugal true units most ts h = weaker units most _ h (frugal depth units ts)
  go_on-frugal false units most ts h = tt

  charged-frugal : (units most : ℕ) (r : Result (List Marked) Failure) (rest : List Marked) → units ≤ most →
      Leaves (AtMost most) (charged self depth units r rest)
  unfolding charged
  charged-frugal units most (Ok ts) rest h = go_on-frugal _ _ most _ (omega arith)
  charged-frugal units most (Err e) rest h = tt

  argument_expanded-frugal : (alone shallow : Bool) (t : Token) (units : ℕ) (a : List Marked) →
      Leaves (AtMost units) (argument_expanded self depth alone shallow t units a)
  unfolding argument_expanded
  argument_expanded-frugal false shallow t units a = le_refl _
  argument_expanded-frugal true true t units a = frugal (suc depth) units a
  argument_expanded-frugal true false t units a = tt

  arguments_expanded-frugal : (t : Token) (parts : List BodyPart) (i units most : ℕ) (args : List (List Marked)) → units ≤ most →
      Leaves (AtMostEach most) (arguments_expanded self depth t parts i units args)
  unfolding arguments_expanded
  arguments_expanded-frugal t parts i units most [] h = h
  arguments_expanded-frugal t parts i units most (a ∷ rest) h =
      Leaves-then_with (AtMost units) (AtMostEach most) _ _ (argument_expanded-frugal _ _ t units a) (λ e k.
      Leaves-then_with (AtMostEach most) (AtMostEach most) _ _
      (arguments_expanded-frugal t parts (suc i) e.units most rest (le_trans k h)) (λ more m. m))

  counted-frugal : (units : ℕ) (t : Marked) (parts : List BodyPart) (variable : Option ℕ) (call : Call) (written : Option (List (List Marked))) →
      Leaves (AtMost units) (counted self depth units t parts variable call written)
  unfolding counted
  counted-frugal units t parts variable call None = tt
  counted-frugal units t parts variable call (Some written) =
      Leaves-then_with (AtMostEach units) (AtMost units) _ _
      (arguments_expanded-frugal t.token parts 0 units units written (le_refl _)) (λ e k. charged-frugal e.units units _ _ k)

  called-frugal : (units : ℕ) (t : Marked) (params : List (List ℕ)) (variadic : Bool) (body : List Token) (call : Option Call) →
      Leaves (AtMost units) (called self depth units t params variadic body call)
  unfolding called
  called-frugal units t params variadic body None = tt
  called-frugal units t params variadic body (Some call) = counted-frugal units t _ _ call _

  function_replaced-frugal : (units : ℕ) (t : Marked) (params : List (List ℕ)) (variadic : Bool) (body : List Token) (rest : List Marked)
      (within : Option (List Marked)) → Leaves (AtMost units) (function_replaced self depth units t params variadic body rest within)
  unfolding function_replaced
  function_replaced-frugal units t params variadic body rest None = put_out-frugal units _ _ (frugal depth units rest)
  function_replaced-frugal units t params variadic body rest (Some within) = called-frugal units t params variadic body _

  macro_replaced-frugal : (units : ℕ) (t : Marked) (rest : List Marked) (body : List Token) (shape : Shape) →
      Leaves (AtMost units) (macro_replaced self depth units t rest body shape)
  unfolding macro_replaced
  macro_replaced-frugal units t rest body Object = charged-frugal units units _ _ (le_refl _)
  macro_replaced-frugal units t rest body (Function params variadic) = function_replaced-frugal units t params variadic body rest _

  name_replaced-frugal : (units : ℕ) (t : Marked) (rest : List Marked) (d : Option MacroDefinition) →
      Leaves (AtMost units) (name_replaced self depth units t rest d)
  unfolding name_replaced
  name_replaced-frugal units t rest None = put_out-frugal units _ _ (frugal depth units rest)
  name_replaced-frugal units t rest (Some d) = macro_replaced-frugal units t rest d.body d.shape

  built_in-frugal : (units : ℕ) (t : Marked) (kind : Kind) (text : List ℕ) (rest : List Marked) →
      Leaves (AtMost units) (built_in self depth units t kind text rest)
  unfolding built_in
  built_in-frugal units t kind text rest = put_out-frugal units _ _ (go_on-frugal _ _ units rest (omega arith))

  role_expanded-frugal : (units : ℕ) (t : Marked) (rest : List Marked) (role : Role) →
      Leaves (AtMost units) (role_expanded self depth units t rest role)
  unfolding role_expanded
  role_expanded-frugal units t rest Ordinary = put_out-frugal units _ _ (frugal depth units rest)
  role_expanded-frugal units t rest Defined = put_out-frugal units _ _ (frugal depth units _)
  role_expanded-frugal units t rest FileName = λ name. built_in-frugal units t _ _ rest
  role_expanded-frugal units t rest LineNumber = λ number. built_in-frugal units t _ _ rest
  role_expanded-frugal units t rest Name = λ d. name_replaced-frugal units t rest d

-- a step over a frugal expander is frugal
pub expansion_step-frugal : (mode : Mode) (self : Expander) → IsFrugal self → IsFrugal (expansion_step mode self)
unfolding expansion_step
expansion_step-frugal mode self frugal depth units [] = le_refl _
expansion_step-frugal mode self frugal depth units (t ∷ rest) = role_expanded-frugal self depth frugal units t rest (head_role mode t rest)

pub expansion_within-frugal : (n : ℕ) (mode : Mode) → IsFrugal (expansion_within n mode)
unfolding expansion_within
expansion_within-frugal zero mode = λ depth units ts. tt
expansion_within-frugal (suc n) mode = expansion_step-frugal mode _ (expansion_within-frugal n mode)

-- Calls and arguments are shorter than the list that they are read from.

abbrev FitsCall : ℕ → Option Call → Type 0
FitsCall k None = Unit {0}
FitsCall k (Some c) = length c.within + suc (length c.after) ≤ k

call_with-fits : (k : ℕ) (t : Marked) (o : Option Call) → FitsCall k o → FitsCall (suc k) (call_with t o)
call_with-fits k t None h = tt
call_with-fits k t (Some c) h = omega arith

call_in-fits : (nesting : ℕ) (ts : List Marked) → FitsCall (length ts) (call_in nesting ts)
unfolding call_in
call_in-fits nesting [] = tt
call_in-fits nesting (t ∷ ts) =
    elim (mark_of t.token) as (λ m. FitsCall (suc (length ts)) (elim m [
      | Opening ↦ call_with t (call_in (suc nesting) ts)
      | Closing ↦ elim nesting [
        | zero ↦ Some (record { within = []; close = t; after = ts })
        | suc less ↦ call_with t (call_in less ts)
      ]
      | _ ↦ call_with t (call_in nesting ts)
    ])) [
      | Opening ↦ call_with-fits _ t _ (call_in-fits (suc nesting) ts)
      | Closing ↦ closing (λ n. call_in-fits n ts) nesting
      | _ ↦ call_with-fits _ t _ (call_in-fits nesting ts)
    ]
  where
    closing : ((n : ℕ) → FitsCall (length ts) (call_in n ts)) → (n : ℕ) → FitsCall (suc (length ts)) (elim n [
      | zero ↦ Some (record { within = []; close = t; after = ts })
      | suc less ↦ call_with t (call_in less ts)
    ])
    closing ih zero = omega arith
    closing ih (suc less) = call_with-fits _ t _ (ih less)

-- each of these lists has at most so many elements
abbrev pub EachShort : ℕ → List (List Marked) → Type 0
EachShort k [] = Unit {0}
EachShort k (a ∷ rest) = (length a ≤ k) × EachShort k rest

EachShort-weaker : (j k : ℕ) (args : List (List Marked)) → j ≤ k → EachShort j args → EachShort k args
EachShort-weaker j k [] h e = tt
EachShort-weaker j k (a ∷ rest) h e = (le_trans e.0 h, EachShort-weaker j k rest h e.1)

EachShort-append : (k : ℕ) (args more : List (List Marked)) → EachShort k args → EachShort k more → EachShort k (args ++ more)
EachShort-append k [] more h e = e
EachShort-append k (a ∷ rest) more h e = (h.0, EachShort-append k rest more h.1 e)

argument_with-short : (k : ℕ) (t : Marked) (args : List (List Marked)) → EachShort k args → EachShort (suc k) (argument_with t args)
argument_with-short k t [] h = (omega arith, tt)
argument_with-short k t (a ∷ rest) h = (omega (arith, h.0), EachShort-weaker k (suc k) rest (omega arith) h.1)

cut_at_outer_commas-short : (cuts nesting : ℕ) (ts : List Marked) → EachShort (length ts) (cut_at_outer_commas cuts nesting ts)
unfolding cut_at_outer_commas
cut_at_outer_commas-short cuts nesting [] = (le_refl _, tt)
cut_at_outer_commas-short cuts nesting (t ∷ ts) =
    elim (mark_of t.token) as (λ m. EachShort (suc (length ts)) (elim m [
      | Opening ↦ argument_with t (cut_at_outer_commas cuts (suc nesting) ts)
      | Closing ↦ argument_with t (cut_at_outer_commas cuts (nesting - 1) ts)
      | Comma ↦ elim (if nesting == 0 then cuts else 0) [
        | zero ↦ argument_with t (cut_at_outer_commas cuts nesting ts)
        | suc less ↦ [] ∷ cut_at_outer_commas less nesting ts
      ]
      | _ ↦ argument_with t (cut_at_outer_commas cuts nesting ts)
    ])) [
      | Opening ↦ argument_with-short _ t _ (cut_at_outer_commas-short cuts (suc nesting) ts)
      | Closing ↦ argument_with-short _ t _ (cut_at_outer_commas-short cuts (nesting - 1) ts)
      | Comma ↦ comma (λ c n. cut_at_outer_commas-short c n ts) (if nesting == 0 then cuts else 0)
      | _ ↦ argument_with-short _ t _ (cut_at_outer_commas-short cuts nesting ts)
    ]
  where
    comma : ((c n : ℕ) → EachShort (length ts) (cut_at_outer_commas c n ts)) → (k : ℕ) → EachShort (suc (length ts)) (elim k [
      | zero ↦ argument_with t (cut_at_outer_commas cuts nesting ts)
      | suc less ↦ [] ∷ cut_at_outer_commas less nesting ts
    ])
    comma ih zero = argument_with-short _ t _ (ih cuts nesting)
    comma ih (suc less) = (omega arith, EachShort-weaker _ _ _ (omega arith) (ih less nesting))

-- the arguments, where there are any
abbrev EachShortIf : ℕ → Option (List (List Marked)) → Type 0
EachShortIf k None = Unit {0}
EachShortIf k (Some args) = EachShort k args

EachShortIf-if : (k : ℕ) (b : Bool) (args : List (List Marked)) (o : Option (List (List Marked))) → EachShort k args → EachShortIf k o →
    EachShortIf k (if b then Some args else o)
EachShortIf-if k true args o h g = h
EachShortIf-if k false args o h g = g

arguments_of-short : (count : ℕ) (variadic : Bool) (ts : List Marked) → EachShortIf (length ts) (arguments_of count variadic ts)
unfolding arguments_of
arguments_of-short count true ts =
    let n : ℕ = length ts in
    let pieces = cut_at_outer_commas (count - 1) 0 ts in
    let short : EachShort (length ts) (cut_at_outer_commas (count - 1) 0 ts) = cut_at_outer_commas-short (count - 1) 0 ts in
    let none : EachShort (length ts) ([] ∷ []) = (omega arith, tt) in
    EachShortIf-if (length ts) (length pieces == count) pieces (if suc (length pieces) == count then Some (pieces ++ [] ∷ []) else None) short
    (EachShortIf-if (length ts) (suc (length pieces) == count) (pieces ++ [] ∷ []) None
    (EachShort-append (length ts) pieces ([] ∷ []) short none) tt)
arguments_of-short zero false [] = tt
arguments_of-short zero false (t ∷ ts) = tt
arguments_of-short (suc count) false ts =
    EachShortIf-if (length ts) (length (cut_at_outer_commas (length ts) 0 ts) == suc count) (cut_at_outer_commas (length ts) 0 ts) None
    (cut_at_outer_commas-short (length ts) 0 ts) tt

if-second : (k : ℕ) (b : Bool) (x y : List Marked × List Marked) → length x.1 ≤ k → length y.1 ≤ k → length (if b then x else y).1 ≤ k
if-second k true x y h g = h
if-second k false x y h g = g

operand_of_defined-short : (ts : List Marked) → length (operand_of_defined ts).1 ≤ length ts
operand_of_defined-short [] = le_refl _
operand_of_defined-short (a ∷ []) = if-second 1 (is_identifier a.token) (a ∷ [], []) ([], a ∷ []) (omega arith) (le_refl 1)
operand_of_defined-short (a ∷ b ∷ []) =
    if-second 2 (is_identifier a.token) (a ∷ [], b ∷ []) ([], a ∷ b ∷ []) (omega arith) (le_refl 2)
operand_of_defined-short (a ∷ b ∷ c ∷ ts) =
    let all : List Marked × List Marked = ([], a ∷ b ∷ c ∷ ts) in
    let three : List Marked × List Marked = (a ∷ b ∷ c ∷ [], ts) in
    let most : ℕ = suc (suc (suc (length ts))) in
    let second = is_open a.token && is_identifier b.token && is_close c.token in
    if-second most (is_identifier a.token) (a ∷ [], b ∷ c ∷ ts) (if second then three else all) (omega arith)
    (if-second most second three all (omega arith) (le_refl most))

after_open-short : (ts : List Marked) → IfSome (after_open ts) (λ w. suc (length w) ≤ length ts)
after_open-short [] = tt
after_open-short (t ∷ ts) = go (is_open t.token)
  where
    go : (b : Bool) → IfSome (if b then Some ts else None) (λ w. suc (length w) ≤ suc (length ts))
    go true = le_refl _
    go false = tt

-- Two expanders that agree where units and list together are below a bound: a step over one is a step over the other.

abbrev pub Agree : ℕ → Expander → Expander → Type 0
Agree k self other = (depth units : ℕ) (ts : List Marked) → units + length ts < k → self depth units ts ≡ other depth units ts

module _ (k : ℕ) (self other : Expander) (depth : ℕ) (frugal : IsFrugal self) (agree : Agree k self other) where
  go_on-agree : (b : Bool) (units : ℕ) (ts : List Marked) → (b ≡ true → units + length ts < k) →
      go_on self depth b units ts ≡ go_on other depth b units ts
  unfolding go_on
  go_on-agree true units ts h = agree depth units ts (h refl)
  go_on-agree false units ts h = refl

  charged-agree : (units : ℕ) (r : Result (List Marked) Failure) (rest : List Marked) → units + length rest ≤ k →
      charged self depth units r rest ≡ charged other depth units r rest
  unfolding charged
  charged-agree units (Ok ts) rest h =
      go_on-agree _ _ _ (λ e. let lt : length ts < units = ltb-true _ _ e in omega (arith, length-append ts rest))
  charged-agree units (Err e) rest h = refl

  argument_expanded-agree : (alone shallow : Bool) (t : Token) (units : ℕ) (a : List Marked) → units + length a < k →
      argument_expanded self depth alone shallow t units a ≡ argument_expanded other depth alone shallow t units a
  unfolding argument_expanded
  argument_expanded-agree false shallow t units a h = refl
  argument_expanded-agree true true t units a h = agree (suc depth) units a h
  argument_expanded-agree true false t units a h = refl

  arguments_expanded-agree : (t : Token) (parts : List BodyPart) (i units longest : ℕ) (args : List (List Marked)) →
      EachShort longest args → units + longest < k →
      arguments_expanded self depth t parts i units args ≡ arguments_expanded other depth t parts i units args
  unfolding arguments_expanded
  arguments_expanded-agree t parts i units longest [] short h = refl
  arguments_expanded-agree t parts i units longest (a ∷ rest) short h =
      then_with-agree (AtMost units) _ _ _ (argument_expanded-frugal self depth frugal _ _ t units a)
      (λ e le. ap (λ w. then_with w (λ more. give (record { lists = e.tokens ∷ more.lists; units = more.units })))
      (arguments_expanded-agree t parts (suc i) e.units longest rest short.1 (omega arith)))
      ∙ ap (λ w. then_with w (λ e.
      then_with (arguments_expanded other depth t parts (suc i) e.units rest) (λ more.
      give (record { lists = e.tokens ∷ more.lists; units = more.units }))))
      (argument_expanded-agree _ _ t units a (omega (arith, short.0)))

  counted-agree : (units : ℕ) (t : Marked) (parts : List BodyPart) (variable : Option ℕ) (call : Call) (written : Option (List (List Marked))) →
      EachShortIf (length call.within) written → units + length call.within < k → units + length call.after ≤ k →
      counted self depth units t parts variable call written ≡ counted other depth units t parts variable call written
  unfolding counted
  counted-agree units t parts variable call None short h g = refl
  counted-agree units t parts variable call (Some written) short h g =
      then_with-agree (AtMostEach units) _ _ _ (arguments_expanded-frugal self depth frugal t.token parts 0 units units written (le_refl _))
      (λ e le. charged-agree e.units (call_replacement t parts variable call written e.lists) call.after (omega arith))
      ∙ ap (λ w. then_with w (λ e. charged other depth e.units (call_replacement t parts variable call written e.lists) call.after))
      (arguments_expanded-agree t.token parts 0 units (length call.within) written short h)

  called-agree : (units : ℕ) (t : Marked) (params : List (List ℕ)) (variadic : Bool) (body : List Token) (n : ℕ) (call : Option Call) →
      FitsCall n call → units + n ≤ k →
      called self depth units t params variadic body call ≡ called other depth units t params variadic body call
  unfolding called
  called-agree units t params variadic body n None fits h = refl
  called-agree units t params variadic body n (Some call) fits h =
      counted-agree units t _ _ call _ (arguments_of-short _ variadic call.within) (omega arith) (omega arith)

  function_replaced-agree : (units : ℕ) (t : Marked) (params : List (List ℕ)) (variadic : Bool) (body : List Token) (rest : List Marked)
      (within : Option (List Marked)) → IfSome within (λ w. suc (length w) ≤ length rest) → units + length rest < k →
      function_replaced self depth units t params variadic body rest within
      ≡ function_replaced other depth units t params variadic body rest within
  unfolding function_replaced
  function_replaced-agree units t params variadic body rest None fits h = ap (put_out _) (agree depth units rest h)
  function_replaced-agree units t params variadic body rest (Some w) fits h =
      called-agree units t params variadic body (length w) (call_in 0 w) (call_in-fits 0 w) (omega arith)

  macro_replaced-agree : (units : ℕ) (t : Marked) (rest : List Marked) (body : List Token) (shape : Shape) → units + length rest < k →
      macro_replaced self depth units t rest body shape ≡ macro_replaced other depth units t rest body shape
  unfolding macro_replaced
  macro_replaced-agree units t rest body Object h = charged-agree units _ rest (omega arith)
  macro_replaced-agree units t rest body (Function params variadic) h =
      function_replaced-agree units t params variadic body rest (after_open rest) (after_open-short rest) h

  name_replaced-agree : (units : ℕ) (t : Marked) (rest : List Marked) (d : Option MacroDefinition) → units + length rest < k →
      name_replaced self depth units t rest d ≡ name_replaced other depth units t rest d
  unfolding name_replaced
  name_replaced-agree units t rest None h = ap (put_out _) (agree depth units rest h)
  name_replaced-agree units t rest (Some d) h = macro_replaced-agree units t rest d.body d.shape h

  built_in-agree : (units : ℕ) (t : Marked) (kind : Kind) (text : List ℕ) (rest : List Marked) → units + length rest < k →
      built_in self depth units t kind text rest ≡ built_in other depth units t kind text rest
  unfolding built_in
  built_in-agree units t kind text rest h = ap (put_out _) (go_on-agree _ _ rest (λ e. omega arith))

  role_expanded-agree : (units : ℕ) (t : Marked) (rest : List Marked) (role : Role) → units + length rest < k →
      role_expanded self depth units t rest role ≡ role_expanded other depth units t rest role
  unfolding role_expanded
  role_expanded-agree units t rest Ordinary h = ap (put_out _) (agree depth units rest h)
  role_expanded-agree units t rest Defined h =
      ap (put_out _) (agree depth units _ (omega (arith, operand_of_defined-short rest)))
  role_expanded-agree units t rest FileName h =
      ap ask_file (fun_ext (λ name. built_in-agree units t Str (34 ∷ name ++ 34 ∷ []) rest h))
  role_expanded-agree units t rest LineNumber h =
      ap (ask_line t.token.line) (fun_ext (λ number. built_in-agree units t Number number rest h))
  role_expanded-agree units t rest Name h =
      ap (ask_definition t.token.text) (fun_ext (λ d. name_replaced-agree units t rest d h))

expansion_step-agree : (k : ℕ) (mode : Mode) (self other : Expander) → IsFrugal self → Agree k self other →
    Agree (suc k) (expansion_step mode self) (expansion_step mode other)
unfolding expansion_step
expansion_step-agree k mode self other frugal agree depth units [] h = refl
expansion_step-agree k mode self other frugal agree depth units (t ∷ rest) h =
    role_expanded-agree k self other depth frugal agree units t rest (head_role mode t rest) (omega arith)

-- with enough steps, more steps change nothing
pub expansion_within-agree : (k n m : ℕ) (mode : Mode) → k ≤ n → k ≤ m → Agree k (expansion_within n mode) (expansion_within m mode)
unfolding expansion_within
expansion_within-agree zero n m mode h g = λ depth units ts lt. absurd (omega arith)
expansion_within-agree (suc k) zero m mode h g = absurd (omega arith)
expansion_within-agree (suc k) (suc n) zero mode h g = absurd (omega arith)
expansion_within-agree (suc k) (suc n) (suc m) mode h g =
    expansion_step-agree k mode _ _ (expansion_within-frugal n mode) (expansion_within-agree k n m mode (omega arith) (omega arith))

-- Expansion is one step over itself: its recursion never meets the bound on its steps.
pub expansion-unfolds : (mode : Mode) (depth units : ℕ) (ts : List Marked) →
    expansion mode depth units ts ≡ expansion_step mode (expansion mode) depth units ts
unfolding expansion expansion_within
expansion-unfolds mode depth units ts =
    expansion_step-agree (units + length ts) mode _ _ (expansion_within-frugal (units + length ts) mode)
    (λ d u us lt. expansion_within-agree (suc (u + length us)) (units + length ts) (suc (u + length us)) mode lt (le_refl _) d u us (le_refl _))
    depth units ts (le_refl _)
