-- Expansions of one list with different units are alike until one of them has no units left.
use Rattle.std.proofs.Common.{◌≡◌, ℕ, zero, suc, ◌+◌, ◌<◌, Bool, true, false, List, [], ◌∷◌, ◌++◌, length, refl, ap, subst, Result, Ok, Err, Option, Some, None, arith}
use borrow.Author.Tests.{ltb-true}
use Rattle.pp_tokens.specs.declared.Kind.{Kind}
use Rattle.pp_tokens.specs.declared.Kind.TheVariants.{Str, Number}
use Rattle.macro_expand.specs.declared.outcome.Mode.{Mode}
use Rattle.pp_tokens.specs.declared.Token.{Token}
use Rattle.macro_defs.specs.declared.definition.Shape.{Shape}
use Rattle.macro_defs.specs.declared.definition.Shape.TheVariants.{Object, Function}
use Rattle.macro_expand.specs.declared.marked.Role.{Role}
use Rattle.macro_expand.specs.declared.marked.Role.TheVariants.{Defined, FileName, LineNumber, Name, Ordinary}
use Rattle.macro_defs.specs.MacroDefinition.{MacroDefinition}
use Rattle.macro_expand.specs.Asking.{Failure, Work, Asking, give, fail, ask_definition, ask_file, ask_line, then_with}
use Rattle.macro_expand.specs.Replacement.{Marked, Call, BodyPart}
use Rattle.macro_expand.specs.Expansion.{Expanded, ExpandedEach, Expander, put_out, call_replacement, go_on, charged, argument_expanded, arguments_expanded, counted, called, function_replaced, macro_replaced, name_replaced, built_in, head_role, role_expanded, expansion_step, expansion_within, expansion}
use Rattle.macro_expand.specs.Laws.{SameTokens}

-- The same questions, and then results in this relation, the same error, or no units left on one side.
pub data Alike {A B : Type 0} (R : A → B → Type 0) : Asking A → Asking B → Type 0 where
  both_give : {x : A} {y : B} → R x y → Alike R (give x) (give y)
  both_fail : (e : Failure) → Alike R (fail e) (fail e)
  left_out : (t : Asking B) → Alike R (fail Work) t
  right_out : (t : Asking A) → Alike R t (fail Work)
  both_ask_definition : (name : List ℕ) (f : Option MacroDefinition → Asking A) (g : Option MacroDefinition → Asking B) →
      ((d : Option MacroDefinition) → Alike R (f d) (g d)) → Alike R (ask_definition name f) (ask_definition name g)
  both_ask_file : (f : List ℕ → Asking A) (g : List ℕ → Asking B) →
      ((t : List ℕ) → Alike R (f t) (g t)) → Alike R (ask_file f) (ask_file g)
  both_ask_line : (line : ℕ) (f : List ℕ → Asking A) (g : List ℕ → Asking B) →
      ((t : List ℕ) → Alike R (f t) (g t)) → Alike R (ask_line line f) (ask_line line g)

Alike-then_with : {A B C D : Type 0} (R : A → B → Type 0) (Q : C → D → Type 0) (t : Asking A) (u : Asking B)
    (f : A → Asking C) (g : B → Asking D) → Alike R t u → ((x : A) (y : B) → R x y → Alike Q (f x) (g y)) →
    Alike Q (then_with t f) (then_with u g)
unfolding then_with
Alike-then_with R Q _ _ f g (both_give {x = x} {y = y} r) h = h x y r
Alike-then_with R Q _ _ f g (both_fail e) h = both_fail e
Alike-then_with R Q _ _ f g (left_out t) h = left_out (then_with t g)
Alike-then_with R Q _ _ f g (right_out t) h = right_out (then_with t f)
Alike-then_with R Q _ _ f g (both_ask_definition name p q k) h =
    both_ask_definition name _ _ (λ d. Alike-then_with R Q (p d) (q d) f g (k d) h)
Alike-then_with R Q _ _ f g (both_ask_file p q k) h = both_ask_file _ _ (λ d. Alike-then_with R Q (p d) (q d) f g (k d) h)
Alike-then_with R Q _ _ f g (both_ask_line line p q k) h = both_ask_line line _ _ (λ d. Alike-then_with R Q (p d) (q d) f g (k d) h)

record SameLists (a b : ℕ) (e f : ExpandedEach) : Type 0 where
  lists : e.lists ≡ f.lists
  units : e.units + a ≡ f.units + b

module _ (a b : ℕ) (self other : Expander) (depth : ℕ)
    (alike : (depth u v : ℕ) (ts : List Marked) → u + a ≡ v + b → Alike (SameTokens a b) (self depth u ts) (other depth v ts)) where
  put_out-alike : (ts : List Marked) (t u : Asking Expanded) → Alike (SameTokens a b) t u →
      Alike (SameTokens a b) (put_out ts t) (put_out ts u)
  unfolding put_out
  put_out-alike ts t u h =
      Alike-then_with (SameTokens a b) (SameTokens a b) t u _ _ h
      (λ x y r. both_give (record { tokens = ap (λ w. ts ++ w) r.tokens; units = r.units }))

  go_on-alike : (p q : Bool) (u v : ℕ) (ts : List Marked) → (p ≡ true → q ≡ true → u + a ≡ v + b) →
      Alike (SameTokens a b) (go_on self depth p u ts) (go_on other depth q v ts)
  unfolding go_on
  go_on-alike true true u v ts h = alike depth u v ts (h refl refl)
  go_on-alike true false u v ts h = right_out _
  go_on-alike false true u v ts h = left_out _
  go_on-alike false false u v ts h = left_out _

  charged-alike : (u v : ℕ) (r : Result (List Marked) Failure) (rest : List Marked) → u + a ≡ v + b →
      Alike (SameTokens a b) (charged self depth u r rest) (charged other depth v r rest)
  unfolding charged
  charged-alike u v (Ok ts) rest h =
      go_on-alike _ _ _ _ _ (λ p q.
      let left : length ts < u = ltb-true _ _ p in
      let right : length ts < v = ltb-true _ _ q in omega arith)
  charged-alike u v (Err e) rest h = both_fail e

  argument_expanded-alike : (alone shallow : Bool) (t : Token) (u v : ℕ) (ts : List Marked) → u + a ≡ v + b →
      Alike (SameTokens a b) (argument_expanded self depth alone shallow t u ts) (argument_expanded other depth alone shallow t v ts)
  unfolding argument_expanded
  argument_expanded-alike false shallow t u v ts h = both_give (record { tokens = refl; units = h })
  argument_expanded-alike true true t u v ts h = alike (suc depth) u v ts h
  argument_expanded-alike true false t u v ts h = both_fail _

  arguments_expanded-alike : (t : Token) (parts : List BodyPart) (i u v : ℕ) (args : List (List Marked)) → u + a ≡ v + b →
      Alike (SameLists a b) (arguments_expanded self depth t parts i u args) (arguments_expanded other depth t parts i v args)
  unfolding arguments_expanded
  arguments_expanded-alike t parts i u v [] h = both_give (record { lists = refl; units = h })
  arguments_expanded-alike t parts i u v (ts ∷ rest) h =
      Alike-then_with (SameTokens a b) (SameLists a b) _ _ _ _ (argument_expanded-alike _ _ t u v ts h) (λ x y r.
      Alike-then_with (SameLists a b) (SameLists a b) _ _ _ _ (arguments_expanded-alike t parts (suc i) x.units y.units rest r.units) (λ m n s.
      both_give (record { lists = cc (r.tokens, s.lists); units = s.units })))

  counted-alike : (u v : ℕ) (t : Marked) (parts : List BodyPart) (variable : Option ℕ) (call : Call) (written : Option (List (List Marked))) →
      u + a ≡ v + b →
      Alike (SameTokens a b) (counted self depth u t parts variable call written) (counted other depth v t parts variable call written)
  unfolding counted
  counted-alike u v t parts variable call None h = both_fail _
  counted-alike u v t parts variable call (Some written) h =
      Alike-then_with (SameLists a b) (SameTokens a b) _ _ _ _ (arguments_expanded-alike t.token parts 0 u v written h)
      (λ x y r. subst (λ w. Alike (SameTokens a b)
      (charged self depth x.units (call_replacement t parts variable call written x.lists) call.after)
      (charged other depth y.units (call_replacement t parts variable call written w) call.after)) r.lists
      (charged-alike x.units y.units (call_replacement t parts variable call written x.lists) call.after r.units))

  called-alike : (u v : ℕ) (t : Marked) (params : List (List ℕ)) (variadic : Bool) (body : List Token) (call : Option Call) → u + a ≡ v + b →
      Alike (SameTokens a b) (called self depth u t params variadic body call) (called other depth v t params variadic body call)
  unfolding called
  called-alike u v t params variadic body None h = both_fail _
  called-alike u v t params variadic body (Some call) h = counted-alike u v t _ _ call _ h

  function_replaced-alike : (u v : ℕ) (t : Marked) (params : List (List ℕ)) (variadic : Bool) (body : List Token) (rest : List Marked)
      (within : Option (List Marked)) → u + a ≡ v + b →
      Alike (SameTokens a b) (function_replaced self depth u t params variadic body rest within)
      (function_replaced other depth v t params variadic body rest within)
  unfolding function_replaced
  function_replaced-alike u v t params variadic body rest None h = put_out-alike _ _ _ (alike depth u v rest h)
  function_replaced-alike u v t params variadic body rest (Some within) h = called-alike u v t params variadic body _ h

  macro_replaced-alike : (u v : ℕ) (t : Marked) (rest : List Marked) (body : List Token) (shape : Shape) → u + a ≡ v + b →
      Alike (SameTokens a b) (macro_replaced self depth u t rest body shape) (macro_replaced other depth v t rest body shape)
  unfolding macro_replaced
  macro_replaced-alike u v t rest body Object h = charged-alike u v _ rest h
  macro_replaced-alike u v t rest body (Function params variadic) h = function_replaced-alike u v t params variadic body rest _ h

  name_replaced-alike : (u v : ℕ) (t : Marked) (rest : List Marked) (d : Option MacroDefinition) → u + a ≡ v + b →
      Alike (SameTokens a b) (name_replaced self depth u t rest d) (name_replaced other depth v t rest d)
  unfolding name_replaced
  name_replaced-alike u v t rest None h = put_out-alike _ _ _ (alike depth u v rest h)
  name_replaced-alike u v t rest (Some d) h = macro_replaced-alike u v t rest d.body d.shape h

  built_in-alike : (u v : ℕ) (t : Marked) (kind : Kind) (text : List ℕ) (rest : List Marked) → u + a ≡ v + b →
      Alike (SameTokens a b) (built_in self depth u t kind text rest) (built_in other depth v t kind text rest)
  unfolding built_in
  built_in-alike u v t kind text rest h =
      put_out-alike _ _ _ (go_on-alike _ _ _ _ rest (λ p q.
      let left : 1 < u = ltb-true _ _ p in
      let right : 1 < v = ltb-true _ _ q in omega arith))

  role_expanded-alike : (u v : ℕ) (t : Marked) (rest : List Marked) (role : Role) → u + a ≡ v + b →
      Alike (SameTokens a b) (role_expanded self depth u t rest role) (role_expanded other depth v t rest role)
  unfolding role_expanded
  role_expanded-alike u v t rest Ordinary h = put_out-alike _ _ _ (alike depth u v rest h)
  role_expanded-alike u v t rest Defined h = put_out-alike _ _ _ (alike depth u v _ h)
  role_expanded-alike u v t rest FileName h = both_ask_file _ _ (λ name. built_in-alike u v t Str (34 ∷ name ++ 34 ∷ []) rest h)
  role_expanded-alike u v t rest LineNumber h = both_ask_line _ _ _ (λ number. built_in-alike u v t Number number rest h)
  role_expanded-alike u v t rest Name h = both_ask_definition _ _ _ (λ d. name_replaced-alike u v t rest d h)

-- with whatever bounds on the steps
expansion_within-alike : (a b n m : ℕ) (mode : Mode) (depth u v : ℕ) (ts : List Marked) → u + a ≡ v + b →
    Alike (SameTokens a b) (expansion_within n mode depth u ts) (expansion_within m mode depth v ts)
unfolding expansion_within expansion_step
expansion_within-alike a b zero m mode depth u v ts h = left_out _
expansion_within-alike a b (suc n) zero mode depth u v ts h = right_out _
expansion_within-alike a b (suc n) (suc m) mode depth u v [] h = both_give (record { tokens = refl; units = h })
expansion_within-alike a b (suc n) (suc m) mode depth u v (t ∷ rest) h =
    role_expanded-alike a b _ _ depth (λ d x y us e. expansion_within-alike a b n m mode d x y us e) u v t rest (head_role mode t rest) h

-- The units decide only where an expansion ends for want of them.
pub expansion-alike : (mode : Mode) (depth u v : ℕ) (ts : List Marked) →
    Alike (SameTokens v u) (expansion mode depth u ts) (expansion mode depth v ts)
unfolding expansion
expansion-alike mode depth u v ts = expansion_within-alike v u _ _ mode depth u v ts (omega arith)
