-- The expression that lexemes spell (ISO C 6.5.3 to 6.5.15): from left to right, with what stands open around a place.
use Rattle.std.specs.Prelude.{ℕ, List, [], ◌∷◌, if◌then◌else◌, nat_le, Option, Some, None}
use Rattle.cond_eval.specs.declared.operator.Unary.{Unary}
use Rattle.cond_eval.specs.declared.operator.Unary.TheVariants as prefix
use Rattle.cond_eval.specs.declared.operator.Binary.{Binary}
use Rattle.cond_eval.specs.declared.operator.Binary.TheVariants as op
use Rattle.cond_eval.specs.declared.lexeme.Lexeme.{Lexeme}
use Rattle.cond_eval.specs.declared.lexeme.Lexeme.TheVariants.{Constant, Infix, Bang, Tilde, Question, Colon, Opening, Closing, Foreign}
use Rattle.cond_eval.specs.declared.pending.Pending.{Pending}
use Rattle.cond_eval.specs.declared.pending.Pending.TheVariants.{InParentheses, BehindPrefix, BehindOperator, BehindQuestion, BehindColon}
use Rattle.cond_eval.specs.Making.{Making}
use Rattle.cond_eval.specs.Expressions.{Expression, constant, enclosed, unary, binary, conditional}

-- how tightly an operator binds, from `||` on (6.5.5 to 6.5.14)
abbrev pub binding : Binary → ℕ
binding op.LogicalOr = 2
binding op.LogicalAnd = 3
binding op.BitOr = 4
binding op.BitXor = 5
binding op.BitAnd = 6
binding op.Equal = 7
binding op.NotEqual = 7
binding op.Less = 8
binding op.Greater = 8
binding op.LessOrEqual = 8
binding op.GreaterOrEqual = 8
binding op.ShiftLeft = 9
binding op.ShiftRight = 9
binding op.Add = 10
binding op.Subtract = 10
binding op.Multiply = 11
binding op.Divide = 11
binding op.Remainder = 11

-- how tightly what stands open binds its last operand: a conditional less tightly than any operator, and its second operand is
-- ended by the `:` alone, as one in parentheses is by the `)` (6.5.15)
abbrev pub binding_of_open : {A : Type 0} → Pending A → ℕ
binding_of_open InParentheses = 0
binding_of_open (BehindQuestion c) = 0
binding_of_open (BehindColon c x) = 1
binding_of_open (BehindOperator b x) = binding b
binding_of_open (BehindPrefix u) = 12

-- an operand, and what stands open around it, the innermost first
pub record Operand (A : Type 0) : Type 0 where
  pub around : List (Pending A)
  pub value : A

-- how far an expression was read: an operand is due, or one was read, or it is none
pub data ReadSoFar (A : Type 0) : Type 0 where
  due : List (Pending A) → ReadSoFar A
  read : Operand A → ReadSoFar A
  wrong : ReadSoFar A

-- a `:` behind an operand, which ends that of a `?`
abbrev pub at_colon : {A : Type 0} → Operand A → ReadSoFar A
at_colon o = elim o.around [
  | [] ↦ wrong
  | p ∷ ps ↦ elim p [ BehindQuestion c ↦ due (BehindColon c o.value ∷ ps) | _ ↦ wrong ]
]

-- an operator behind an operand
abbrev pub open_behind : {A : Type 0} → (A → Pending A) → Operand A → ReadSoFar A
open_behind opening o = due (opening o.value ∷ o.around)

-- the operator that a lexeme is where an operand is due; `+` and `-` are unary there (6.5.3.3)
abbrev pub prefix_of : Lexeme → Option Unary
prefix_of Bang = Some prefix.Not
prefix_of Tilde = Some prefix.Complement
prefix_of (Infix op.Add) = Some prefix.Plus
prefix_of (Infix op.Subtract) = Some prefix.Minus
prefix_of _ = None

module _ {A : Type 0} (made : Making A) where
  -- what stands open, with its last operand
  abbrev pub completed : Pending A → A → A
  completed InParentheses e = made.of_enclosed e
  completed (BehindQuestion c) e = e
  completed (BehindColon c x) e = made.of_conditional c x e
  completed (BehindOperator b x) e = made.of_binary b x e
  completed (BehindPrefix u) e = made.of_unary u e

  -- what an operand belongs to that is ended by something that binds so tightly: operators that bind as tightly or more
  unfoldable pub ended : ℕ → List (Pending A) → A → Operand A
  ended tight [] e = record { around = []; value = e }
  ended tight (p ∷ ps) e = if nat_le tight (binding_of_open p) then ended tight ps (completed p e) else record { around = p ∷ ps; value = e }

  -- a `)` behind an operand
  abbrev pub at_closing : Operand A → ReadSoFar A
  at_closing o = elim o.around [
    | [] ↦ wrong
    | p ∷ ps ↦ elim p [ InParentheses ↦ read (record { around = ps; value = made.of_enclosed o.value }) | _ ↦ wrong ]
  ]

  abbrev pub at_prefix : List (Pending A) → Option Unary → ReadSoFar A
  at_prefix ps None = wrong
  at_prefix ps (Some u) = due (BehindPrefix u ∷ ps)

  abbrev pub at_due : List (Pending A) → Lexeme → ReadSoFar A
  at_due ps (Constant n) = read (record { around = ps; value = made.of_constant n })
  at_due ps Opening = due (InParentheses ∷ ps)
  at_due ps l = at_prefix ps (prefix_of l)

  -- the next lexeme, behind an operand
  abbrev pub at_read : Operand A → Lexeme → ReadSoFar A
  at_read o (Infix b) = open_behind (BehindOperator b) (ended (binding b) o.around o.value)
  at_read o Question = open_behind BehindQuestion (ended 2 o.around o.value)
  at_read o Colon = at_colon (ended 1 o.around o.value)
  at_read o Closing = at_closing (ended 1 o.around o.value)
  at_read o (Constant n) = wrong
  at_read o Bang = wrong
  at_read o Tilde = wrong
  at_read o Opening = wrong
  at_read o Foreign = wrong

  abbrev pub next_lexeme : ReadSoFar A → Lexeme → ReadSoFar A
  next_lexeme (due ps) l = at_due ps l
  next_lexeme (read o) l = at_read o l
  next_lexeme wrong l = wrong

  unfoldable pub read_on : ReadSoFar A → List Lexeme → ReadSoFar A
  read_on p [] = p
  read_on p (l ∷ ls) = read_on (next_lexeme p l) ls

  -- an expression to its end: nothing stands open behind it
  abbrev pub alone : Operand A → Option A
  alone o = elim o.around [ [] ↦ Some o.value | p ∷ ps ↦ None ]

  abbrev pub whole_of : ReadSoFar A → Option A
  whole_of (due ps) = None
  whole_of (read o) = alone (ended 1 o.around o.value)
  whole_of wrong = None

  -- what stands for the expression that these spell, if they spell one
  unfoldable pub made_of : List Lexeme → Option A
  made_of ls = whole_of (read_on (due []) ls)

-- expressions themselves
abbrev pub expressions : Making Expression
expressions = record { of_constant = constant; of_enclosed = enclosed; of_unary = unary; of_binary = binary; of_conditional = conditional }

-- the expression that these spell, if they spell one
abbrev pub spelled_expression : List Lexeme → Option Expression
spelled_expression ls = made_of expressions ls
