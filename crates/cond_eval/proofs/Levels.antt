-- Levels of the grammar, and what stands open around a place.
use Rattle.std.proofs.Common.{◌≡◌, ◌≤◌, ◌<◌, ℕ, ◌+◌, Bool, true, false, List, [], ◌∷◌, ◌++◌, refl, ap, sym, ◌∙◌, arith, append_assoc, nat_le}
use Rattle.std.proofs.lemmas.Bool.{leb-true, leb-false}
use Rattle.cond_eval.specs.declared.operator.Binary.{Binary}
use Rattle.cond_eval.specs.declared.operator.Binary.TheVariants as op
use Rattle.cond_eval.specs.declared.lexeme.Lexeme.{Lexeme}
use Rattle.cond_eval.specs.declared.lexeme.Lexeme.TheVariants.{Infix, Question, Colon, Opening}
use Rattle.cond_eval.specs.declared.pending.Pending.{Pending}
use Rattle.cond_eval.specs.declared.pending.Pending.TheVariants.{InParentheses, BehindPrefix, BehindOperator, BehindQuestion, BehindColon}
use Rattle.cond_eval.specs.Expressions.{Expression, constant, enclosed, unary, binary, conditional}
use Rattle.cond_eval.specs.Reading.{Operand, binding, binding_of_open, completed, ended, expressions}
use Rattle.cond_eval.specs.Grammar.{prefix_lexeme, spelling, IsOfLevel}

-- an expression of a level is one of each lower level
pub of_lower : (high low : ℕ) (e : Expression) → low ≤ high → IsOfLevel high e → IsOfLevel low e
unfolding IsOfLevel
of_lower high low (constant n) below h = tt
of_lower high low (enclosed e) below h = h
of_lower high low (unary u e) below h = (omega (arith, below, h.0), h.1)
of_lower high low (binary b x y) below h = (omega (arith, below, h.0), h.1, h.2)
of_lower high low (conditional c x y) below h = (omega (arith, below, h.0), h.1, h.2, h.3)

pub binding_least : (b : Binary) → 2 ≤ binding b
binding_least op.Multiply = omega arith
binding_least op.Divide = omega arith
binding_least op.Remainder = omega arith
binding_least op.Add = omega arith
binding_least op.Subtract = omega arith
binding_least op.ShiftLeft = omega arith
binding_least op.ShiftRight = omega arith
binding_least op.Less = omega arith
binding_least op.Greater = omega arith
binding_least op.LessOrEqual = omega arith
binding_least op.GreaterOrEqual = omega arith
binding_least op.Equal = omega arith
binding_least op.NotEqual = omega arith
binding_least op.BitAnd = omega arith
binding_least op.BitXor = omega arith
binding_least op.BitOr = omega arith
binding_least op.LogicalAnd = omega arith
binding_least op.LogicalOr = omega arith

pub binding_most : (b : Binary) → binding b ≤ 11
binding_most op.Multiply = omega arith
binding_most op.Divide = omega arith
binding_most op.Remainder = omega arith
binding_most op.Add = omega arith
binding_most op.Subtract = omega arith
binding_most op.ShiftLeft = omega arith
binding_most op.ShiftRight = omega arith
binding_most op.Less = omega arith
binding_most op.Greater = omega arith
binding_most op.LessOrEqual = omega arith
binding_most op.GreaterOrEqual = omega arith
binding_most op.Equal = omega arith
binding_most op.NotEqual = omega arith
binding_most op.BitAnd = omega arith
binding_most op.BitXor = omega arith
binding_most op.BitOr = omega arith
binding_most op.LogicalAnd = omega arith
binding_most op.LogicalOr = omega arith

-- the level of what stands open, with its last operand
abbrev pub level_of_open : Pending Expression → ℕ
level_of_open InParentheses = 13
level_of_open (BehindPrefix u) = 12
level_of_open (BehindOperator b x) = binding b
level_of_open (BehindQuestion c) = 1
level_of_open (BehindColon c x) = 1

-- the level that its last operand must have
abbrev pub level_due : List (Pending Expression) → ℕ
level_due [] = 1
level_due (InParentheses ∷ ps) = 1
level_due (BehindPrefix u ∷ ps) = 12
level_due (BehindOperator b x ∷ ps) = binding b + 1
level_due (BehindQuestion c ∷ ps) = 1
level_due (BehindColon c x ∷ ps) = 1

pub level_due_most : (ps : List (Pending Expression)) → level_due ps ≤ 12
level_due_most [] = omega arith
level_due_most (InParentheses ∷ ps) = omega arith
level_due_most (BehindPrefix u ∷ ps) = omega arith
level_due_most (BehindOperator b x ∷ ps) = omega (arith, binding_most b)
level_due_most (BehindQuestion c ∷ ps) = omega arith
level_due_most (BehindColon c x ∷ ps) = omega arith

-- what is due behind a `?`'s first operand
pub question_due : (ps : List (Pending Expression)) → level_due ps ≤ 2 → level_due ps ≤ 1
question_due [] h = omega arith
question_due (InParentheses ∷ ps) h = omega arith
question_due (BehindPrefix u ∷ ps) h = absurd (omega (arith, h))
question_due (BehindOperator b x ∷ ps) h = absurd (omega (arith, h, binding_least b))
question_due (BehindQuestion c ∷ ps) h = omega arith
question_due (BehindColon c x ∷ ps) h = omega arith

pub binding_within : (p : Pending Expression) → binding_of_open p ≤ level_of_open p
binding_within InParentheses = omega arith
binding_within (BehindPrefix u) = omega arith
binding_within (BehindOperator b x) = omega arith
binding_within (BehindQuestion c) = omega arith
binding_within (BehindColon c x) = omega arith

-- the operands that stand before it have their levels
abbrev pub HasOperands : Pending Expression → Type 0
HasOperands InParentheses = Unit {0}
HasOperands (BehindPrefix u) = Unit {0}
HasOperands (BehindOperator b x) = IsOfLevel (binding b) x
HasOperands (BehindQuestion c) = IsOfLevel 2 c
HasOperands (BehindColon c x) = IsOfLevel 2 c × IsOfLevel 1 x

-- each of what stands open, the innermost first, may be the last operand of the next
abbrev pub Nests : List (Pending Expression) → Type 0
Nests [] = Unit {0}
Nests (p ∷ ps) = HasOperands p × (level_due ps ≤ level_of_open p) × Nests ps

-- what was read of it
abbrev pub open_spelling : Pending Expression → List Lexeme
open_spelling InParentheses = Opening ∷ []
open_spelling (BehindPrefix u) = prefix_lexeme u ∷ []
open_spelling (BehindOperator b x) = spelling x ++ Infix b ∷ []
open_spelling (BehindQuestion c) = spelling c ++ Question ∷ []
open_spelling (BehindColon c x) = spelling c ++ Question ∷ (spelling x ++ Colon ∷ [])

abbrev pub around_spelling : List (Pending Expression) → List Lexeme
around_spelling [] = []
around_spelling (p ∷ ps) = around_spelling ps ++ open_spelling p

-- with its last operand it is an expression, where it is no parenthesis and no `?`
completed_spelling : (p : Pending Expression) (e : Expression) → 1 ≤ binding_of_open p →
    spelling (completed expressions p e) ≡ open_spelling p ++ spelling e
unfolding spelling
completed_spelling InParentheses e h = absurd (omega (arith, h))
completed_spelling (BehindPrefix u) e h = refl
completed_spelling (BehindOperator b x) e h = sym (append_assoc (spelling x) (Infix b ∷ []) (spelling e))
completed_spelling (BehindQuestion c) e h = absurd (omega (arith, h))
completed_spelling (BehindColon c x) e h =
    ap (λ (r : List Lexeme). spelling c ++ Question ∷ r) (sym (append_assoc (spelling x) (Colon ∷ []) (spelling e)))
    ∙ sym (append_assoc (spelling c) (Question ∷ (spelling x ++ Colon ∷ [])) (spelling e))

completed_level : (p : Pending Expression) (ps : List (Pending Expression)) (e : Expression) → 1 ≤ binding_of_open p → HasOperands p →
    IsOfLevel (level_due (p ∷ ps)) e → IsOfLevel (level_of_open p) (completed expressions p e)
unfolding IsOfLevel
completed_level InParentheses ps e h operands level = absurd (omega (arith, h))
completed_level (BehindPrefix u) ps e h operands level = (omega arith, level)
completed_level (BehindOperator b x) ps e h operands level = (omega arith, operands, level)
completed_level (BehindQuestion c) ps e h operands level = absurd (omega (arith, h))
completed_level (BehindColon c x) ps e h operands level = (omega arith, operands.0, operands.1, level)

-- an operand that was ended by something that binds so tightly: nothing was lost, and it has that level and the one that is due
pub record IsEnded (tight : ℕ) (ps : List (Pending Expression)) (e : Expression) (o : Operand Expression) : Type 0 where
  pub same : around_spelling o.around ++ spelling o.value ≡ around_spelling ps ++ spelling e
  pub nests : Nests o.around
  pub level : IsOfLevel tight o.value
  pub due_level : IsOfLevel (level_due o.around) o.value
  pub looser : level_due o.around ≤ tight

-- what isn't ended by something wants its last operand at no higher level
due_looser : (tight : ℕ) (p : Pending Expression) (ps : List (Pending Expression)) → 1 ≤ tight → tight ≤ 11 →
    nat_le tight (binding_of_open p) ≡ false → level_due (p ∷ ps) ≤ tight
due_looser tight InParentheses ps least most h = omega (arith, least)
due_looser tight (BehindPrefix u) ps least most h = let above : 12 < tight = leb-false tight 12 h in omega (arith, above, most)
due_looser tight (BehindOperator b x) ps least most h = let above : binding b < tight = leb-false tight (binding b) h in omega (arith, above)
due_looser tight (BehindQuestion c) ps least most h = omega (arith, least)
due_looser tight (BehindColon c x) ps least most h = omega (arith, least)

pub is_ended : (tight : ℕ) (ps : List (Pending Expression)) (e : Expression) → 1 ≤ tight → tight ≤ 11 → Nests ps →
    IsOfLevel tight e → IsOfLevel (level_due ps) e → IsEnded tight ps e (ended expressions tight ps e)
unfolding ended
is_ended tight [] e least most nests level due_level = record { same = refl; nests = tt; level = level; due_level = due_level; looser = least }
is_ended tight (p ∷ ps) e least most nests level due_level =
    go (nat_le tight (binding_of_open p)) refl (λ x. is_ended tight ps x least most nests.2)
  where
    go : (b : Bool) → nat_le tight (binding_of_open p) ≡ b →
        ((x : Expression) → IsOfLevel tight x → IsOfLevel (level_due ps) x → IsEnded tight ps x (ended expressions tight ps x)) →
        IsEnded tight (p ∷ ps) e (ended expressions tight (p ∷ ps) e)
    go true is ih =
        let below : tight ≤ binding_of_open p = leb-true tight (binding_of_open p) is in
        let some : 1 ≤ binding_of_open p = omega (arith, least, below) in
        let made : IsOfLevel (level_of_open p) (completed expressions p e) = completed_level p ps e some nests.0 due_level in
        let inner : IsEnded tight ps (completed expressions p e) (ended expressions tight ps (completed expressions p e)) =
        ih (completed expressions p e)
        (of_lower (level_of_open p) tight (completed expressions p e) (omega (arith, below, binding_within p)) made)
        (of_lower (level_of_open p) (level_due ps) (completed expressions p e) nests.1 made) in
        rw is (record {
          same = inner.same ∙ ap (λ (r : List Lexeme). around_spelling ps ++ r) (completed_spelling p e some)
              ∙ sym (append_assoc (around_spelling ps) (open_spelling p) (spelling e));
          nests = inner.nests;
          level = inner.level;
          due_level = inner.due_level;
          looser = inner.looser;
        })
    go false is ih = rw is (record { same = refl; nests = nests; level = level; due_level = due_level; looser = due_looser tight p ps least most is })
