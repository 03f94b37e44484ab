-- The grammar of controlling expressions (ISO C 6.5.1, 6.5.3, 6.5.5 to 6.5.15, 6.6).
use Rattle.std.specs.Prelude.{◌≡◌, ◌≤◌, ◌↔◌, ℕ, ◌+◌, List, [], ◌∷◌, ◌++◌, Some}
use Rattle.cond_eval.specs.declared.operator.Unary.{Unary}
use Rattle.cond_eval.specs.declared.operator.Unary.TheVariants as prefix
use Rattle.cond_eval.specs.declared.operator.Binary.TheVariants as op
use Rattle.cond_eval.specs.declared.lexeme.Lexeme.{Lexeme}
use Rattle.cond_eval.specs.declared.lexeme.Lexeme.TheVariants.{Constant, Infix, Bang, Tilde, Question, Colon, Opening, Closing}
use Rattle.cond_eval.specs.Expressions.{Expression, constant, enclosed, unary, binary, conditional}
use Rattle.cond_eval.specs.Reading.{binding, spelled_expression}

-- a unary operator (6.5.3)
abbrev pub prefix_lexeme : Unary → Lexeme
prefix_lexeme prefix.Plus = Infix op.Add
prefix_lexeme prefix.Minus = Infix op.Subtract
prefix_lexeme prefix.Not = Bang
prefix_lexeme prefix.Complement = Tilde

-- the lexemes of an expression
unfoldable pub spelling : Expression → List Lexeme
spelling (constant n) = Constant n ∷ []
spelling (enclosed e) = Opening ∷ (spelling e ++ Closing ∷ [])
spelling (unary u e) = prefix_lexeme u ∷ spelling e
spelling (binary b x y) = spelling x ++ Infix b ∷ spelling y
spelling (conditional c x y) = spelling c ++ Question ∷ (spelling x ++ Colon ∷ spelling y)

-- The levels of the grammar: conditional expressions are of level 1 (6.5.15), those of binary operators of levels 2 to 11, by how
-- tightly the operator binds (6.5.5 to 6.5.14), unary ones of level 12 (6.5.3), and an expression of a level is also one of each
-- lower level. A constant and what stands in parentheses are of every level (6.5.1). The left operand of a binary operator is of
-- the operator's level, and the right one of the next.
unfoldable pub IsOfLevel : ℕ → Expression → Type 0
IsOfLevel level (constant n) = Unit {0}
IsOfLevel level (enclosed e) = IsOfLevel 1 e
IsOfLevel level (unary u e) = (level ≤ 12) × IsOfLevel 12 e
IsOfLevel level (binary b x y) = (level ≤ binding b) × IsOfLevel (binding b) x × IsOfLevel (binding b + 1) y
IsOfLevel level (conditional c x y) = (level ≤ 1) × IsOfLevel 2 c × IsOfLevel 1 x × IsOfLevel 1 y

-- whether lexemes spell an expression of the grammar: a constant expression is a conditional one (6.6)
abbrev pub Spells : List Lexeme → Expression → Type 0
Spells ls e = (spelling e ≡ ls) × IsOfLevel 1 e

-- the function gives the expression that lexemes spell, and gives none where they spell none
abbrev pub IsRead : List Lexeme → Type 0
IsRead ls = (e : Expression) → (spelled_expression ls ≡ Some e) ↔ Spells ls e

-- lexemes spell one expression at most
abbrev pub SpellsOne : List Lexeme → Type 0
SpellsOne ls = (d e : Expression) → Spells ls d → Spells ls e → d ≡ e
