-- The expression that lexemes spell is read.
use Rattle.std.proofs.Common.{◌≡◌, ◌≤◌, ◌<◌, ℕ, ◌+◌, List, [], ◌∷◌, ◌++◌, Some, refl, ap, sym, ◌∙◌, arith, append_assoc, append-nil}
use Rattle.std.proofs.lemmas.Bool.{le-leb, lt-leb}
use Rattle.cond_eval.specs.declared.operator.Unary.{Unary}
use Rattle.cond_eval.specs.declared.operator.Unary.TheVariants as prefix
use Rattle.cond_eval.specs.declared.operator.Binary.{Binary}
use Rattle.cond_eval.specs.declared.lexeme.Lexeme.{Lexeme}
use Rattle.cond_eval.specs.declared.lexeme.Lexeme.TheVariants.{Infix, Question, Colon, Closing}
use Rattle.cond_eval.specs.declared.pending.Pending.{Pending}
use Rattle.cond_eval.specs.declared.pending.Pending.TheVariants.{InParentheses, BehindPrefix, BehindOperator, BehindQuestion, BehindColon}
use Rattle.cond_eval.specs.Expressions.{Expression, constant, enclosed, unary, binary, conditional}
use Rattle.cond_eval.specs.Reading.{Operand, due, read, binding, binding_of_open, completed, ended, at_colon, at_closing, open_behind, next_lexeme, read_on, alone, whole_of, made_of, spelled_expression, expressions}
use Rattle.cond_eval.specs.Grammar.{prefix_lexeme, spelling, IsOfLevel, Spells, IsRead, SpellsOne}
use Rattle.cond_eval.proofs.Levels.{binding_least, binding_most}
use Rattle.cond_eval.proofs.Sound.{reads_spelled}

-- operators of a level and above don't end what stands open
abbrev pub Holds : ℕ → List (Pending Expression) → Type 0
Holds level ps = (tight : ℕ) (e : Expression) → level ≤ tight → 2 ≤ tight → tight ≤ 11 →
    ended expressions tight ps e ≡ record { around = ps; value = e }

goes : (tight : ℕ) (p : Pending Expression) (ps : List (Pending Expression)) (e : Expression) → tight ≤ binding_of_open p →
    ended expressions tight (p ∷ ps) e ≡ ended expressions tight ps (completed expressions p e)
unfolding ended
goes tight p ps e h = rw (le-leb tight (binding_of_open p) h) refl

stops : (tight : ℕ) (p : Pending Expression) (ps : List (Pending Expression)) (e : Expression) → binding_of_open p < tight →
    ended expressions tight (p ∷ ps) e ≡ record { around = p ∷ ps; value = e }
unfolding ended
stops tight p ps e h = rw (lt-leb tight (binding_of_open p) h) refl

-- the lexemes of an expression of a level are read in front of others, and what stands open then ends as the expression does
pub record Reads (level : ℕ) (ps : List (Pending Expression)) (e : Expression) (rest : List Lexeme) : Type 0 where
  pub after : Operand Expression
  pub steps : read_on expressions (due ps) (spelling e ++ rest) ≡ read_on expressions (read after) rest
  pub ends : (tight : ℕ) → tight ≤ level → ended expressions tight after.around after.value ≡ ended expressions tight ps e

prefix_due : (ps : List (Pending Expression)) (u : Unary) → next_lexeme expressions (due ps) (prefix_lexeme u) ≡ due (BehindPrefix u ∷ ps)
prefix_due ps prefix.Plus = refl
prefix_due ps prefix.Minus = refl
prefix_due ps prefix.Not = refl
prefix_due ps prefix.Complement = refl

constant_reads : (level : ℕ) (ps : List (Pending Expression)) (n : _) (rest : List Lexeme) → Reads level ps (constant n) rest
unfolding spelling read_on
constant_reads level ps n rest = record { after = record { around = ps; value = constant n }; steps = refl; ends = λ tight h. refl }

enclosed_reads : (level : ℕ) (ps : List (Pending Expression)) (e : Expression) (rest : List Lexeme) →
    Reads 1 (InParentheses ∷ ps) e (Closing ∷ rest) → Reads level ps (enclosed e) rest
unfolding spelling read_on
enclosed_reads level ps e rest inner = record {
  after = record { around = ps; value = enclosed e };
  steps =
      ap (λ (ls : List Lexeme). read_on expressions (due (InParentheses ∷ ps)) ls) (append_assoc (spelling e) (Closing ∷ []) rest)
      ∙ inner.steps
      ∙ ap (λ (o : Operand Expression). read_on expressions (at_closing expressions o) rest)
      (inner.ends 1 (omega arith) ∙ stops 1 InParentheses ps e (omega arith));
  ends = λ tight h. refl;
}

unary_reads : (level : ℕ) (ps : List (Pending Expression)) (u : Unary) (e : Expression) (rest : List Lexeme) → level ≤ 12 →
    Reads 12 (BehindPrefix u ∷ ps) e rest → Reads level ps (unary u e) rest
unfolding spelling read_on
unary_reads level ps u e rest within inner = record {
  after = inner.after;
  steps = ap (λ p. read_on expressions p (spelling e ++ rest)) (prefix_due ps u) ∙ inner.steps;
  ends = λ tight h. inner.ends tight (omega (arith, h, within)) ∙ goes tight (BehindPrefix u) ps e (omega (arith, h, within));
}

binary_reads : (level : ℕ) (ps : List (Pending Expression)) (b : Binary) (x y : Expression) (rest : List Lexeme) → level ≤ binding b →
    Holds level ps → Reads (binding b) ps x (Infix b ∷ (spelling y ++ rest)) → Reads (binding b + 1) (BehindOperator b x ∷ ps) y rest →
    Reads level ps (binary b x y) rest
unfolding spelling read_on
binary_reads level ps b x y rest within holds left right = record {
  after = right.after;
  steps =
      ap (λ (ls : List Lexeme). read_on expressions (due ps) ls) (append_assoc (spelling x) (Infix b ∷ spelling y) rest)
      ∙ left.steps
      ∙ ap (λ (o : Operand Expression). read_on expressions (open_behind (BehindOperator b) o) (spelling y ++ rest))
      (left.ends (binding b) (omega arith) ∙ holds (binding b) x within (binding_least b) (binding_most b))
      ∙ right.steps;
  ends = λ tight h. right.ends tight (omega (arith, h, within)) ∙ goes tight (BehindOperator b x) ps y (omega (arith, h, within));
}

conditional_joined : (c x y rest : List Lexeme) → (c ++ Question ∷ (x ++ Colon ∷ y)) ++ rest ≡ c ++ Question ∷ (x ++ Colon ∷ (y ++ rest))
conditional_joined c x y rest =
    append_assoc c (Question ∷ (x ++ Colon ∷ y)) rest ∙ ap (λ (ls : List Lexeme). c ++ Question ∷ ls) (append_assoc x (Colon ∷ y) rest)

conditional_reads : (level : ℕ) (ps : List (Pending Expression)) (c x y : Expression) (rest : List Lexeme) → level ≤ 1 → Holds level ps →
    Reads 2 ps c (Question ∷ (spelling x ++ Colon ∷ (spelling y ++ rest))) →
    Reads 1 (BehindQuestion c ∷ ps) x (Colon ∷ (spelling y ++ rest)) → Reads 1 (BehindColon c x ∷ ps) y rest →
    Reads level ps (conditional c x y) rest
unfolding spelling read_on
conditional_reads level ps c x y rest within holds first second third = record {
  after = third.after;
  steps =
      ap (λ (ls : List Lexeme). read_on expressions (due ps) ls) (conditional_joined (spelling c) (spelling x) (spelling y) rest)
      ∙ first.steps
      ∙ ap (λ (o : Operand Expression). read_on expressions (open_behind BehindQuestion o) (spelling x ++ Colon ∷ (spelling y ++ rest)))
      (first.ends 2 (omega arith) ∙ holds 2 c (omega (arith, within)) (omega arith) (omega arith))
      ∙ second.steps
      ∙ ap (λ (o : Operand Expression). read_on expressions (at_colon o) (spelling y ++ rest))
      (second.ends 1 (omega arith) ∙ stops 1 (BehindQuestion c) ps x (omega arith))
      ∙ third.steps;
  ends = λ tight h. third.ends tight (omega (arith, h, within)) ∙ goes tight (BehindColon c x) ps y (omega (arith, h, within));
}

reads : (e : Expression) (level : ℕ) (ps : List (Pending Expression)) (rest : List Lexeme) → IsOfLevel level e → Holds level ps → Reads level ps e rest
unfolding IsOfLevel
reads (constant n) level ps rest h holds = constant_reads level ps n rest
reads (enclosed e) level ps rest h holds =
    enclosed_reads level ps e rest
    (reads e 1 (InParentheses ∷ ps) (Closing ∷ rest) h (λ tight v above least most. stops tight InParentheses ps v (omega (arith, least))))
reads (unary u e) level ps rest h holds =
    unary_reads level ps u e rest h.0
    (reads e 12 (BehindPrefix u ∷ ps) rest h.1 (λ tight v above least most. absurd (omega (arith, above, most))))
reads (binary b x y) level ps rest h holds =
    binary_reads level ps b x y rest h.0 holds
    (reads x (binding b) ps (Infix b ∷ (spelling y ++ rest)) h.1
    (λ tight v above least most. let within : level ≤ binding b = h.0 in holds tight v (omega (arith, above, within)) least most))
    (reads y (binding b + 1) (BehindOperator b x ∷ ps) rest h.2
    (λ tight v above least most. stops tight (BehindOperator b x) ps v (omega (arith, above))))
reads (conditional c x y) level ps rest h holds =
    conditional_reads level ps c x y rest h.0 holds
    (reads c 2 ps (Question ∷ (spelling x ++ Colon ∷ (spelling y ++ rest))) h.1
    (λ tight v above least most. let within : level ≤ 1 = h.0 in holds tight v (omega (arith, within, least)) least most))
    (reads x 1 (BehindQuestion c ∷ ps) (Colon ∷ (spelling y ++ rest)) h.2
    (λ tight v above least most. stops tight (BehindQuestion c) ps v (omega (arith, least))))
    (reads y 1 (BehindColon c x ∷ ps) rest h.3
    (λ tight v above least most. stops tight (BehindColon c x) ps v (omega (arith, least))))

spelled_reads : (e : Expression) → Reads 1 [] e [] → spelled_expression (spelling e) ≡ Some e
unfolding made_of read_on ended
spelled_reads e r =
    ap (λ (ls : List Lexeme). whole_of expressions (read_on expressions (due []) ls)) (sym (append-nil (spelling e)))
    ∙ ap (whole_of expressions) r.steps
    ∙ ap (alone expressions) (r.ends 1 (omega arith))

pub spelled_is_read : (ls : List Lexeme) (e : Expression) → Spells ls e → spelled_expression ls ≡ Some e
unfolding ended
spelled_is_read ls e h =
    ap spelled_expression (sym h.0) ∙ spelled_reads e (reads e 1 [] [] h.1 (λ tight v above least most. refl))

-- lexemes are read just where they spell an expression, and they spell one at most
pub is_read : (ls : List Lexeme) → IsRead ls
is_read ls = λ e. (reads_spelled ls e, spelled_is_read ls e)

pub spells_one : (ls : List Lexeme) → SpellsOne ls
spells_one ls d e first second =
    let same : Some d ≡ Some e = sym (spelled_is_read ls d first) ∙ spelled_is_read ls e second in
    cc
