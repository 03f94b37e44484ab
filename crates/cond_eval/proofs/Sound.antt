-- What is read is the expression that the lexemes spell.
use Rattle.std.proofs.Common.{◌≡◌, ◌≤◌, ℕ, List, [], ◌∷◌, ◌++◌, Some, refl, ap, sym, subst, ◌∙◌, arith, append_assoc, append-nil}
use Rattle.cond_eval.specs.declared.operator.Unary.{Unary}
use Rattle.cond_eval.specs.declared.operator.Unary.TheVariants as prefix
use Rattle.cond_eval.specs.declared.operator.Binary.{Binary}
use Rattle.cond_eval.specs.declared.operator.Binary.TheVariants as op
use Rattle.cond_eval.specs.declared.lexeme.Lexeme.{Lexeme}
use Rattle.cond_eval.specs.declared.lexeme.Lexeme.TheVariants.{Constant, Infix, Bang, Tilde, Question, Colon, Opening, Closing, Foreign}
use Rattle.cond_eval.specs.declared.pending.Pending.{Pending}
use Rattle.cond_eval.specs.declared.pending.Pending.TheVariants.{InParentheses, BehindPrefix, BehindOperator, BehindQuestion, BehindColon}
use Rattle.cond_eval.specs.Expressions.{Expression}
use Rattle.cond_eval.specs.Reading.{Operand, ReadSoFar, due, read, wrong, binding, ended, at_colon, at_closing, at_prefix, at_due, at_read, next_lexeme, read_on, alone, whole_of, made_of, spelled_expression, expressions}
use Rattle.cond_eval.specs.Grammar.{prefix_lexeme, spelling, IsOfLevel, Spells}
use Rattle.cond_eval.proofs.Levels.{level_due, level_due_most, question_due, binding_least, binding_most, Nests, around_spelling, IsEnded, is_ended}

-- what was read so far is the front of the lexemes, and an operand is of every level
abbrev pub IsSound : ReadSoFar Expression → List Lexeme → Type 0
IsSound (due ps) front = (around_spelling ps ≡ front) × Nests ps
IsSound (read o) front = (around_spelling o.around ++ spelling o.value ≡ front) × Nests o.around × ((level : ℕ) → IsOfLevel level o.value)
IsSound wrong front = Unit {0}

constant_sound : (ps : List (Pending Expression)) (n : _) (front : List Lexeme) → IsSound (due ps) front →
    IsSound (at_due expressions ps (Constant n)) (front ++ Constant n ∷ [])
unfolding spelling IsOfLevel
constant_sound ps n front h = (ap (λ (f : List Lexeme). f ++ Constant n ∷ []) h.0, h.1, λ level. tt)

opening_sound : (ps : List (Pending Expression)) (front : List Lexeme) → IsSound (due ps) front →
    IsSound (at_due expressions ps Opening) (front ++ Opening ∷ [])
opening_sound ps front h = (ap (λ (f : List Lexeme). f ++ Opening ∷ []) h.0, (tt, omega (arith, level_due_most ps), h.1))

prefix_sound : (ps : List (Pending Expression)) (u : Unary) (front : List Lexeme) → IsSound (due ps) front →
    IsSound (at_prefix expressions ps (Some u)) (front ++ prefix_lexeme u ∷ [])
prefix_sound ps u front h = (ap (λ (f : List Lexeme). f ++ prefix_lexeme u ∷ []) h.0, (tt, level_due_most ps, h.1))

infix_due : (ps : List (Pending Expression)) (b : Binary) (front : List Lexeme) → IsSound (due ps) front →
    IsSound (at_due expressions ps (Infix b)) (front ++ Infix b ∷ [])
infix_due ps op.Multiply front h = tt
infix_due ps op.Divide front h = tt
infix_due ps op.Remainder front h = tt
infix_due ps op.Add front h = prefix_sound ps prefix.Plus front h
infix_due ps op.Subtract front h = prefix_sound ps prefix.Minus front h
infix_due ps op.ShiftLeft front h = tt
infix_due ps op.ShiftRight front h = tt
infix_due ps op.Less front h = tt
infix_due ps op.Greater front h = tt
infix_due ps op.LessOrEqual front h = tt
infix_due ps op.GreaterOrEqual front h = tt
infix_due ps op.Equal front h = tt
infix_due ps op.NotEqual front h = tt
infix_due ps op.BitAnd front h = tt
infix_due ps op.BitXor front h = tt
infix_due ps op.BitOr front h = tt
infix_due ps op.LogicalAnd front h = tt
infix_due ps op.LogicalOr front h = tt

due_sound : (ps : List (Pending Expression)) (l : Lexeme) (front : List Lexeme) → IsSound (due ps) front →
    IsSound (at_due expressions ps l) (front ++ l ∷ [])
due_sound ps (Constant n) front h = constant_sound ps n front h
due_sound ps (Infix b) front h = infix_due ps b front h
due_sound ps Bang front h = prefix_sound ps prefix.Not front h
due_sound ps Tilde front h = prefix_sound ps prefix.Complement front h
due_sound ps Question front h = tt
due_sound ps Colon front h = tt
due_sound ps Opening front h = opening_sound ps front h
due_sound ps Closing front h = tt
due_sound ps Foreign front h = tt

-- one lexeme more behind an operand that was ended
ended_sound : (o : Operand Expression) (front : List Lexeme) (tight : ℕ) → 1 ≤ tight → tight ≤ 11 → IsSound (read o) front →
    IsEnded tight o.around o.value (ended expressions tight o.around o.value)
ended_sound o front tight least most h = is_ended tight o.around o.value least most h.1 (h.2 tight) (h.2 (level_due o.around))

infix_sound : (ps : List (Pending Expression)) (e : Expression) (b : Binary) (o : Operand Expression) (front : List Lexeme) →
    around_spelling ps ++ spelling e ≡ front → IsEnded (binding b) ps e o →
    IsSound (due (BehindOperator b o.value ∷ o.around)) (front ++ Infix b ∷ [])
infix_sound ps e b o front h is = (
  sym (append_assoc (around_spelling o.around) (spelling o.value) (Infix b ∷ [])) ∙ ap (λ (f : List Lexeme). f ++ Infix b ∷ []) (is.same ∙ h),
  (is.level, is.looser, is.nests),
)

question_sound : (ps : List (Pending Expression)) (e : Expression) (o : Operand Expression) (front : List Lexeme) →
    around_spelling ps ++ spelling e ≡ front → IsEnded 2 ps e o →
    IsSound (due (BehindQuestion o.value ∷ o.around)) (front ++ Question ∷ [])
question_sound ps e o front h is = (
  sym (append_assoc (around_spelling o.around) (spelling o.value) (Question ∷ [])) ∙ ap (λ (f : List Lexeme). f ++ Question ∷ []) (is.same ∙ h),
  (is.level, question_due o.around is.looser, is.nests),
)

-- a `:` behind an operand
colon_joined : (ps : List (Pending Expression)) (c v : Expression) (front : List Lexeme) →
    (around_spelling ps ++ (spelling c ++ Question ∷ [])) ++ spelling v ≡ front →
    around_spelling ps ++ (spelling c ++ Question ∷ (spelling v ++ Colon ∷ [])) ≡ front ++ Colon ∷ []
colon_joined ps c v front h =
    ap (λ (r : List Lexeme). around_spelling ps ++ r) (sym (append_assoc (spelling c) (Question ∷ []) (spelling v ++ Colon ∷ [])))
    ∙ sym (append_assoc (around_spelling ps) (spelling c ++ Question ∷ []) (spelling v ++ Colon ∷ []))
    ∙ sym (append_assoc (around_spelling ps ++ (spelling c ++ Question ∷ [])) (spelling v) (Colon ∷ []))
    ∙ ap (λ (f : List Lexeme). f ++ Colon ∷ []) h

colon_sound : (ps : List (Pending Expression)) (v : Expression) (front : List Lexeme) → around_spelling ps ++ spelling v ≡ front → Nests ps →
    IsOfLevel 1 v → IsSound (at_colon (record { around = ps; value = v })) (front ++ Colon ∷ [])
colon_sound [] v front h nests level = tt
colon_sound (InParentheses ∷ ps) v front h nests level = tt
colon_sound (BehindPrefix u ∷ ps) v front h nests level = tt
colon_sound (BehindOperator b x ∷ ps) v front h nests level = tt
colon_sound (BehindQuestion c ∷ ps) v front h nests level = (colon_joined ps c v front h, ((nests.0, level), nests.1, nests.2))
colon_sound (BehindColon c x ∷ ps) v front h nests level = tt

-- a `)` behind an operand
closing_sound : (ps : List (Pending Expression)) (v : Expression) (front : List Lexeme) → around_spelling ps ++ spelling v ≡ front → Nests ps →
    IsOfLevel 1 v → IsSound (at_closing expressions (record { around = ps; value = v })) (front ++ Closing ∷ [])
unfolding spelling IsOfLevel
closing_sound [] v front h nests level = tt
closing_sound (InParentheses ∷ ps) v front h nests level = (
  sym (append_assoc (around_spelling ps) (Opening ∷ []) (spelling v ++ Closing ∷ []))
      ∙ sym (append_assoc (around_spelling ps ++ Opening ∷ []) (spelling v) (Closing ∷ []))
      ∙ ap (λ (f : List Lexeme). f ++ Closing ∷ []) h,
  nests.2,
  λ higher. level,
)
closing_sound (BehindPrefix u ∷ ps) v front h nests level = tt
closing_sound (BehindOperator b x ∷ ps) v front h nests level = tt
closing_sound (BehindQuestion c ∷ ps) v front h nests level = tt
closing_sound (BehindColon c x ∷ ps) v front h nests level = tt

read_sound : (o : Operand Expression) (l : Lexeme) (front : List Lexeme) → IsSound (read o) front →
    IsSound (at_read expressions o l) (front ++ l ∷ [])
read_sound o (Constant n) front h = tt
read_sound o (Infix b) front h =
    infix_sound o.around o.value b (ended expressions (binding b) o.around o.value) front h.0
    (ended_sound o front (binding b) (omega (arith, binding_least b)) (binding_most b) h)
read_sound o Bang front h = tt
read_sound o Tilde front h = tt
read_sound o Question front h =
    question_sound o.around o.value (ended expressions 2 o.around o.value) front h.0 (ended_sound o front 2 (omega arith) (omega arith) h)
read_sound o Colon front h =
    let is = ended_sound o front 1 (omega arith) (omega arith) h in
    colon_sound (ended expressions 1 o.around o.value).around (ended expressions 1 o.around o.value).value front (is.same ∙ h.0) is.nests is.level
read_sound o Opening front h = tt
read_sound o Closing front h =
    let is = ended_sound o front 1 (omega arith) (omega arith) h in
    closing_sound (ended expressions 1 o.around o.value).around (ended expressions 1 o.around o.value).value front (is.same ∙ h.0) is.nests is.level
read_sound o Foreign front h = tt

next_sound : (p : ReadSoFar Expression) (l : Lexeme) (front : List Lexeme) → IsSound p front → IsSound (next_lexeme expressions p l) (front ++ l ∷ [])
next_sound (due ps) l front h = due_sound ps l front h
next_sound (read o) l front h = read_sound o l front h
next_sound wrong l front h = tt

on_sound : (p : ReadSoFar Expression) (ls front : List Lexeme) → IsSound p front → IsSound (read_on expressions p ls) (front ++ ls)
unfolding read_on
on_sound p [] front h = subst (IsSound p) (sym (append-nil front)) h
on_sound p (l ∷ ls) front h =
    subst (IsSound (read_on expressions (next_lexeme expressions p l) ls)) (append_assoc front (l ∷ []) ls)
    (on_sound (next_lexeme expressions p l) ls (front ++ l ∷ []) (next_sound p l front h))

alone_spells : (ps : List (Pending Expression)) (v e : Expression) (ls : List Lexeme) → around_spelling ps ++ spelling v ≡ ls → IsOfLevel 1 v →
    alone expressions (record { around = ps; value = v }) ≡ Some e → Spells ls e
alone_spells [] v e ls same level is = let only : v ≡ e = cc in subst (Spells ls) only (same, level)
alone_spells (p ∷ ps) v e ls same level is = absurd (cc)

whole_spells : (p : ReadSoFar Expression) (ls : List Lexeme) (e : Expression) → IsSound p ls → whole_of expressions p ≡ Some e → Spells ls e
whole_spells (due ps) ls e h is = absurd (cc)
whole_spells wrong ls e h is = absurd (cc)
whole_spells (read o) ls e h is =
    let done = ended_sound o ls 1 (omega arith) (omega arith) h in
    alone_spells (ended expressions 1 o.around o.value).around (ended expressions 1 o.around o.value).value e ls (done.same ∙ h.0) done.level is

pub reads_spelled : (ls : List Lexeme) (e : Expression) → spelled_expression ls ≡ Some e → Spells ls e
unfolding made_of
reads_spelled ls e is = whole_spells (read_on expressions (due []) ls) ls e (on_sound (due []) ls [] (refl, tt)) is
