-- Whatever stands for expressions, it is made of what stands for their parts.
use Rattle.std.proofs.Common.{◌≡◌, ℕ, Bool, true, false, List, [], ◌∷◌, map, Option, Some, None, option_map, nat_le, max, suc, refl, ap, ◌∙◌, arith}
use Rattle.cond_eval.specs.declared.num.Num.{Num}
use Rattle.cond_eval.specs.declared.operator.Unary.{Unary}
use Rattle.cond_eval.specs.declared.operator.Binary.{Binary}
use Rattle.cond_eval.specs.declared.lexeme.Lexeme.{Lexeme}
use Rattle.cond_eval.specs.declared.lexeme.Lexeme.TheVariants.{Constant, Infix, Bang, Tilde, Question, Colon, Opening, Closing, Foreign}
use Rattle.cond_eval.specs.declared.pending.Pending.{Pending}
use Rattle.cond_eval.specs.declared.pending.Pending.TheVariants.{InParentheses, BehindPrefix, BehindOperator, BehindQuestion, BehindColon}
use Rattle.cond_eval.specs.declared.seen.Seen.{Seen}
use Rattle.cond_eval.specs.Making.{Making}
use Rattle.cond_eval.specs.Expressions.{Expression, constant, enclosed, unary, binary, conditional, depth, is_unsigned, bits_of}
use Rattle.cond_eval.specs.Reading.{Operand, ReadSoFar, due, read, wrong, binding_of_open, completed, ended, prefix_of, at_colon, at_closing, at_prefix, at_due, at_read, next_lexeme, read_on, alone, whole_of, made_of, open_behind, binding, expressions}
use Rattle.cond_eval.specs.parts.Seen.{values, seen_of, seen_enclosed, seen_unary, seen_binary, seen_conditional, capped, deeper}

-- one way of making follows another
pub record Follows (A B : Type 0) (m : Making A) (n : Making B) (h : A → B) : Type 0 where
  pub constant_is : (k : Num) → n.of_constant k ≡ h (m.of_constant k)
  pub enclosed_is : (e : A) → n.of_enclosed (h e) ≡ h (m.of_enclosed e)
  pub unary_is : (u : Unary) (e : A) → n.of_unary u (h e) ≡ h (m.of_unary u e)
  pub binary_is : (b : Binary) (x y : A) → n.of_binary b (h x) (h y) ≡ h (m.of_binary b x y)
  pub conditional_is : (c x y : A) → n.of_conditional (h c) (h x) (h y) ≡ h (m.of_conditional c x y)

module _ (A B : Type 0) (h : A → B) where
  abbrev pub mapped : Pending A → Pending B
  mapped InParentheses = InParentheses
  mapped (BehindPrefix u) = BehindPrefix u
  mapped (BehindOperator b x) = BehindOperator b (h x)
  mapped (BehindQuestion c) = BehindQuestion (h c)
  mapped (BehindColon c x) = BehindColon (h c) (h x)

  abbrev pub mapped_operand : Operand A → Operand B
  mapped_operand o = record { around = map mapped o.around; value = h o.value }

  abbrev pub mapped_progress : ReadSoFar A → ReadSoFar B
  mapped_progress (due ps) = due (map mapped ps)
  mapped_progress (read o) = read (mapped_operand o)
  mapped_progress wrong = wrong

  binding-mapped : (p : Pending A) → binding_of_open (mapped p) ≡ binding_of_open p
  binding-mapped InParentheses = refl
  binding-mapped (BehindPrefix u) = refl
  binding-mapped (BehindOperator b x) = refl
  binding-mapped (BehindQuestion c) = refl
  binding-mapped (BehindColon c x) = refl

  colon-mapped : (ps : List (Pending A)) (e : A) → at_colon (record { around = map mapped ps; value = h e }) ≡ mapped_progress (at_colon (record { around = ps; value = e }))
  colon-mapped [] e = refl
  colon-mapped (InParentheses ∷ ps) e = refl
  colon-mapped (BehindPrefix u ∷ ps) e = refl
  colon-mapped (BehindOperator b x ∷ ps) e = refl
  colon-mapped (BehindQuestion c ∷ ps) e = refl
  colon-mapped (BehindColon c x ∷ ps) e = refl

  module _ (m : Making A) (n : Making B) (follows : Follows A B m n h) where
    completed-mapped : (p : Pending A) (e : A) → completed n (mapped p) (h e) ≡ h (completed m p e)
    completed-mapped InParentheses e = follows.enclosed_is e
    completed-mapped (BehindPrefix u) e = follows.unary_is u e
    completed-mapped (BehindOperator b x) e = follows.binary_is b x e
    completed-mapped (BehindQuestion c) e = refl
    completed-mapped (BehindColon c x) e = follows.conditional_is c x e

    ended-mapped : (tight : ℕ) (ps : List (Pending A)) (e : A) → ended n tight (map mapped ps) (h e) ≡ mapped_operand (ended m tight ps e)
    unfolding ended
    ended-mapped tight [] e = refl
    ended-mapped tight (p ∷ ps) e = go (nat_le tight (binding_of_open p)) refl (λ x. ended-mapped tight ps x)
      where
        go : (b : Bool) → nat_le tight (binding_of_open p) ≡ b →
            ((x : A) → ended n tight (map mapped ps) (h x) ≡ mapped_operand (ended m tight ps x)) →
            ended n tight (map mapped (p ∷ ps)) (h e) ≡ mapped_operand (ended m tight (p ∷ ps) e)
        go true is ih = rw (binding-mapped p, is) (ap (ended n tight (map mapped ps)) (completed-mapped p e) ∙ ih (completed m p e))
        go false is ih = rw (binding-mapped p, is) refl

    closing-mapped : (ps : List (Pending A)) (e : A) → at_closing n (record { around = map mapped ps; value = h e }) ≡ mapped_progress (at_closing m (record { around = ps; value = e }))
    closing-mapped [] e = refl
    closing-mapped (InParentheses ∷ ps) e = ap (λ v. read (record { around = map mapped ps; value = v })) (follows.enclosed_is e)
    closing-mapped (BehindPrefix u ∷ ps) e = refl
    closing-mapped (BehindOperator b x ∷ ps) e = refl
    closing-mapped (BehindQuestion c ∷ ps) e = refl
    closing-mapped (BehindColon c x ∷ ps) e = refl

    prefix-mapped : (ps : List (Pending A)) (s : Option Unary) → at_prefix n (map mapped ps) s ≡ mapped_progress (at_prefix m ps s)
    prefix-mapped ps None = refl
    prefix-mapped ps (Some u) = refl

    due-mapped : (ps : List (Pending A)) (l : Lexeme) → at_due n (map mapped ps) l ≡ mapped_progress (at_due m ps l)
    due-mapped ps (Constant k) = ap (λ v. read (record { around = map mapped ps; value = v })) (follows.constant_is k)
    due-mapped ps Opening = refl
    due-mapped ps Bang = refl
    due-mapped ps Tilde = refl
    due-mapped ps (Infix b) = prefix-mapped ps (prefix_of (Infix b))
    due-mapped ps Question = refl
    due-mapped ps Colon = refl
    due-mapped ps Closing = refl
    due-mapped ps Foreign = refl

    read-mapped : (o : Operand A) (l : Lexeme) → at_read n (mapped_operand o) l ≡ mapped_progress (at_read m o l)
    read-mapped o (Constant k) = refl
    read-mapped o Bang = refl
    read-mapped o Tilde = refl
    read-mapped o Opening = refl
    read-mapped o Foreign = refl
    read-mapped o (Infix b) = ap (open_behind (BehindOperator b)) (ended-mapped (binding b) o.around o.value)
    read-mapped o Question = ap (open_behind BehindQuestion) (ended-mapped 2 o.around o.value)
    read-mapped o Colon = ap at_colon (ended-mapped 1 o.around o.value) ∙ colon-mapped (ended m 1 o.around o.value).around (ended m 1 o.around o.value).value
    read-mapped o Closing = ap (at_closing n) (ended-mapped 1 o.around o.value) ∙ closing-mapped (ended m 1 o.around o.value).around (ended m 1 o.around o.value).value

    next-mapped : (p : ReadSoFar A) (l : Lexeme) → next_lexeme n (mapped_progress p) l ≡ mapped_progress (next_lexeme m p l)
    next-mapped (due ps) l = due-mapped ps l
    next-mapped (read o) l = read-mapped o l
    next-mapped wrong l = refl

    on-mapped : (p : ReadSoFar A) (ls : List Lexeme) → read_on n (mapped_progress p) ls ≡ mapped_progress (read_on m p ls)
    unfolding read_on
    on-mapped p [] = refl
    on-mapped p (l ∷ ls) = ap (λ q. read_on n q ls) (next-mapped p l) ∙ on-mapped (next_lexeme m p l) ls

    alone-mapped : (o : Operand A) → alone n (mapped_operand o) ≡ option_map h (alone m o)
    alone-mapped o = go o.around
      where
        go : (ps : List (Pending A)) → alone n (mapped_operand (record { around = ps; value = o.value })) ≡ option_map h (alone m (record { around = ps; value = o.value }))
        go [] = refl
        go (p ∷ ps) = refl

    whole-mapped : (p : ReadSoFar A) → whole_of n (mapped_progress p) ≡ option_map h (whole_of m p)
    whole-mapped (due ps) = refl
    whole-mapped wrong = refl
    whole-mapped (read o) = ap (alone n) (ended-mapped 1 o.around o.value) ∙ alone-mapped (ended m 1 o.around o.value)

    -- what stands for an expression is what is made of the expression
    pub made-mapped : (ls : List Lexeme) → made_of n ls ≡ option_map h (made_of m ls)
    unfolding made_of
    made-mapped ls = ap (whole_of n) (on-mapped (due []) ls) ∙ whole-mapped (read_on m (due []) ls)

-- what the code keeps of expressions follows them
capped-deeper : (n : ℕ) → deeper (capped n) ≡ capped (suc n)
capped-deeper n = omega arith

capped-max : (a b : ℕ) → max (capped a) (capped b) ≡ capped (max a b)
capped-max a b = omega arith

seen-binary : (b : Binary) (x y : Expression) → seen_binary b (seen_of x) (seen_of y) ≡ seen_of (binary b x y)
unfolding depth is_unsigned bits_of
seen-binary b x y = λ i. record (seen_of (binary b x y)) { depth = capped-max (depth x) (depth y) i }

seen-conditional : (c x y : Expression) → seen_conditional (seen_of c) (seen_of x) (seen_of y) ≡ seen_of (conditional c x y)
unfolding depth is_unsigned bits_of
seen-conditional c x y =
    let inner : deeper (max (capped (depth c)) (max (capped (depth x)) (capped (depth y)))) ≡ capped (suc (max (depth c) (max (depth x) (depth y)))) =
    ap (λ d. deeper (max (capped (depth c)) d)) (capped-max (depth x) (depth y))
    ∙ ap deeper (capped-max (depth c) (max (depth x) (depth y)))
    ∙ capped-deeper (max (depth c) (max (depth x) (depth y))) in
    λ i. record (seen_of (conditional c x y)) { depth = inner i }

seen-enclosed : (e : Expression) → seen_enclosed (seen_of e) ≡ seen_of (enclosed e)
unfolding depth is_unsigned bits_of
seen-enclosed e = λ i. record (seen_of (enclosed e)) { depth = capped-deeper (depth e) i }

seen-unary : (u : Unary) (e : Expression) → seen_unary u (seen_of e) ≡ seen_of (unary u e)
unfolding depth is_unsigned bits_of
seen-unary u e = λ i. record (seen_of (unary u e)) { depth = capped-deeper (depth e) i }

seen-constant : (k : Num) → values.of_constant k ≡ seen_of (constant k)
unfolding depth is_unsigned bits_of
seen-constant k = refl

pub seen-made : (ls : List Lexeme) → made_of values ls ≡ option_map seen_of (made_of expressions ls)
seen-made ls = made-mapped Expression Seen seen_of expressions values (record {
  constant_is = seen-constant;
  enclosed_is = seen-enclosed;
  unary_is = seen-unary;
  binary_is = seen-binary;
  conditional_is = seen-conditional;
}) ls
