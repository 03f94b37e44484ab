-- Calls, read token by token and cut at their commas.
use Rattle.std.proofs.Common.{◌≡◌, ℕ, zero, suc, ◌+◌, ◌-◌, ◌<◌, ◌≤◌, Bool, true, false, ◌&&◌, ◌==◌, if◌then◌else◌, nat_lt, List, [], ◌∷◌, ◌++◌, length, map, take, get_or, Vec, Option, Some, None, Result, Ok, Err, inl, inr, refl, ap, sym, subst, ◌∙◌, append_assoc, arith}
use Rattle.std.specs.Prelude.{◌⊎◌, IfOk, IfErr}
use Rattle.std.proofs.lemmas.Bool.{and_parts, cond-false, false≢true, eqb-true, ltb-true, lt-ltb, ne_eqb}
use Rattle.std.proofs.lemmas.List.{append-nil, map-append, take_more}
use Rattle.std.specs.declared.alloc.Global.{Global}
use Rattle.pp_tokens.specs.Marks.{Mark, Opening, Closing, Comma, Hash, Pasting, NoMark, mark_of}
use Rattle.macro_expand.specs.declared.marked.Marked.{Marked as Kept}
use Rattle.macro_expand.specs.declared.outcome.RunError.{RunError}
use Rattle.macro_expand.specs.declared.outcome.RunError.TheVariants.{Count, Memory}
use Rattle.macro_expand.specs.declared.call.CallMark.{CallMark}
use Rattle.macro_expand.specs.declared.call.CallMark.TheVariants.{Opens, Closes, Parts, Plain}
use Rattle.macro_expand.specs.declared.call.Cutting.{Cutting}
use Rattle.macro_expand.specs.declared.call.ReadCall.{ReadCall}
use Rattle.macro_expand.specs.Replacement.{Marked, Call, call_with, call_in, argument_with, argument_at, cut_at_outer_commas, arguments_of}
use Rattle.macro_expand.specs.Seen.{marked_of, lists_of, ReadsCall, RefusesCall, SameWhereAlone}
use Rattle.macro_expand.specs.parts.Reading.{mark_in_call, call_mark, nesting_after, ends_call, is_cut, arguments_with, cut_from, CutsCall, cuts_for, arguments_cut}

not_zero : (n : ℕ) → suc n ≡ 0 → ⊥
not_zero n e = omega arith

-- a test that fails for its last part
no_and : (a : Bool) → (a && false) ≡ true → ⊥
no_and a e = false≢true (and_parts a false e).1

and_both : (a b : Bool) → a ≡ true → b ≡ true → (a && b) ≡ true
and_both true b p q = q
and_both false b p q = absurd (false≢true p)

and_first : (a : Bool) → (a && true) ≡ false → a ≡ false
and_first true e = e
and_first false e = refl

-- A step through a call.

call-ends : (n : ℕ) (m : Marked) (ts : List Marked) → ends_call n (call_mark m.token) ≡ true →
    call_in n (m ∷ ts) ≡ Some (record { within = []; close = m; after = ts })
unfolding call_in
call-ends n m ts ends = go n (mark_of m.token) ends
  where
    go : (n : ℕ) (k : Mark) → ends_call n (mark_in_call k) ≡ true → (elim k as (λ k. Option Call) [
      | Opening ↦ call_with m (call_in (suc n) ts)
      | Closing ↦ elim n [
        | zero ↦ Some (record { within = []; close = m; after = ts })
        | suc less ↦ call_with m (call_in less ts)
      ]
      | _ ↦ call_with m (call_in n ts)
    ]) ≡ Some (record { within = []; close = m; after = ts })
    go zero Closing e = refl
    go (suc n) Closing e = absurd (not_zero n (eqb-true (suc n) 0 (and_parts (suc n == 0) true e).0))
    go n Opening e = absurd (no_and (n == 0) e)
    go n Comma e = absurd (no_and (n == 0) e)
    go n Hash e = absurd (no_and (n == 0) e)
    go n Pasting e = absurd (no_and (n == 0) e)
    go n NoMark e = absurd (no_and (n == 0) e)

call-goes_on : (n : ℕ) (m : Marked) (ts : List Marked) → ends_call n (call_mark m.token) ≡ false →
    call_in n (m ∷ ts) ≡ call_with m (call_in (nesting_after n (call_mark m.token)) ts)
unfolding call_in
call-goes_on n m ts more = go n (mark_of m.token) more
  where
    go : (n : ℕ) (k : Mark) → ends_call n (mark_in_call k) ≡ false → (elim k as (λ k. Option Call) [
      | Opening ↦ call_with m (call_in (suc n) ts)
      | Closing ↦ elim n [
        | zero ↦ Some (record { within = []; close = m; after = ts })
        | suc less ↦ call_with m (call_in less ts)
      ]
      | _ ↦ call_with m (call_in n ts)
    ]) ≡ call_with m (call_in (nesting_after n (mark_in_call k)) ts)
    go zero Closing e = absurd (false≢true (sym e))
    go (suc n) Closing e = let one : suc n - 1 ≡ n = omega arith in rw one refl
    go n Opening e = refl
    go n Comma e = refl
    go n Hash e = refl
    go n Pasting e = refl
    go n NoMark e = refl

-- the call, with these tokens before those within it
abbrev pub call_with_all : List Marked → Option Call → Option Call
call_with_all [] call = call
call_with_all (t ∷ ts) call = call_with t (call_with_all ts call)

with_last : (ts : List Marked) (t : Marked) (call : Option Call) → call_with_all (ts ++ t ∷ []) call ≡ call_with_all ts (call_with t call)
with_last [] t call = refl
with_last (x ∷ ts) t call = ap (call_with x) (with_last ts t call)

all_within : (ts : List Marked) (close : Marked) (after : List Marked) →
    call_with_all ts (Some (record { within = []; close = close; after = after })) ≡ Some (record { within = ts; close = close; after = after })
all_within [] close after = refl
all_within (t ∷ ts) close after = ap (call_with t) (all_within ts close after)

all_unclosed : (ts : List Marked) → call_with_all ts None ≡ None
all_unclosed [] = refl
all_unclosed (t ∷ ts) = ap (call_with t) (all_unclosed ts)

-- A step through what is cut.

cut-made : (c n : ℕ) (m : Marked) (ts : List Marked) → is_cut c n (call_mark m.token) ≡ true →
    cut_at_outer_commas c n (m ∷ ts) ≡ [] ∷ cut_at_outer_commas (c - 1) n ts
unfolding cut_at_outer_commas
cut-made c n m ts cut = go (mark_of m.token) cut
  where
    here : (n : ℕ) → (n == 0) ≡ true → (c : ℕ) → 0 < c → (elim (if n == 0 then c else 0) as (λ k. List (List Marked)) [
      | zero ↦ argument_with m (cut_at_outer_commas c n ts)
      | suc less ↦ [] ∷ cut_at_outer_commas less n ts
    ]) ≡ [] ∷ cut_at_outer_commas (c - 1) n ts
    here zero e zero below = absurd (omega arith)
    here zero e (suc c) below = let one : suc c - 1 ≡ c = omega arith in rw one refl
    here (suc n) e c below = absurd (not_zero n (eqb-true (suc n) 0 e))

    go : (k : Mark) → is_cut c n (mark_in_call k) ≡ true → (elim k as (λ k. List (List Marked)) [
      | Opening ↦ argument_with m (cut_at_outer_commas c (suc n) ts)
      | Closing ↦ argument_with m (cut_at_outer_commas c (n - 1) ts)
      | Comma ↦ elim (if n == 0 then c else 0) [
        | zero ↦ argument_with m (cut_at_outer_commas c n ts)
        | suc less ↦ [] ∷ cut_at_outer_commas less n ts
      ]
      | _ ↦ argument_with m (cut_at_outer_commas c n ts)
    ]) ≡ [] ∷ cut_at_outer_commas (c - 1) n ts
    go Comma e =
        let both = and_parts (nat_lt 0 c) (n == 0) (and_parts (nat_lt 0 c && (n == 0)) true e).0 in
        here n both.1 c (ltb-true 0 c both.0)
    go Opening e = absurd (no_and (nat_lt 0 c && (n == 0)) e)
    go Closing e = absurd (no_and (nat_lt 0 c && (n == 0)) e)
    go Hash e = absurd (no_and (nat_lt 0 c && (n == 0)) e)
    go Pasting e = absurd (no_and (nat_lt 0 c && (n == 0)) e)
    go NoMark e = absurd (no_and (nat_lt 0 c && (n == 0)) e)

cut-goes_on : (c n : ℕ) (m : Marked) (ts : List Marked) → is_cut c n (call_mark m.token) ≡ false →
    cut_at_outer_commas c n (m ∷ ts) ≡ argument_with m (cut_at_outer_commas c (nesting_after n (call_mark m.token)) ts)
unfolding cut_at_outer_commas
cut-goes_on c n m ts more = go (mark_of m.token) more
  where
    here : (n : ℕ) (c : ℕ) → (nat_lt 0 c && (n == 0)) ≡ false → (elim (if n == 0 then c else 0) as (λ k. List (List Marked)) [
      | zero ↦ argument_with m (cut_at_outer_commas c n ts)
      | suc less ↦ [] ∷ cut_at_outer_commas less n ts
    ]) ≡ argument_with m (cut_at_outer_commas c n ts)
    here zero zero e = refl
    here zero (suc c) e = absurd (false≢true (sym e ∙ ap (λ b. b && true) (lt-ltb 0 (suc c) (omega arith))))
    here (suc n) c e = ap (λ b. elim (if b then c else 0) as (λ k. List (List Marked)) [
      | zero ↦ argument_with m (cut_at_outer_commas c (suc n) ts)
      | suc less ↦ [] ∷ cut_at_outer_commas less (suc n) ts
    ]) (ne_eqb (suc n) 0 (not_zero n))

    go : (k : Mark) → is_cut c n (mark_in_call k) ≡ false → (elim k as (λ k. List (List Marked)) [
      | Opening ↦ argument_with m (cut_at_outer_commas c (suc n) ts)
      | Closing ↦ argument_with m (cut_at_outer_commas c (n - 1) ts)
      | Comma ↦ elim (if n == 0 then c else 0) [
        | zero ↦ argument_with m (cut_at_outer_commas c n ts)
        | suc less ↦ [] ∷ cut_at_outer_commas less n ts
      ]
      | _ ↦ argument_with m (cut_at_outer_commas c n ts)
    ]) ≡ argument_with m (cut_at_outer_commas c (nesting_after n (mark_in_call k)) ts)
    go Opening e = refl
    go Closing e = refl
    go Comma e = here n c (and_first (nat_lt 0 c && (n == 0)) e)
    go Hash e = refl
    go Pasting e = refl
    go NoMark e = refl

-- a cut is made outside parentheses
pub cut-outside : (c n : ℕ) (k : CallMark) → is_cut c n k ≡ true → n ≡ 0
cut-outside c n k e = eqb-true n 0 (and_parts (nat_lt 0 c) (n == 0) (and_parts (nat_lt 0 c && (n == 0)) _ e).0).1

pub cut-level : (c n : ℕ) (k : CallMark) → is_cut c n k ≡ true → n ≡ nesting_after n k
cut-level c n Opens e = absurd (no_and (nat_lt 0 c && (n == 0)) e)
cut-level c n Closes e = absurd (no_and (nat_lt 0 c && (n == 0)) e)
cut-level c n Parts e = refl
cut-level c n Plain e = refl

pieces_last : (ts : List Marked) (t : Marked) (args : List (List Marked)) → arguments_with (ts ++ t ∷ []) args ≡ arguments_with ts (argument_with t args)
pieces_last [] t args = refl
pieces_last (x ∷ ts) t args = ap (argument_with x) (pieces_last ts t args)

whole_piece : (ts : List Marked) (args : List (List Marked)) → arguments_with ts ([] ∷ args) ≡ ts ∷ args
whole_piece [] args = refl
whole_piece (t ∷ ts) args = ap (argument_with t) (whole_piece ts args)

lists_of-last : (pieces : List (Vec Kept Global)) (v : Vec Kept Global) → lists_of (pieces ++ v ∷ []) ≡ lists_of pieces ++ map marked_of v.items ∷ []
lists_of-last [] v = refl
lists_of-last (p ∷ pieces) v = ap (λ (l : List (List Marked)). map marked_of p.items ∷ l) (lists_of-last pieces v)

module _ (pieces : List (Vec Kept Global)) (piece : List Kept) (c n : ℕ) (t : Kept) where
  pub cut_turn : is_cut c n (call_mark t.token) ≡ true → (pieces' : List (Vec Kept Global)) (v : Vec Kept Global) → pieces' ≡ pieces ++ v ∷ [] → v.items ≡ piece →
      (piece' : List Kept) → piece' ≡ [] → (c' n' : ℕ) → c' ≡ c - 1 → n' ≡ n → (ts : List Marked) →
      lists_of pieces ++ arguments_with (map marked_of piece) (cut_at_outer_commas c n (marked_of t ∷ ts))
      ≡ lists_of pieces' ++ arguments_with (map marked_of piece') (cut_at_outer_commas c' n' ts)
  cut_turn cut pieces' v pushed same piece' empty c' n' less level ts =
      ap (λ (l : List (List Marked)). lists_of pieces ++ arguments_with (map marked_of piece) l) (cut-made c n (marked_of t) ts cut)
      ∙ ap (λ (l : List (List Marked)). lists_of pieces ++ l) (whole_piece (map marked_of piece) (cut_at_outer_commas (c - 1) n ts))
      ∙ sym (append_assoc (lists_of pieces) (map marked_of piece ∷ []) (cut_at_outer_commas (c - 1) n ts))
      ∙ ap (λ (l : List Kept). (lists_of pieces ++ map marked_of l ∷ []) ++ cut_at_outer_commas (c - 1) n ts) (sym same)
      ∙ ap (λ (l : List (List Marked)). l ++ cut_at_outer_commas (c - 1) n ts) (sym (ap lists_of pushed ∙ lists_of-last pieces v))
      ∙ ap (λ (l : List Kept). lists_of pieces' ++ arguments_with (map marked_of l) (cut_at_outer_commas (c - 1) n ts)) (sym empty)
      ∙ ap (λ k. lists_of pieces' ++ arguments_with (map marked_of piece') (cut_at_outer_commas k n ts)) (sym less)
      ∙ ap (λ k. lists_of pieces' ++ arguments_with (map marked_of piece') (cut_at_outer_commas c' k ts)) (sym level)

  pub grow_turn : is_cut c n (call_mark t.token) ≡ false → (piece' : List Kept) → piece' ≡ piece ++ t ∷ [] → (n' : ℕ) → n' ≡ nesting_after n (call_mark t.token) → (ts : List Marked) →
      lists_of pieces ++ arguments_with (map marked_of piece) (cut_at_outer_commas c n (marked_of t ∷ ts))
      ≡ lists_of pieces ++ arguments_with (map marked_of piece') (cut_at_outer_commas c n' ts)
  grow_turn more piece' pushed n' deep ts =
      ap (λ (l : List (List Marked)). lists_of pieces ++ l)
      (ap (arguments_with (map marked_of piece)) (cut-goes_on c n (marked_of t) ts more)
      ∙ sym (pieces_last (map marked_of piece) (marked_of t) _)
      ∙ ap (λ (l : List Marked). arguments_with l (cut_at_outer_commas c (nesting_after n (call_mark t.token)) ts)) (sym (ap (map marked_of) pushed ∙ map-append marked_of piece (t ∷ [])))
      ∙ ap (λ k. arguments_with (map marked_of piece') (cut_at_outer_commas c k ts)) (sym deep))

pub cut_end : (pieces pieces' : List (Vec Kept Global)) (v : Vec Kept Global) (c n : ℕ) → pieces' ≡ pieces ++ v ∷ [] →
    lists_of pieces' ≡ lists_of pieces ++ arguments_with (map marked_of v.items) (cut_at_outer_commas c n [])
unfolding cut_at_outer_commas
cut_end pieces pieces' v c n pushed =
    ap lists_of pushed ∙ lists_of-last pieces v
    ∙ ap (λ (l : List (List Marked)). lists_of pieces ++ l) (sym (whole_piece (map marked_of v.items) []))

-- A call that was read in part, and cut.

-- a call that begins at these tokens and was read up to the rest, cut at the first `cuts` commas outside parentheses
pub record ReadSoFar (cuts : ℕ) (ts : List Marked) (c : Cutting) (rest : List Marked) : Type 0 where
  pub before : List Marked
  pub reads : call_in 0 ts ≡ call_with_all before (call_in c.nesting rest)
  pub cut : (more : List Marked) → cut_at_outer_commas cuts 0 (before ++ more) ≡ cut_from c more

pub read-begun : (cuts : ℕ) (ts : List Marked) (c : Cutting) → c.pieces.items ≡ [] → c.piece.items ≡ [] → c.cuts ≡ cuts → c.nesting ≡ 0 → ReadSoFar cuts ts c ts
read-begun cuts ts c no_pieces empty all level = record {
  before = [];
  reads = ap (λ n. call_in n ts) (sym level);
  cut = λ more. sym (ap (λ (l : List (Vec Kept Global)). lists_of l ++ arguments_with (map marked_of c.piece.items) (cut_at_outer_commas c.cuts c.nesting more)) no_pieces
      ∙ ap (λ (l : List Kept). arguments_with (map marked_of l) (cut_at_outer_commas c.cuts c.nesting more)) empty
      ∙ ap (λ k. cut_at_outer_commas k c.nesting more) all
      ∙ ap (λ n. cut_at_outer_commas cuts n more) level);
}

module _ (cuts : ℕ) (ts : List Marked) (c : Cutting) where
  pub read-goes_on : (t : Kept) (rest : List Marked) → ReadSoFar cuts ts c (marked_of t ∷ rest) → ends_call c.nesting (call_mark t.token) ≡ false → (c' : Cutting) →
      ((more : List Marked) → cut_from c (marked_of t ∷ more) ≡ cut_from c' more) → c'.nesting ≡ nesting_after c.nesting (call_mark t.token) → ReadSoFar cuts ts c' rest
  read-goes_on t rest so more c' step deep = record {
    before = so.before ++ marked_of t ∷ [];
    reads = so.reads ∙ ap (call_with_all so.before) (call-goes_on c.nesting (marked_of t) rest more)
        ∙ sym (with_last so.before (marked_of t) _)
        ∙ ap (λ k. call_with_all (so.before ++ marked_of t ∷ []) (call_in k rest)) (sym deep);
    cut = λ ms. ap (cut_at_outer_commas cuts 0) (append_assoc so.before (marked_of t ∷ []) ms) ∙ so.cut (marked_of t ∷ ms) ∙ step ms;
  }

  pub read-ended : (t : Kept) (rest : List Marked) → ReadSoFar cuts ts c (marked_of t ∷ rest) → ends_call c.nesting (call_mark t.token) ≡ true → (call : ReadCall) →
      lists_of call.written.items ≡ cut_from c [] → call.close ≡ t → CutsCall cuts ts (Some call) rest
  read-ended t rest so ends call pieces close = (
    so.before,
    so.reads ∙ ap (call_with_all so.before) (call-ends c.nesting (marked_of t) rest ends) ∙ all_within so.before (marked_of t) rest
        ∙ ap (λ (m : Kept). Some (record { within = so.before; close = marked_of m; after = rest })) (sym close),
    pieces ∙ sym (so.cut []) ∙ ap (cut_at_outer_commas cuts 0) (append-nil so.before),
  )

  pub read-unended : ReadSoFar cuts ts c [] → call_in 0 ts ≡ None
  unfolding call_in
  read-unended so = so.reads ∙ all_unclosed so.before

-- How many arguments there are.

uncut : (n : ℕ) (ts : List Marked) → cut_at_outer_commas 0 n ts ≡ ts ∷ []
unfolding cut_at_outer_commas
uncut n [] = refl
uncut n (t ∷ ts) = cut-goes_on 0 n t ts refl ∙ ap (argument_with t) (uncut (nesting_after n (call_mark t.token)) ts)

-- where a cut is made, one is made for any number of cuts
cut-again : (c d n : ℕ) (k : CallMark) → is_cut c n k ≡ true → 0 < d → is_cut d n k ≡ true
cut-again c d n k e some =
    let parts = and_parts (nat_lt 0 c && (n == 0)) _ e in
    and_both (nat_lt 0 d && (n == 0)) _ (and_both (nat_lt 0 d) (n == 0) (lt-ltb 0 d some) (and_parts (nat_lt 0 c) (n == 0) parts.0).1) parts.1

length-with : (t : Marked) (args : List (List Marked)) (n : ℕ) → length args ≡ suc n → length (argument_with t args) ≡ suc n
length-with t [] n e = absurd (omega arith)
length-with t (a ∷ args) n e = e

length-with-more : (t : Marked) (args : List (List Marked)) → length args ≤ length (argument_with t args)
length-with-more t [] = omega arith
length-with-more t (a ∷ args) = omega arith

-- with `k` cuts there are the pieces of all cuts, or more than `k` both ways
abbrev FewOrMany : (m k n : ℕ) → List Marked → Type 0
FewOrMany m k n ts =
    (cut_at_outer_commas k n ts ≡ cut_at_outer_commas m n ts)
    ⊎ ((length (cut_at_outer_commas k n ts) ≡ suc k) × (suc k ≤ length (cut_at_outer_commas m n ts)))

module _ (m k n : ℕ) (t : Marked) (ts : List Marked) where
  few-cut : is_cut k n (call_mark t.token) ≡ true → is_cut m n (call_mark t.token) ≡ true → 0 < k → FewOrMany (m - 1) (k - 1) n ts → FewOrMany m k n (t ∷ ts)
  few-cut here all some (inl same) = inl (cut-made k n t ts here ∙ ap (λ (l : List (List Marked)). [] ∷ l) same ∙ sym (cut-made m n t ts all))
  few-cut here all some (inr (many, more)) =
      let one : length (cut_at_outer_commas k n (t ∷ ts)) ≡ suc (length (cut_at_outer_commas (k - 1) n ts)) = ap (λ (l : List (List Marked)). length l) (cut-made k n t ts here) in
      let other : length (cut_at_outer_commas m n (t ∷ ts)) ≡ suc (length (cut_at_outer_commas (m - 1) n ts)) = ap (λ (l : List (List Marked)). length l) (cut-made m n t ts all) in
      inr (omega arith, omega arith)

  few-on : is_cut k n (call_mark t.token) ≡ false → is_cut m n (call_mark t.token) ≡ false → FewOrMany m k (nesting_after n (call_mark t.token)) ts → FewOrMany m k n (t ∷ ts)
  few-on here all (inl same) = inl (cut-goes_on k n t ts here ∙ ap (argument_with t) same ∙ sym (cut-goes_on m n t ts all))
  few-on here all (inr (many, more)) =
      let deep = nesting_after n (call_mark t.token) in
      let one : length (cut_at_outer_commas k n (t ∷ ts)) ≡ suc k =
      ap (λ (l : List (List Marked)). length l) (cut-goes_on k n t ts here) ∙ length-with t (cut_at_outer_commas k deep ts) k many in
      let other : length (cut_at_outer_commas m n (t ∷ ts)) ≡ length (argument_with t (cut_at_outer_commas m deep ts)) =
      ap (λ (l : List (List Marked)). length l) (cut-goes_on m n t ts all) in
      let longer : length (cut_at_outer_commas m deep ts) ≤ length (argument_with t (cut_at_outer_commas m deep ts)) = length-with-more t (cut_at_outer_commas m deep ts) in
      inr (one, omega arith)

  few-none : k ≡ 0 → is_cut m n (call_mark t.token) ≡ true → FewOrMany m k n (t ∷ ts)
  few-none none all =
      let one : length (cut_at_outer_commas k n (t ∷ ts)) ≡ 1 = ap (λ c. length (cut_at_outer_commas c n (t ∷ ts))) none ∙ ap (λ (l : List (List Marked)). length l) (uncut n (t ∷ ts)) in
      let other : length (cut_at_outer_commas m n (t ∷ ts)) ≡ suc (length (cut_at_outer_commas (m - 1) n ts)) = ap (λ (l : List (List Marked)). length l) (cut-made m n t ts all) in
      inr (omega arith, omega arith)

  few-step : 0 < m → FewOrMany (m - 1) (k - 1) n ts → FewOrMany m k (nesting_after n (call_mark t.token)) ts →
      (here all : Bool) → is_cut k n (call_mark t.token) ≡ here → is_cut m n (call_mark t.token) ≡ all → FewOrMany m k n (t ∷ ts)
  few-step some less on true true here all = few-cut here all (ltb-true 0 k (and_parts (nat_lt 0 k) (n == 0) (and_parts (nat_lt 0 k && (n == 0)) _ here).0).0) less
  few-step some less on false false here all = few-on here all on
  few-step some less on true false here all = absurd (false≢true (sym all ∙ cut-again k m n (call_mark t.token) here some))
  few-step some less on false true here all = few-none (none k here) all
    where
      none : (j : ℕ) → is_cut j n (call_mark t.token) ≡ false → j ≡ 0
      none zero e = refl
      none (suc j) e = absurd (false≢true (sym e ∙ cut-again m (suc j) n (call_mark t.token) all (omega arith)))

few_or_many : (ts : List Marked) (m k n : ℕ) → length ts ≤ m → FewOrMany m k n ts
unfolding cut_at_outer_commas
few_or_many [] m k n below = inl refl
few_or_many (t ∷ ts) m k n below =
    let shorter : length ts ≤ m - 1 = omega arith in
    let some : 0 < m = omega arith in
    let within : length ts ≤ m = omega arith in
    few-step m k n t ts some (few_or_many ts (m - 1) (k - 1) n shorter) (few_or_many ts m k (nesting_after n (call_mark t.token)) within)
    (is_cut k n (call_mark t.token)) (is_cut m n (call_mark t.token)) refl refl

counted : (count : ℕ) (few all : List (List Marked)) → (few ≡ all) ⊎ ((length few ≡ suc (suc count)) × (suc (suc count) ≤ length all)) →
    ◌≡◌ {A = Option (List (List Marked))} (if length all == suc count then Some all else None) (if length few == suc count then Some few else None)
counted count few all (inl same) = ap (λ (l : List (List Marked)). if length l == suc count then Some l else None) (sym same)
counted count few all (inr (many, more)) =
    cond-false _ _ _ (ne_eqb (length all) (suc count) (λ same. omega arith))
    ∙ sym (cond-false _ _ _ (ne_eqb (length few) (suc count) (λ same. omega arith)))

arguments-cut : (count : ℕ) (variadic : Bool) (within : List Marked) →
    arguments_of count variadic within ≡ arguments_cut count variadic (cut_at_outer_commas (cuts_for count variadic) 0 within)
unfolding arguments_of
arguments-cut count true within = refl
arguments-cut zero false within =
    sym (ap (λ (l : List (List Marked)). elim (argument_at 0 l) as (λ x. Option (List (List Marked))) [ [] ↦ Some [] | t ∷ ts ↦ None ]) (uncut 0 within))
arguments-cut (suc count) false within =
    counted count (cut_at_outer_commas (suc count) 0 within) (cut_at_outer_commas (length within) 0 within)
    (few_or_many within (length within) (suc count) 0 (omega arith))

-- A call whose pieces are taken for its arguments.

module _ (count : ℕ) (variadic : Bool) (ts after : List Marked) (call : ReadCall) (cuts : CutsCall (cuts_for count variadic) ts (Some call) after) where
  given : (result : Option (List (List Marked))) → arguments_cut count variadic (lists_of call.written.items) ≡ result → arguments_of count variadic cuts.0 ≡ result
  given result is = arguments-cut count variadic cuts.0 ∙ ap (arguments_cut count variadic) (sym cuts.2) ∙ is

  pub call_read : (r : Result ReadCall RunError) → IfOk r (λ r. arguments_cut count variadic (lists_of call.written.items) ≡ Some (lists_of r.written.items)) →
      IfOk r (λ r. r.close ≡ call.close) → IfOk r (λ r. ReadsCall count variadic ts (lists_of r.written.items) (marked_of r.close) after)
  call_read (Ok r) counts close = record {
    within = cuts.0;
    read = cuts.1 ∙ ap (λ (m : Kept). Some (record { within = cuts.0; close = marked_of m; after = after })) (sym close);
    counted = given (Some (lists_of r.written.items)) counts;
  }
  call_read (Err e) counts close = counts

  pub call_refused : (t : Kept) (r : Result ReadCall RunError) →
      IfErr r (λ e. (e ≡ Memory) ⊎ ((e ≡ Count t.token.text t.token.line) × (arguments_cut count variadic (lists_of call.written.items) ≡ None))) →
      IfErr r (λ e. RefusesCall e t count variadic ts)
  call_refused t (Ok r) why = why
  call_refused t (Err e) (inl memory) = subst (λ e. RefusesCall e t count variadic ts) (sym memory) tt
  call_refused t (Err e) (inr (is, none)) =
      subst (λ e. RefusesCall e t count variadic ts) (sym is)
      (refl, refl, (record { within = cuts.0; close = marked_of call.close; after = after }, cuts.1, given None none))

-- The arguments that are given to be expanded.

same-more : (alone : List Bool) (written given : List (List Marked)) (b : Bool) (a g : List Marked) → SameWhereAlone alone written given → (b ≡ true → g ≡ a) →
    SameWhereAlone (alone ++ b ∷ []) (written ++ a ∷ []) (given ++ g ∷ [])
same-more [] [] [] b a g same one = (one, tt)
same-more (x ∷ xs) (y ∷ ys) (z ∷ zs) b a g same one = (same.0, same-more xs ys zs b a g same.1 one)
same-more [] [] (z ∷ zs) b a g same one = absurd same
same-more [] (y ∷ ys) given b a g same one = absurd same
same-more (x ∷ xs) [] given b a g same one = absurd same
same-more (x ∷ xs) (y ∷ ys) [] b a g same one = absurd same

-- all that were written are given
pub all-given : (alone : List Bool) (written : List (Vec Kept Global)) → length alone ≡ length written → SameWhereAlone alone (lists_of written) (lists_of written)
all-given [] [] long = tt
all-given (x ∷ xs) (v ∷ vs) long = ((λ is. refl), all-given xs vs (omega (arith, long)))
all-given [] (v ∷ vs) long = absurd (not_zero (length vs) (sym long))
all-given (x ∷ xs) [] long = absurd (not_zero (length xs) long)

-- one more is given
pub given-turn : (alone : List Bool) (lists copies next : List (Vec Kept Global)) (i : ℕ) (list copy : Vec Kept Global) → i < length alone → i < length lists →
    list ≡ get_or lists i list → copy.items ≡ (if get_or alone i false then list.items else []) → next ≡ copies ++ copy ∷ [] →
    SameWhereAlone (take i alone) (lists_of (take i lists)) (lists_of copies) →
    SameWhereAlone (take (i + 1) alone) (lists_of (take (i + 1) lists)) (lists_of next)
given-turn alone lists copies next i list copy within below at_list is made same =
    let f : Vec Kept Global → List Marked = λ v. map marked_of v.items in
    let b : Bool = get_or alone i false in
    let front : take (i + 1) lists ≡ take i lists ++ list ∷ [] = take_more lists i list below ∙ ap (λ v. take i lists ++ v ∷ []) (sym at_list) in
    let one : b ≡ true → map marked_of copy.items ≡ map marked_of list.items = λ e. ap (map marked_of) (is ∙ ap (λ x. if x then list.items else []) e) in
    let more : SameWhereAlone (take i alone ++ b ∷ []) (lists_of (take i lists) ++ map marked_of list.items ∷ []) (lists_of copies ++ map marked_of copy.items ∷ []) =
    same-more (take i alone) (lists_of (take i lists)) (lists_of copies) b (map marked_of list.items) (map marked_of copy.items) same one in
    subst (SameWhereAlone (take (i + 1) alone) (lists_of (take (i + 1) lists))) (sym (ap lists_of made ∙ map-append f copies (copy ∷ [])))
    (subst (λ q. SameWhereAlone (take (i + 1) alone) q (lists_of copies ++ map marked_of copy.items ∷ []))
    (sym (ap lists_of front ∙ map-append f (take i lists) (list ∷ [])))
    (subst (λ bs. SameWhereAlone bs (lists_of (take i lists) ++ map marked_of list.items ∷ []) (lists_of copies ++ map marked_of copy.items ∷ [])) (sym (take_more alone i false within)) more))
