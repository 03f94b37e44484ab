-- Comments that stand in front of a text.
use Rattle.std.specs.Prelude.{◌≡◌, ◌≢◌, ℕ, ◌+◌, Bool, true, false, cond, not, ◌&&◌, List, [], ◌∷◌, ◌++◌, length, drop, get_or, take_while, Option, Some, None, option_map, suc, refl, ◌==◌, nat_eq, codes}
use Rattle.std.specs.List.{list_all, starts_with}
use Rattle.std.proofs.Common.{sym, ◌∙◌, ap, inr, arith}
use Rattle.std.proofs.lemmas.Bool.{eqb-true, and_parts}
use Rattle.std.proofs.lemmas.List.{append-nil}
use Rattle.std.proofs.Math.Bool.{or-false}
use Rattle.pp_tokens.specs.Grammar.{is_identifier, is_number, is_string, is_character, is_punctuator, kind_of}
use Rattle.pp_tokens.specs.Lines.{comment, open_comment, has_end, ends_comment, part_of, is_comment, is_open_comment, NoLonger, first_part}
use Rattle.pp_tokens.specs.parts.Text.{comment_length}
use Rattle.pp_tokens.proofs.Reading.{stands_first}
use Rattle.pp_tokens.proofs.FirstBytes.{Run, run_of, some_fails}

-- WHERE A COMMENT ENDS

abbrev ends_here : List ℕ → Bool
ends_here t = starts_with nat_eq t (codes "*/")

-- a comment that ends: its bytes behind `/*`, and what is behind it
record Closed (bs : List ℕ) (n : ℕ) : Type 0 where
  pub front : List ℕ
  pub after : List ℕ
  pub split : bs ≡ front ++ after
  pub size : n ≡ length front
  pub ends : ends_comment front ≡ true
  pub once : (more : List ℕ) → more ≢ [] → ends_comment (front ++ more) ≡ false
  pub closed : (more : List ℕ) → has_end (front ++ more) ≡ true

-- what ends here begins with `*/`
record EndsHere (b : ℕ) (bs : List ℕ) : Type 0 where
  pub star : b ≡ 42
  pub rest : List ℕ
  pub slash : bs ≡ 47 ∷ rest

ends_here_is : (b : ℕ) (bs : List ℕ) → ends_here (b ∷ bs) ≡ true → EndsHere b bs
ends_here_is b [] h = absurd (let e : false ≡ true = (and_parts (nat_eq 42 b) false h).1 in cc)
ends_here_is b (c ∷ cs) h =
    let both = and_parts (nat_eq 42 b) (nat_eq 47 c && true) h in
    let slash : 47 ≡ c = eqb-true 47 c (and_parts (nat_eq 47 c) true both.1).0 in
    record { star = sym (eqb-true 42 b both.0); rest = cs; slash = ap (λ (k : ℕ). k ∷ cs) (sym slash) }

-- whether a text ends a comment at once depends on its first two bytes
same_here : (b : ℕ) (front more : List ℕ) → front ≢ [] → ends_here (b ∷ (front ++ more)) ≡ ends_here (b ∷ front)
same_here b [] more some = absurd (some refl)
same_here b (c ∷ front) more some = refl

closed_front : (bs : List ℕ) (n : ℕ) → comment_length bs ≡ Some n → Closed bs n
unfolding comment_length ends_comment has_end
closed_front [] n h = absurd (cc)
closed_front (b ∷ bs) n h = by_test (ends_here (b ∷ bs)) refl (comment_length bs) refl h (closed_front bs)
  where
    not_empty : (front : List ℕ) → ends_comment front ≡ true → front ≢ []
    not_empty [] h e = cc
    not_empty (c ∷ front) h e = cc

    by_test : (t : Bool) → ends_here (b ∷ bs) ≡ t → (o : Option ℕ) → comment_length bs ≡ o → cond t (Some 2) (option_map suc (comment_length bs)) ≡ Some n
        → ((m : ℕ) → comment_length bs ≡ Some m → Closed bs m) → Closed (b ∷ bs) n
    by_test true e o is h ih =
        let here = ends_here_is b bs e in
        record {
          front = 42 ∷ 47 ∷ [];
          after = here.rest;
          split = ap (λ (k : ℕ). k ∷ bs) here.star ∙ ap (λ (l : List ℕ). 42 ∷ l) here.slash;
          size = (let two : 2 ≡ n = cc in sym two);
          ends = refl;
          once = once;
          closed = λ more. refl;
        }
      where
        once : (more : List ℕ) → more ≢ [] → ends_comment ((42 ∷ 47 ∷ []) ++ more) ≡ false
        once [] some = absurd (some refl)
        once (m ∷ more) some = refl
    by_test false e None is h ih = absurd (let none : None ≡ Some n = sym (ap (option_map suc) is) ∙ h in cc)
    by_test false e (Some m) is h ih =
        let r = ih m is in
        let some = not_empty r.front r.ends in
        let next : Some (suc m) ≡ Some n = sym (ap (option_map suc) is) ∙ h in
        let size : suc m ≡ n = cc in
        let shut : ends_here (b ∷ r.front) ≡ false = sym (same_here b r.front r.after some) ∙ ap (λ (l : List ℕ). ends_here (b ∷ l)) (sym r.split) ∙ e in
        record {
          front = b ∷ r.front;
          after = r.after;
          split = ap (λ (l : List ℕ). b ∷ l) r.split;
          size = sym size ∙ ap suc r.size;
          ends = rw shut r.ends;
          once = λ more some'. (let other : ends_here (b ∷ (r.front ++ more)) ≡ false = same_here b r.front more some ∙ shut in rw other (r.once more some'));
          closed = λ more. (let other : ends_here (b ∷ (r.front ++ more)) ≡ false = same_here b r.front more some ∙ shut in rw other (r.closed more));
        }

-- a comment that never ends has no end
open_rest : (bs : List ℕ) → comment_length bs ≡ None → (has_end bs ≡ false) × (ends_comment bs ≡ false)
unfolding comment_length has_end ends_comment
open_rest [] h = (refl, refl)
open_rest (b ∷ bs) h = by_test (ends_here (b ∷ bs)) refl (comment_length bs) refl h (open_rest bs)
  where
    by_test : (t : Bool) → ends_here (b ∷ bs) ≡ t → (o : Option ℕ) → comment_length bs ≡ o → cond t (Some 2) (option_map suc (comment_length bs)) ≡ None
        → (comment_length bs ≡ None → (has_end bs ≡ false) × (ends_comment bs ≡ false)) → (has_end (b ∷ bs) ≡ false) × (ends_comment (b ∷ bs) ≡ false)
    by_test true e o is h ih = absurd (cc)
    by_test false e None is h ih = let later = ih is in (rw e later.0, rw e later.1)
    by_test false e (Some m) is h ih = absurd (let none : Some (suc m) ≡ None = sym (ap (option_map suc) is) ∙ h in cc)

-- WHAT BEGINS WITH `/*` OR `//`

block_part : (u : List ℕ) → part_of (47 ∷ 42 ∷ u) ≡ cond (ends_comment u) (Some comment) (cond (not (has_end u)) (Some open_comment) None)
unfolding part_of kind_of is_identifier is_number is_string is_character is_punctuator is_comment is_open_comment
block_part u = rw (or-false (ends_comment u)) refl

abbrev on_line : ℕ → Bool
on_line b = not (b == 10)

line_part : (u : List ℕ) → part_of (47 ∷ 47 ∷ u) ≡ cond (list_all on_line u) (Some comment) None
unfolding part_of kind_of is_identifier is_number is_string is_character is_punctuator is_comment is_open_comment
line_part u = refl

closed_first : (bs : List ℕ) (n : ℕ) → comment_length bs ≡ Some n → first_part false (47 ∷ 42 ∷ bs) ≡ (comment, suc (suc n))
closed_first bs n h =
    let r = closed_front bs n h in
    ap (λ (l : List ℕ). first_part false (47 ∷ 42 ∷ l)) r.split
    ∙ stands_first false comment (47 ∷ 42 ∷ r.front) r.after (λ e. cc)
    (inr (λ e. absurd (cc), block_part r.front ∙ rw r.ends refl, λ more rest some e. block_part (r.front ++ more) ∙ rw (r.once more some, r.closed more) refl))
    ∙ ap (λ k. (comment, suc (suc k))) (sym r.size)

open_first : (bs : List ℕ) → comment_length bs ≡ None → first_part false (47 ∷ 42 ∷ bs) ≡ (open_comment, suc (suc (length bs)))
open_first bs h =
    let r = open_rest bs h in
    ap (λ (l : List ℕ). first_part false (47 ∷ 42 ∷ l)) (sym (append-nil bs))
    ∙ stands_first false open_comment (47 ∷ 42 ∷ bs) [] (λ e. cc)
    (inr (λ e. absurd (cc), block_part bs ∙ rw (r.1, r.0) refl, nothing))
  where
    nothing : NoLonger part_of (47 ∷ 42 ∷ bs) []
    nothing [] rest some e = absurd (some refl)
    nothing (m ∷ more) rest some e = absurd (cc)

line_first : (bs : List ℕ) → first_part false (47 ∷ 47 ∷ bs) ≡ (comment, suc (suc (length (take_while on_line bs))))
line_first bs =
    let r = run_of on_line bs in
    let t = take_while on_line bs in
    ap (λ (l : List ℕ). first_part false (47 ∷ 47 ∷ l)) r.split
    ∙ stands_first false comment (47 ∷ 47 ∷ t) r.after (λ e. cc)
    (inr (λ e. absurd (cc), line_part t ∙ rw r.each refl, longest r))
  where
    longest : (r : Run on_line bs) → NoLonger part_of (47 ∷ 47 ∷ take_while on_line bs) r.after
    longest r [] rest some e = absurd (some refl)
    longest r (m ∷ more) rest some e =
        let stop : on_line m ≡ false = r.stops m (more ++ rest) e in
        line_part (take_while on_line bs ++ (m ∷ more)) ∙ rw (some_fails on_line (take_while on_line bs) m more stop) refl

-- FROM THE FIRST BYTES

-- the two bytes in front and the rest
two_bytes : (text : List ℕ) (a b : ℕ) → get_or text 0 0 ≡ suc a → get_or text 1 0 ≡ suc b → text ≡ suc a ∷ suc b ∷ drop 2 text
two_bytes [] a b h k = absurd (omega arith)
two_bytes (x ∷ []) a b h k = absurd (omega arith)
two_bytes (x ∷ y ∷ u) a b h k = ap (λ (m : ℕ). m ∷ y ∷ u) h ∙ ap (λ (m : ℕ). suc a ∷ m ∷ u) k

pub block_closed : (text : List ℕ) (n : ℕ) → get_or text 0 0 ≡ 47 → get_or text 1 0 ≡ 42 → comment_length (drop 2 text) ≡ Some n
    → first_part false text ≡ (comment, n + 2)
block_closed text n h k is =
    let size : suc (suc n) ≡ n + 2 = omega arith in
    ap (first_part false) (two_bytes text 46 41 h k) ∙ closed_first (drop 2 text) n is ∙ ap (λ m. (comment, m)) size

pub block_open : (text : List ℕ) → get_or text 0 0 ≡ 47 → get_or text 1 0 ≡ 42 → comment_length (drop 2 text) ≡ None
    → first_part false text ≡ (open_comment, length text)
block_open text h k is =
    let whole = two_bytes text 46 41 h k in
    ap (first_part false) whole ∙ open_first (drop 2 text) is ∙ ap (λ (l : List ℕ). (open_comment, length l)) (sym whole)

pub line_comment : (text : List ℕ) → get_or text 0 0 ≡ 47 → get_or text 1 0 ≡ 47
    → first_part false text ≡ (comment, length (take_while (λ b. not (b == 10)) (drop 2 text)) + 2)
line_comment text h k =
    let n = length (take_while on_line (drop 2 text)) in
    let size : suc (suc n) ≡ n + 2 = omega arith in
    ap (first_part false) (two_bytes text 46 46 h k) ∙ line_first (drop 2 text) ∙ ap (λ m. (comment, m)) size
