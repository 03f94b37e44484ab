-- Numbers and single bytes that stand in front of a text.
use Prim.Native.Nat.compare
use lib.Dec.{compare_is_eq}
use Rattle.std.specs.Prelude.{◌≡◌, ◌&&◌, ℕ, ◌+◌, ◌≤◌, ◌<◌, Bool, true, false, cond, List, [], ◌∷◌, ◌++◌, length, Some, None, option_map, zero, suc, refl, ◌==◌, drop, eqb}
use Rattle.std.proofs.Math.Numerals.{one-add}
use Rattle.std.proofs.Common.{get_or, sym, ◌∙◌, ap, inl, inr, arith}
use Rattle.std.proofs.lemmas.List.{drop_more}
use Rattle.std.proofs.lemmas.Bool.{eqb-true, leb-true, ne_eqb, and_parts, and_right, or_cases}
use Rattle.pp_tokens.specs.declared.token.Kind.TheVariants.{Number}
use Rattle.pp_tokens.specs.Grammar.{is_digit, is_identifier_start, is_identifier, is_number, number_goes_on, continues_number, is_string, is_character, is_punctuator, kind_of, number_length}
use Rattle.pp_tokens.specs.parts.Text.{begins_number}
use Rattle.pp_tokens.specs.Lines.{Part, token, part_of, is_comment, is_open_comment, NoLonger, first_part}
use Rattle.pp_tokens.proofs.Reading.{stands_first}
use Rattle.pp_tokens.proofs.FirstBytes.{apart, no_comment, no_open_comment, no_punctuator, digit_no_start}

digit_starts_none : (b : ℕ) → is_digit b ≡ true → is_identifier_start b ≡ false
digit_starts_none b d = by_test (is_identifier_start b) refl
  where
    by_test : (t : Bool) → is_identifier_start b ≡ t → t ≡ false
    by_test false e = refl
    by_test true e = absurd (digit_no_start b (leb-true 48 b (and_parts _ _ d).0) (leb-true b 57 (and_parts _ _ d).1) e)

-- no literal begins with a digit
digit_no_string : (b : ℕ) (u : List ℕ) → is_digit b ≡ true → is_string (b ∷ u) ≡ false
unfolding is_string
digit_no_string b u d =
    let q : (b == 34) ≡ false = apart is_digit b 34 d refl in
    let p : eqb 117 b ≡ false = other 117 refl in
    let r : eqb 85 b ≡ false = other 85 refl in
    let l : eqb 76 b ≡ false = other 76 refl in
    rw (q, p, r, l) refl
  where
    other : (k : ℕ) → is_digit k ≡ false → eqb k b ≡ false
    other k h = ne_eqb k b (λ e. (let x : true ≡ false = sym d ∙ ap is_digit (sym e) ∙ h in cc))

digit_no_character : (b : ℕ) (u : List ℕ) → is_digit b ≡ true → is_character (b ∷ u) ≡ false
unfolding is_character
digit_no_character b u d =
    let q : (b == 39) ≡ false = apart is_digit b 39 d refl in
    let p : eqb 117 b ≡ false = other 117 refl in
    let r : eqb 85 b ≡ false = other 85 refl in
    let l : eqb 76 b ≡ false = other 76 refl in
    rw (q, p, r, l) refl
  where
    other : (k : ℕ) → is_digit k ≡ false → eqb k b ≡ false
    other k h = ne_eqb k b (λ e. (let x : true ≡ false = sym d ∙ ap is_digit (sym e) ∙ h in cc))

-- a text of two bytes and more that begins with a digit is a number or nothing
pub number_part : (b c : ℕ) (u : List ℕ) → is_digit b ≡ true → part_of (b ∷ c ∷ u) ≡ cond (number_goes_on b (c ∷ u)) (Some (token Number)) None
unfolding part_of kind_of is_identifier is_number
number_part b c u d =
    let start : is_identifier_start b ≡ false = digit_starts_none b d in
    let slash : (b == 47) ≡ false = apart is_digit b 47 d refl in
    let punct : is_punctuator (b ∷ c ∷ u) ≡ false = no_punctuator is_digit b (c ∷ u) d refl refl in
    rw (no_comment b (c ∷ u) slash, no_open_comment b (c ∷ u) slash, start, d, digit_no_character b (c ∷ u) d, digit_no_string b (c ∷ u) d, punct)
    (by_test (number_goes_on b (c ∷ u)))
  where
    by_test : (t : Bool) → option_map token (cond t (Some Number) None) ≡ cond t (Some (token Number)) None
    by_test true = refl
    by_test false = refl

-- what the number's bytes are, and what is behind them
pub record NumberRun (a : ℕ) (xs : List ℕ) : Type 0 where
  pub front : List ℕ
  pub after : List ℕ
  pub split : xs ≡ front ++ after
  pub size : length front ≡ number_length a xs
  pub goes_on : number_goes_on a front ≡ true
  pub stops : (m : ℕ) (ms : List ℕ) (rest : List ℕ) → after ≡ (m ∷ ms) ++ rest → number_goes_on a (front ++ (m ∷ ms)) ≡ false

number_run : (a : ℕ) (xs : List ℕ) → NumberRun a xs
unfolding number_goes_on number_length
number_run a [] = record { front = []; after = []; split = refl; size = refl; goes_on = refl; stops = λ m ms rest e. absurd (cc) }
number_run a (x ∷ xs) = by_test (continues_number a x) refl (number_run x xs)
  where
    by_test : (t : Bool) → continues_number a x ≡ t → NumberRun x xs → NumberRun a (x ∷ xs)
    by_test true e r = record {
      front = x ∷ r.front;
      after = r.after;
      split = ap (λ (l : List ℕ). x ∷ l) r.split;
      size = rw e (ap suc r.size);
      goes_on = rw e r.goes_on;
      stops = λ m ms rest e'. and_right (continues_number a x) _ (r.stops m ms rest e');
    }
    by_test false e r = record {
      front = [];
      after = x ∷ xs;
      split = refl;
      size = rw e refl;
      goes_on = refl;
      stops = λ m ms rest e'. (let s : x ≡ m = cc in rw (sym (ap (continues_number a) s) ∙ e) refl);
    }

one_digit : (b : ℕ) → is_digit b ≡ true → part_of (b ∷ []) ≡ Some (token Number)
unfolding part_of kind_of is_identifier is_number number_goes_on is_comment is_open_comment
one_digit b d =
    let w1 : (b == 10) ≡ false = apart is_digit b 10 d refl in
    let w2 : (b == 32) ≡ false = apart is_digit b 32 d refl in
    let w3 : (b == 9) ≡ false = apart is_digit b 9 d refl in
    let w4 : (b == 11) ≡ false = apart is_digit b 11 d refl in
    let w5 : (b == 12) ≡ false = apart is_digit b 12 d refl in
    let w6 : (b == 13) ≡ false = apart is_digit b 13 d refl in
    rw (w1, w2, w3, w4, w5, w6, digit_starts_none b d, d) refl

-- a number in front of any text is what stands there
pub number_stands : (b : ℕ) (bs : List ℕ) → is_digit b ≡ true → first_part false (b ∷ bs) ≡ (token Number, suc (number_length b bs))
number_stands b bs d =
    let r = number_run b bs in
    ap (λ (l : List ℕ). first_part false (b ∷ l)) r.split
    ∙ stands_first false (token Number) (b ∷ r.front) r.after (λ e. cc) (inr (λ e. absurd (cc), is r.front r.goes_on, longest r))
    ∙ ap (λ n. (token Number, suc n)) r.size
  where
    is : (t : List ℕ) → number_goes_on b t ≡ true → part_of (b ∷ t) ≡ Some (token Number)
    is [] h = one_digit b d
    is (c ∷ t) h = number_part b c t d ∙ ap (λ q. cond q (Some (token Number)) None) h

    ends : (t : List ℕ) (m : ℕ) (ms : List ℕ) → number_goes_on b (t ++ (m ∷ ms)) ≡ false → part_of (b ∷ (t ++ (m ∷ ms))) ≡ None
    ends [] m ms h = number_part b m ms d ∙ ap (λ q. cond q (Some (token Number)) None) h
    ends (c ∷ t) m ms h = number_part b c (t ++ (m ∷ ms)) d ∙ ap (λ q. cond q (Some (token Number)) None) h

    longest : (r : NumberRun b bs) → NoLonger part_of (b ∷ r.front) r.after
    longest r [] rest some e = absurd (some refl)
    longest r (m ∷ ms) rest some e = ends r.front m ms (r.stops m ms rest e)

-- a text of two bytes and more that begins with `.` and a digit is a number or nothing
point_part : (c : ℕ) (u : List ℕ) → is_digit c ≡ true → part_of (46 ∷ c ∷ u) ≡ cond (number_goes_on 46 (c ∷ u)) (Some (token Number)) None
unfolding part_of kind_of is_identifier is_number is_string is_character is_punctuator is_comment is_open_comment
point_part c u d =
    let point : (c == 46) ≡ false = apart is_digit c 46 d refl in
    rw (d, point) (by_test (number_goes_on 46 (c ∷ u)))
  where
    by_test : (t : Bool) → option_map token (cond t (Some Number) None) ≡ cond t (Some (token Number)) None
    by_test true = refl
    by_test false = refl

-- a number that begins with `.` in front of any text is what stands there
pub point_stands : (c : ℕ) (bs : List ℕ) → is_digit c ≡ true → first_part false (46 ∷ c ∷ bs) ≡ (token Number, suc (number_length 46 (c ∷ bs)))
unfolding number_goes_on number_length
point_stands c bs d =
    let r = number_run c bs in
    ap (λ (l : List ℕ). first_part false (46 ∷ c ∷ l)) r.split
    ∙ stands_first false (token Number) (46 ∷ c ∷ r.front) r.after (λ e. cc) (inr (λ e. absurd (cc), is r, longest r))
    ∙ ap (λ n. (token Number, suc (suc n))) r.size
    ∙ ap (λ t. (token Number, suc (cond t (suc (number_length c bs)) 0))) (sym on)
  where
    on : continues_number 46 c ≡ true
    on = rw (digit_starts_none c d, d) refl

    is : (r : NumberRun c bs) → part_of (46 ∷ c ∷ r.front) ≡ Some (token Number)
    is r = point_part c r.front d ∙ rw (on, r.goes_on) refl

    longest : (r : NumberRun c bs) → NoLonger part_of (46 ∷ c ∷ r.front) r.after
    longest r [] rest some e = absurd (some refl)
    longest r (m ∷ ms) rest some e = point_part c (r.front ++ (m ∷ ms)) d ∙ rw (on, r.stops m ms rest e) refl

pub number_first : (text : List ℕ) → begins_number (get_or text 0 0) (get_or text 1 0) ≡ true
    → first_part false text ≡ (token Number, suc (number_length (get_or text 0 0) (drop 1 text)))
number_first [] h = absurd (cc)
number_first (b ∷ bs) h =
    elim (or_cases (is_digit b) _ h) [
      | inl d ↦ number_stands b bs d
      | inr p ↦
          (let both = and_parts (b == 46) (is_digit (get_or bs 0 0)) p in
          ap (λ k. first_part false (k ∷ bs)) (eqb-true b 46 both.0) ∙ behind_point bs both.1
          ∙ ap (λ k. (token Number, suc (number_length k bs))) (sym (eqb-true b 46 both.0)))
    ]
  where
    behind_point : (bs : List ℕ) → is_digit (get_or bs 0 0) ≡ true → first_part false (46 ∷ bs) ≡ (token Number, suc (number_length 46 bs))
    behind_point [] d = absurd (cc)
    behind_point (c ∷ cs) d = point_stands c cs d

-- a byte that makes no part with others stands alone
pub single_stands : (b : ℕ) (bs : List ℕ) (p : Part) → part_of (b ∷ []) ≡ Some p → ((c : ℕ) (u : List ℕ) → part_of (b ∷ c ∷ u) ≡ None) → first_part false (b ∷ bs) ≡ (p, 1)
single_stands b bs p is alone =
    stands_first false p (b ∷ []) bs (λ e. cc) (inr (λ e. absurd (cc), is, longest))
  where
    longest : NoLonger part_of (b ∷ []) bs
    longest [] rest some e = absurd (some refl)
    longest (m ∷ ms) rest some e = alone m ms

-- BYTE BY BYTE

pub number_more : (last : ℕ) (xs : List ℕ) (i : ℕ) → i < length xs → continues_number last (get_or xs i 0) ≡ true
    → number_length last (drop i xs) ≡ 1 + number_length (get_or xs i 0) (drop (i + 1) xs)
unfolding number_length
number_more last xs i h e = rw (drop_more xs i 0 h) (rw (e, one-add) refl)

pub number_stops : (last : ℕ) (xs : List ℕ) (i : ℕ) → i < length xs → continues_number last (get_or xs i 0) ≡ false → number_length last (drop i xs) ≡ 0
unfolding number_length
number_stops last xs i h e = rw (drop_more xs i 0 h) (rw e refl)

pub number_end : (last : ℕ) (xs : List ℕ) (i : ℕ) → length xs ≤ i → number_length last (drop i xs) ≡ 0
unfolding number_length
number_end last [] zero h = refl
number_end last [] (suc i) h = refl
number_end last (x ∷ xs) zero h = absurd (omega arith)
number_end last (x ∷ xs) (suc i) h = number_end last xs i (omega arith)

-- bytes go on with a number where all of them do
pub number_goes_on-length : (last : ℕ) (bs : List ℕ) → eqb (number_length last bs) (length bs) ≡ number_goes_on last bs
unfolding number_goes_on number_length
number_goes_on-length last [] = refl
number_goes_on-length last (b ∷ bs) = go (continues_number last b) (number_goes_on-length b bs)
  where
    go : (c : Bool) → eqb (number_length b bs) (length bs) ≡ number_goes_on b bs →
        eqb (cond c (suc (number_length b bs)) 0) (suc (length bs)) ≡ (c && number_goes_on b bs)
    go true rest = ap compare_is_eq (compare.suc-suc (number_length b bs) (length bs)) ∙ rest
    go false rest = ne_eqb 0 (suc (length bs)) (λ e. absurd (omega (arith, e)))
