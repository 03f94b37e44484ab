-- The search for a closing quote or delimiter finds what the grammar says, and what one search has passed in vain needs
-- no other.
use Rattle.std.specs.Prelude.{◌≡◌, ◌≢◌, ℕ, zero, suc, ◌+◌, ◌-◌, ◌≤◌, ◌<◌, Bool, true, false, cond, not, ◌&&◌, List, [], ◌∷◌, ◌++◌, length, take, drop, take_while, get_or, Option, Some, None, option_map, refl, ◌==◌, ◌⊎◌}
use Rattle.std.specs.List.{list_all}
use Rattle.std.proofs.Common.{sym, ◌∙◌, ap, inl, inr, arith, add-one}
use Rattle.std.proofs.lemmas.Bool.{cases_lt, not-true, eq-eqb, ne_eqb, and_parts}
use Rattle.std.proofs.lemmas.List.{append-nil, length-append, length-drop, drop-drop, drop_all, get_or-drop}
use Rattle.std.proofs.Math.Seq.{drop-cons, take-append_seam}
use Rattle.pp_tokens.specs.declared.unpaired.Unpaired.{Unpaired}
use Rattle.pp_tokens.specs.Grammar.{closes, closes_header, is_empty}
use Rattle.pp_tokens.specs.parts.Text.{no_newline}
use Rattle.pp_tokens.specs.parts.Unpaired.{closing_length, delimiter_length, NonePairs, KnowsUnpaired}
use Rattle.pp_tokens.proofs.Longest.{map_none}
use Rattle.pp_tokens.proofs.FirstBytes.{run_of}

-- a text cut behind a front that passes a test
pub record Cut (test : List ℕ → Bool) (text : List ℕ) (n : ℕ) : Type 0 where
  pub front : List ℕ
  pub rest : List ℕ
  pub split : text ≡ front ++ rest
  pub passes : test front ≡ true
  pub size : n ≡ length front

pub cut_within : (test : List ℕ → Bool) (text : List ℕ) (n : ℕ) → Cut test text n → n ≤ length text
cut_within test text n c = omega (arith, c.size, ap length c.split, length-append c.front c.rest)

one_longer : (test tail_test : List ℕ → Bool) (b : ℕ) (bs : List ℕ) (o : Option ℕ) (n : ℕ)
    → ((t : List ℕ) → tail_test t ≡ true → test (b ∷ t) ≡ true) → option_map suc o ≡ Some n
    → ((m : ℕ) → o ≡ Some m → Cut tail_test bs m) → Cut test (b ∷ bs) n
one_longer test tail_test b bs None n passes h ih = absurd (cc)
one_longer test tail_test b bs (Some m) n passes h ih =
    let c = ih m refl in
    let e : suc m ≡ n = cc in
    record {
      front = b ∷ c.front;
      rest = c.rest;
      split = ap (λ (l : List ℕ). b ∷ l) c.split;
      passes = passes c.front c.passes;
      size = sym e ∙ ap suc c.size;
    }

-- what is found behind so many bytes, from their start on
abbrev pub further : ℕ → Option ℕ → Option ℕ
further n None = None
further n (Some m) = Some (n + m)

further_suc : (n : ℕ) (o : Option ℕ) → further n (option_map suc o) ≡ further (n + 1) o
further_suc n None = refl
further_suc n (Some m) = let e : n + suc m ≡ n + 1 + m = omega arith in ap Some e

-- STRINGS AND CHARACTERS

-- the quote that the grammar closes with is found, whatever stands behind
pub closing_found : (q : ℕ) (e : Bool) (t rest : List ℕ) → closes q e t ≡ true → closing_length q e (t ++ rest) ≡ Some (length t)
unfolding closes closing_length
closing_found q true [] rest h = absurd (cc)
closing_found q false [] rest h = absurd (cc)
closing_found q true (b ∷ t) rest h =
    let both = and_parts (not (b == 10)) (closes q false t) h in
    let other : (b == 10) ≡ false = not-true (b == 10) both.0 in
    let found : closing_length q false (t ++ rest) ≡ Some (length t) = closing_found q false t rest both.1 in
    rw (other, found) refl
closing_found q false (b ∷ t) rest h = by_test (b == q) t h (λ e h'. closing_found q e t rest h')
  where
    by_test : (s : Bool) (t : List ℕ) → cond s (is_empty t) (not (b == 10) && closes q (b == 92) t) ≡ true
        → ((e : Bool) → closes q e t ≡ true → closing_length q e (t ++ rest) ≡ Some (length t))
        → cond s (Some 1) (cond (b == 10) None (option_map suc (closing_length q (b == 92) (t ++ rest)))) ≡ Some (suc (length t))
    by_test true [] h ih = refl
    by_test true (c ∷ t) h ih = absurd (cc)
    by_test false t h ih =
        let both = and_parts (not (b == 10)) (closes q (b == 92) t) h in
        let other : (b == 10) ≡ false = not-true (b == 10) both.0 in
        let found : closing_length q (b == 92) (t ++ rest) ≡ Some (length t) = ih (b == 92) both.1 in
        rw (other, found) refl

-- what is found closes by the grammar
pub closing_cut : (q : ℕ) (e : Bool) (bs : List ℕ) (n : ℕ) → closing_length q e bs ≡ Some n → Cut (closes q e) bs n
unfolding closes closing_length
closing_cut q true [] n h = absurd (cc)
closing_cut q false [] n h = absurd (cc)
closing_cut q true (b ∷ bs) n h = by_line (b == 10) refl h (λ m h'. closing_cut q false bs m h')
  where
    by_line : (s : Bool) → (b == 10) ≡ s → cond s None (option_map suc (closing_length q false bs)) ≡ Some n
        → ((m : ℕ) → closing_length q false bs ≡ Some m → Cut (closes q false) bs m) → Cut (closes q true) (b ∷ bs) n
    by_line true is h ih = absurd (cc)
    by_line false is h ih = one_longer (closes q true) (closes q false) b bs (closing_length q false bs) n (λ t p. rw (is, p) refl) h ih
closing_cut q false (b ∷ bs) n h = by_quote (b == q) refl h (λ e m h'. closing_cut q e bs m h')
  where
    by_line : (s : Bool) → (b == q) ≡ false → (b == 10) ≡ s → cond s None (option_map suc (closing_length q (b == 92) bs)) ≡ Some n
        → ((e : Bool) (m : ℕ) → closing_length q e bs ≡ Some m → Cut (closes q e) bs m) → Cut (closes q false) (b ∷ bs) n
    by_line true other is h ih = absurd (cc)
    by_line false other is h ih =
        one_longer (closes q false) (closes q (b == 92)) b bs (closing_length q (b == 92) bs) n (λ t p. rw (other, is, p) refl) h (ih (b == 92))

    by_quote : (s : Bool) → (b == q) ≡ s → cond s (Some 1) (cond (b == 10) None (option_map suc (closing_length q (b == 92) bs))) ≡ Some n
        → ((e : Bool) (m : ℕ) → closing_length q e bs ≡ Some m → Cut (closes q e) bs m) → Cut (closes q false) (b ∷ bs) n
    by_quote true is h ih =
        let one : 1 ≡ n = cc in
        record { front = b ∷ []; rest = bs; split = refl; passes = rw is refl; size = sym one }
    by_quote false is h ih = by_line (b == 10) is refl h ih

-- what closes doesn't close any further on
pub closes_once : (q : ℕ) (t more : List ℕ) → more ≢ [] → closes q false t ≡ true → closes q false (t ++ more) ≡ false
closes_once q t more some h = by_test (closes q false (t ++ more)) refl
  where
    longer : (m : List ℕ) → m ≢ [] → length t ≡ length (t ++ m) → ⊥
    longer [] some e = some refl
    longer (m ∷ ms) some e = omega (arith, e, length-append t (m ∷ ms))

    by_test : (s : Bool) → closes q false (t ++ more) ≡ s → s ≡ false
    by_test false e = refl
    by_test true e =
        let short : closing_length q false (t ++ more) ≡ Some (length t) = closing_found q false t more h in
        let long : closing_length q false ((t ++ more) ++ []) ≡ Some (length (t ++ more)) = closing_found q false (t ++ more) [] e in
        let same : closing_length q false ((t ++ more) ++ []) ≡ closing_length q false (t ++ more) = ap (closing_length q false) (append-nil (t ++ more)) in
        let equal : length t ≡ length (t ++ more) = cc in
        absurd (longer more some equal)

-- where no quote closes, no front of the text is closed
pub none_closes : (q : ℕ) (bs front rest : List ℕ) → closing_length q false bs ≡ None → bs ≡ front ++ rest → closes q false front ≡ false
none_closes q bs front rest none split = by_test (closes q false front) refl
  where
    by_test : (s : Bool) → closes q false front ≡ s → s ≡ false
    by_test false e = refl
    by_test true e =
        let found : closing_length q false (front ++ rest) ≡ Some (length front) = closing_found q false front rest e in
        let same : closing_length q false bs ≡ closing_length q false (front ++ rest) = ap (closing_length q false) split in
        absurd (cc)

-- the search at each byte

-- a text from a place on, by its first byte
abbrev pub rest_from : List ℕ → ℕ → List ℕ
rest_from bs i = get_or bs i 0 ∷ drop (i + 1) bs

pub rest_is : (bs : List ℕ) (i : ℕ) → i < length bs → drop i bs ≡ rest_from bs i
rest_is bs i h = drop-cons bs i 0 h ∙ ap (λ n. get_or bs i 0 ∷ drop n bs) (sym (add-one i))

pub closing_here : (q : ℕ) (e : Bool) (bs : List ℕ) (i : ℕ) → i < length bs → (not e && (get_or bs i 0 == q)) ≡ true
    → further i (closing_length q e (drop i bs)) ≡ Some (i + 1)
unfolding closing_length
closing_here q e bs i h is = ap (λ l. further i (closing_length q e l)) (rest_is bs i h) ∙ ap (further i) (here e is)
  where
    here : (e : Bool) → (not e && (get_or bs i 0 == q)) ≡ true → closing_length q e (rest_from bs i) ≡ Some 1
    here true is = absurd (cc)
    here false is = rw is refl

pub closing_line : (q : ℕ) (e : Bool) (bs : List ℕ) (i : ℕ) → i < length bs → (not e && (get_or bs i 0 == q)) ≡ false → get_or bs i 0 ≡ 10
    → further i (closing_length q e (drop i bs)) ≡ None
unfolding closing_length
closing_line q e bs i h on is =
    let line : (get_or bs i 0 == 10) ≡ true = eq-eqb (get_or bs i 0) 10 is in
    ap (λ l. further i (closing_length q e l)) (rest_is bs i h) ∙ ap (further i) (here e on line)
  where
    here : (e : Bool) → (not e && (get_or bs i 0 == q)) ≡ false → (get_or bs i 0 == 10) ≡ true → closing_length q e (rest_from bs i) ≡ None
    here true on line = rw line refl
    here false on line = rw (on, line) refl

pub closing_more : (q : ℕ) (e : Bool) (bs : List ℕ) (i : ℕ) → i < length bs → (not e && (get_or bs i 0 == q)) ≡ false → (get_or bs i 0 ≡ 10 → ⊥)
    → further i (closing_length q e (drop i bs)) ≡ further (i + 1) (closing_length q (not e && (get_or bs i 0 == 92)) (drop (i + 1) bs))
unfolding closing_length
closing_more q e bs i h on other =
    let line : (get_or bs i 0 == 10) ≡ false = ne_eqb (get_or bs i 0) 10 other in
    ap (λ l. further i (closing_length q e l)) (rest_is bs i h) ∙ ap (further i) (here e on line) ∙ further_suc i _
  where
    here : (e : Bool) → (not e && (get_or bs i 0 == q)) ≡ false → (get_or bs i 0 == 10) ≡ false
        → closing_length q e (rest_from bs i) ≡ option_map suc (closing_length q (not e && (get_or bs i 0 == 92)) (drop (i + 1) bs))
    here true on line = rw line refl
    here false on line = rw (on, line) refl

pub closing_end : (q : ℕ) (e : Bool) (bs : List ℕ) (i : ℕ) → length bs ≤ i → further i (closing_length q e (drop i bs)) ≡ None
unfolding closing_length
closing_end q e bs i h = ap (λ l. further i (closing_length q e l)) (drop_all i bs h) ∙ ap (further i) (empty e)
  where
    empty : (e : Bool) → closing_length q e [] ≡ None
    empty true = refl
    empty false = refl

-- HEADER NAMES

pub delimiter_found : (d : ℕ) (t rest : List ℕ) → closes_header d t ≡ true → delimiter_length d (t ++ rest) ≡ Some (length t)
unfolding closes_header delimiter_length
delimiter_found d [] rest h = absurd (cc)
delimiter_found d (b ∷ t) rest h = by_test (b == d) t h (λ h'. delimiter_found d t rest h')
  where
    by_test : (s : Bool) (t : List ℕ) → cond s (is_empty t) (not (b == 10) && closes_header d t) ≡ true
        → (closes_header d t ≡ true → delimiter_length d (t ++ rest) ≡ Some (length t))
        → cond s (Some 1) (cond (b == 10) None (option_map suc (delimiter_length d (t ++ rest)))) ≡ Some (suc (length t))
    by_test true [] h ih = refl
    by_test true (c ∷ t) h ih = absurd (cc)
    by_test false t h ih =
        let both = and_parts (not (b == 10)) (closes_header d t) h in
        let other : (b == 10) ≡ false = not-true (b == 10) both.0 in
        let found : delimiter_length d (t ++ rest) ≡ Some (length t) = ih both.1 in
        rw (other, found) refl

pub delimiter_cut : (d : ℕ) (bs : List ℕ) (n : ℕ) → delimiter_length d bs ≡ Some n → Cut (closes_header d) bs n
unfolding closes_header delimiter_length
delimiter_cut d [] n h = absurd (cc)
delimiter_cut d (b ∷ bs) n h = by_delimiter (b == d) refl h (λ m h'. delimiter_cut d bs m h')
  where
    by_line : (s : Bool) → (b == d) ≡ false → (b == 10) ≡ s → cond s None (option_map suc (delimiter_length d bs)) ≡ Some n
        → ((m : ℕ) → delimiter_length d bs ≡ Some m → Cut (closes_header d) bs m) → Cut (closes_header d) (b ∷ bs) n
    by_line true other is h ih = absurd (cc)
    by_line false other is h ih =
        one_longer (closes_header d) (closes_header d) b bs (delimiter_length d bs) n (λ t p. rw (other, is, p) refl) h ih

    by_delimiter : (s : Bool) → (b == d) ≡ s → cond s (Some 1) (cond (b == 10) None (option_map suc (delimiter_length d bs))) ≡ Some n
        → ((m : ℕ) → delimiter_length d bs ≡ Some m → Cut (closes_header d) bs m) → Cut (closes_header d) (b ∷ bs) n
    by_delimiter true is h ih =
        let one : 1 ≡ n = cc in
        record { front = b ∷ []; rest = bs; split = refl; passes = rw is refl; size = sym one }
    by_delimiter false is h ih = by_line (b == 10) is refl h ih

pub delimiter_here : (d : ℕ) (bs : List ℕ) (i : ℕ) → i < length bs → get_or bs i 0 ≡ d → further i (delimiter_length d (drop i bs)) ≡ Some (i + 1)
unfolding delimiter_length
delimiter_here d bs i h is =
    let same : (get_or bs i 0 == d) ≡ true = eq-eqb (get_or bs i 0) d is in
    let here : delimiter_length d (rest_from bs i) ≡ Some 1 = rw same refl in
    ap (λ l. further i (delimiter_length d l)) (rest_is bs i h) ∙ ap (further i) here

pub delimiter_line : (d : ℕ) (bs : List ℕ) (i : ℕ) → i < length bs → (get_or bs i 0 ≡ d → ⊥) → get_or bs i 0 ≡ 10 → further i (delimiter_length d (drop i bs)) ≡ None
unfolding delimiter_length
delimiter_line d bs i h on is =
    let other : (get_or bs i 0 == d) ≡ false = ne_eqb (get_or bs i 0) d on in
    let line : (get_or bs i 0 == 10) ≡ true = eq-eqb (get_or bs i 0) 10 is in
    let here : delimiter_length d (rest_from bs i) ≡ None = rw (other, line) refl in
    ap (λ l. further i (delimiter_length d l)) (rest_is bs i h) ∙ ap (further i) here

pub delimiter_more : (d : ℕ) (bs : List ℕ) (i : ℕ) → i < length bs → (get_or bs i 0 ≡ d → ⊥) → (get_or bs i 0 ≡ 10 → ⊥)
    → further i (delimiter_length d (drop i bs)) ≡ further (i + 1) (delimiter_length d (drop (i + 1) bs))
unfolding delimiter_length
delimiter_more d bs i h on more =
    let other : (get_or bs i 0 == d) ≡ false = ne_eqb (get_or bs i 0) d on in
    let line : (get_or bs i 0 == 10) ≡ false = ne_eqb (get_or bs i 0) 10 more in
    let here : delimiter_length d (rest_from bs i) ≡ option_map suc (delimiter_length d (drop (i + 1) bs)) = rw (other, line) refl in
    ap (λ l. further i (delimiter_length d l)) (rest_is bs i h) ∙ ap (further i) here ∙ further_suc i _

pub delimiter_end : (d : ℕ) (bs : List ℕ) (i : ℕ) → length bs ≤ i → further i (delimiter_length d (drop i bs)) ≡ None
unfolding delimiter_length
delimiter_end d bs i h = ap (λ l. further i (delimiter_length d l)) (drop_all i bs h)

-- WHAT ONE SEARCH TELLS OF LATER ONES

-- where nothing pairs behind a byte, nothing pairs behind such a byte further on, on the line
abbrev pub PassedInVain : (List ℕ → Option ℕ) → ℕ → Type 0
PassedInVain partner byte =
    (bs : List ℕ) (k n : ℕ) → k < n → n ≤ length bs → no_newline (take n bs) ≡ true → get_or bs k 0 ≡ byte → partner bs ≡ None
    → partner (drop (suc k) bs) ≡ None

-- A quote that was passed was taken along by a `\`, so the searches go on alike from there.
quote_passed : (q : ℕ) (e : Bool) (bs : List ℕ) (k n : ℕ) → k < n → n ≤ length bs → no_newline (take n bs) ≡ true → get_or bs k 0 ≡ q
    → closing_length q e bs ≡ None → closing_length q false (drop (suc k) bs) ≡ None
unfolding closing_length
quote_passed q e [] k n below within line is none = absurd (omega arith)
quote_passed q e (b ∷ bs) k zero below within line is none = absurd (omega arith)
quote_passed q true (b ∷ bs) zero (suc n) below within line is none =
    let other : (b == 10) ≡ false = not-true (b == 10) (and_parts _ _ line).0 in
    let h : cond (b == 10) None (option_map suc (closing_length q false bs)) ≡ None = none in
    map_none suc (closing_length q false bs) (rw other at h)
quote_passed q false (b ∷ bs) zero (suc n) below within line is none =
    let same : (b == q) ≡ true = eq-eqb b q is in
    let h : cond (b == q) (Some 1) (cond (b == 10) None (option_map suc (closing_length q (b == 92) bs))) ≡ None = none in
    let h' = rw same at h in
    absurd (cc)
quote_passed q true (b ∷ bs) (suc k) (suc n) below within line is none =
    let both = and_parts _ _ line in
    let other : (b == 10) ≡ false = not-true (b == 10) both.0 in
    let h : cond (b == 10) None (option_map suc (closing_length q false bs)) ≡ None = none in
    quote_passed q false bs k n (omega arith) (omega arith) both.1 is (map_none suc (closing_length q false bs) (rw other at h))
quote_passed q false (b ∷ bs) (suc k) (suc n) below within line is none =
    let both = and_parts _ _ line in
    let other : (b == 10) ≡ false = not-true (b == 10) both.0 in
    let h : cond (b == q) (Some 1) (cond (b == 10) None (option_map suc (closing_length q (b == 92) bs))) ≡ None = none in
    quote_passed q (b == 92) bs k n (omega arith) (omega arith) both.1 is (by_quote (b == q) other h)
  where
    by_quote : (s : Bool) → (b == 10) ≡ false → cond s (Some 1) (cond (b == 10) None (option_map suc (closing_length q (b == 92) bs))) ≡ None
        → closing_length q (b == 92) bs ≡ None
    by_quote true other h = absurd (cc)
    by_quote false other h = map_none suc (closing_length q (b == 92) bs) (rw other at h)

pub quotes_passed : (q : ℕ) → PassedInVain (closing_length q false) q
quotes_passed q bs k n below within line is none = quote_passed q false bs k n below within line is none

pub delimiters_passed : (d byte : ℕ) → PassedInVain (delimiter_length d) byte
unfolding delimiter_length
delimiters_passed d byte [] k n below within line is none = absurd (omega arith)
delimiters_passed d byte (b ∷ bs) k zero below within line is none = absurd (omega arith)
delimiters_passed d byte (b ∷ bs) k (suc n) below within line is none =
    let both = and_parts _ _ line in
    let other : (b == 10) ≡ false = not-true (b == 10) both.0 in
    let h : cond (b == d) (Some 1) (cond (b == 10) None (option_map suc (delimiter_length d bs))) ≡ None = none in
    onward k below is both.1 (by_delimiter (b == d) other h) (λ j below' is' none'. delimiters_passed d byte bs j n below' (omega arith) both.1 is' none')
  where
    by_delimiter : (s : Bool) → (b == 10) ≡ false → cond s (Some 1) (cond (b == 10) None (option_map suc (delimiter_length d bs))) ≡ None → delimiter_length d bs ≡ None
    by_delimiter true other h = absurd (cc)
    by_delimiter false other h = map_none suc (delimiter_length d bs) (rw other at h)

    onward : (k : ℕ) → k < suc n → get_or (b ∷ bs) k 0 ≡ byte → no_newline (take n bs) ≡ true → delimiter_length d bs ≡ None
        → ((j : ℕ) → j < n → get_or bs j 0 ≡ byte → delimiter_length d bs ≡ None → delimiter_length d (drop (suc j) bs) ≡ None)
        → delimiter_length d (drop (suc k) (b ∷ bs)) ≡ None
    onward zero below is line none ih = none
    onward (suc k) below is line none ih = ih k (omega arith) is none

-- PLACES OF A TEXT

-- each byte of a run passes
pub run_front : (p : ℕ → Bool) (bs : List ℕ) (n : ℕ) → n ≡ length (take_while p bs) → list_all p (take n bs) ≡ true
run_front p bs n size =
    let r = run_of p bs in
    let t = take_while p bs in
    let front : take n bs ≡ t = ap (λ m. take m bs) size ∙ ap (take (length t)) r.split ∙ take-append_seam t r.after in
    ap (list_all p) front ∙ r.each

-- behind a byte with no partner, none on the line has one
pub line_unpaired : (partner : List ℕ → Option ℕ) (byte : ℕ) (text behind : List ℕ) (at n : ℕ) → PassedInVain partner byte
    → behind ≡ drop (at + 1) text → n ≤ length behind → n ≡ length (take_while (λ b. not (b == 10)) behind) → partner behind ≡ None
    → NonePairs partner byte text at (at + 1 + n)
line_unpaired partner byte text behind at n passed split within run none place from below is = by_cases (cases_lt at place)
  where
    by_cases : (at < place) ⊎ (place ≤ at) → partner (drop (place + 1) text) ≡ None
    by_cases (inr h) = let same : place ≡ at = omega arith in ap (λ p. partner (drop (p + 1) text)) same ∙ ap partner (sym split) ∙ none
    by_cases (inl h) =
        let k : ℕ = place - (at + 1) in
        let there : at + 1 + k ≡ place = omega arith in
        let byte_is : get_or behind k 0 ≡ byte = ap (λ (l : List ℕ). get_or l k 0) split ∙ get_or-drop (at + 1) text k 0 ∙ ap (λ p. get_or text p 0) there ∙ is in
        let line : no_newline (take n behind) ≡ true = run_front (λ b. not (b == 10)) behind n run in
        let later : partner (drop (suc k) behind) ≡ None = passed behind k n (omega arith) within line byte_is none in
        let next : at + 1 + suc k ≡ place + 1 = omega arith in
        let same : drop (suc k) behind ≡ drop (place + 1) text = ap (drop (suc k)) split ∙ drop-drop (suc k) (at + 1) text ∙ ap (λ p. drop p text) next in
        ap partner (sym same) ∙ later

-- what is known from a place on is known from each later one
pub known_later : (known : Unpaired) (text : List ℕ) (at behind : ℕ) → at ≤ behind → KnowsUnpaired known text at → KnowsUnpaired known text behind
known_later known text at behind h knows =
    record {
      strings = λ place from. knows.strings place (omega arith);
      characters = λ place from. knows.characters place (omega arith);
      angles = λ place from. knows.angles place (omega arith);
      quotes = λ place from. knows.quotes place (omega arith);
    }

-- and from an earlier one, where there is no such byte between
pub earlier_unpaired : (partner : List ℕ → Option ℕ) (byte : ℕ) (text : List ℕ) (at behind bound : ℕ)
    → ((place : ℕ) → at ≤ place → place < behind → get_or text place 0 ≡ byte → ⊥)
    → NonePairs partner byte text behind bound → NonePairs partner byte text at bound
earlier_unpaired partner byte text at behind bound other known place from below is =
    elim (cases_lt place behind) [
      | inl before ↦ absurd (other place from before is)
      | inr after ↦ known place after below is
    ]

-- what is found behind a place lies in the text
pub found_within : (test : List ℕ → Bool) (text behind : List ℕ) (at n : ℕ) → at < length text → behind ≡ drop (at + 1) text → Cut test behind n
    → at + 1 + n ≤ length text
found_within test text behind at n below split c =
    let inside : n ≤ length behind = cut_within test behind n c in
    omega (arith, ap length split, length-drop (at + 1) text)
