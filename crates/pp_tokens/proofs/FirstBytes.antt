-- What a text is, by its first byte.
use Rattle.std.specs.Prelude.{◌≡◌, ℕ, ◌≤◌, Bool, true, false, cond, not, ◌&&◌, List, [], ◌∷◌, ◌++◌, length, Some, None, option_map, suc, refl, ◌==◌, nat_eq, bytes_eq, take_while, drop, eqb, leb, get_or}
use Rattle.std.specs.List.{list_all, list_any, starts_with}
use Rattle.std.proofs.Common.{sym, ◌∙◌, ap, inr, subst, arith}
use Rattle.std.proofs.lemmas.Bool.{eqb-true, leb-true, lt-leb, ne_eqb, and_parts, and_left, and_right, or_from}
use Rattle.std.proofs.Math.Numerals.{one-add}
use Rattle.std.proofs.Math.Seq.{drop-append_seam}
use Rattle.std.proofs.lemmas.List.{append-nil}
use Rattle.pp_tokens.specs.declared.token.Kind.TheVariants.{Ident}
use Rattle.pp_tokens.specs.Grammar.{is_digit, is_identifier_start, is_identifier_byte, is_identifier, is_number, is_quoted, is_string, is_character, is_punctuator, punctuators, kind_of}
use Rattle.pp_tokens.specs.Lines.{token, part_of, is_comment, is_open_comment, NoLonger, first_part}
use Rattle.pp_tokens.specs.parts.Text.{is_quote}
use Rattle.pp_tokens.proofs.Reading.{stands_first}

-- a byte that passes a test isn't one that fails it
pub apart : (f : ℕ → Bool) (b k : ℕ) → f b ≡ true → f k ≡ false → (b == k) ≡ false
apart f b k passes fails = by_test (b == k) refl
  where
    by_test : (t : Bool) → (b == k) ≡ t → t ≡ false
    by_test false e = refl
    by_test true e = (let same : b ≡ k = eqb-true b k e in let h : true ≡ false = sym passes ∙ ap f same ∙ fails in absurd (cc))

-- a byte that is no quote
abbrev pub is_plain : ℕ → Bool
is_plain b = not (is_quote b)

abbrev pub first : List ℕ → ℕ
first [] = 0
first (b ∷ bs) = b

-- a text whose first byte passes a test that no entry's first byte passes is no entry
no_entry : (f : ℕ → Bool) (b : ℕ) (u : List ℕ) (ps : List (List ℕ)) → f b ≡ true → f 0 ≡ false → list_all (λ p. not (f (first p))) ps ≡ true → list_any (bytes_eq (b ∷ u)) ps ≡ false
no_entry f b u [] passes zero_fails all = refl
no_entry f b u ([] ∷ ps) passes zero_fails all = no_entry f b u ps passes zero_fails (and_parts _ _ all).1
no_entry f b u ((k ∷ ks) ∷ ps) passes zero_fails all =
    let fails : f k ≡ false = not_holds (f k) (and_parts _ _ all).0 in
    let e : (b == k) ≡ false = apart f b k passes fails in
    rw e (no_entry f b u ps passes zero_fails (and_parts _ _ all).1)
  where
    not_holds : (t : Bool) → not t ≡ true → t ≡ false
    not_holds false h = refl
    not_holds true h = absurd (cc)

-- what begins with no quote is not quoted
pub not_quoted : (q b : ℕ) (u : List ℕ) → is_plain q ≡ false → is_plain b ≡ true → is_quoted q (b ∷ u) ≡ false
not_quoted q b u fails plain = let e : (b == q) ≡ false = apart is_plain b q plain fails in rw e refl

-- the text is empty, or begins with a byte that neither goes on with an identifier nor is a quote
abbrev pub EndsWord : List ℕ → Type 0
EndsWord [] = Unit {0}
EndsWord (m ∷ ms) = (is_identifier_byte m ≡ false) × (is_plain m ≡ true)

-- no byte of an identifier is a quote
word_byte_plain : (b : ℕ) → is_identifier_byte b ≡ true → is_plain b ≡ true
word_byte_plain b h =
    let q : (b == 34) ≡ false = apart is_identifier_byte b 34 h refl in
    let a : (b == 39) ≡ false = apart is_identifier_byte b 39 h refl in
    rw (q, a) refl

-- nothing quoted stands within or right behind the bytes of an identifier
not_quoted_behind : (q : ℕ) (t r : List ℕ) → is_plain q ≡ false → list_all is_identifier_byte t ≡ true → EndsWord r → is_quoted q (t ++ r) ≡ false
not_quoted_behind q [] [] fails all ends = refl
not_quoted_behind q [] (m ∷ ms) fails all ends = not_quoted q m ms fails ends.1
not_quoted_behind q (c ∷ t) r fails all ends = not_quoted q c (t ++ r) fails (word_byte_plain c (and_parts _ _ all).0)

-- what stands behind a prefix of two bytes, the second of which goes on with an identifier
two_bytes : (q x y b : ℕ) (t r : List ℕ) → is_plain q ≡ false → is_identifier_byte y ≡ true → list_all is_identifier_byte t ≡ true → EndsWord r
    → (starts_with nat_eq (b ∷ (t ++ r)) (x ∷ y ∷ []) && is_quoted q (drop 2 (b ∷ (t ++ r)))) ≡ false
two_bytes q x y b [] [] fails word all ends = and_left _ _ (and_right (eqb x b) false refl)
two_bytes q x y b [] (m ∷ ms) fails word all ends =
    let e : eqb y m ≡ false = ne_eqb y m (λ s. (let h : true ≡ false = sym word ∙ ap is_identifier_byte s ∙ ends.0 in cc)) in
    and_left _ _ (and_right (eqb x b) _ (rw e refl))
two_bytes q x y b (c ∷ t) r fails word all ends = and_right _ _ (not_quoted_behind q t r fails (and_parts _ _ all).1 ends)

one_byte : (q x b : ℕ) (t r : List ℕ) → is_plain q ≡ false → list_all is_identifier_byte t ≡ true → EndsWord r
    → (starts_with nat_eq (b ∷ (t ++ r)) (x ∷ []) && is_quoted q (drop 1 (b ∷ (t ++ r)))) ≡ false
one_byte q x b t r fails all ends = and_right _ _ (not_quoted_behind q t r fails all ends)

-- an identifier with no quote right behind it begins no literal
word_no_string : (b : ℕ) (t r : List ℕ) → is_plain b ≡ true → list_all is_identifier_byte t ≡ true → EndsWord r → is_string (b ∷ (t ++ r)) ≡ false
unfolding is_string
word_no_string b t r plain all ends =
    or_from _ _ (not_quoted 34 b (t ++ r) refl plain)
    (or_from _ _ (two_bytes 34 117 56 b t r refl refl all ends)
    (or_from _ _ (one_byte 34 117 b t r refl all ends) (or_from _ _ (one_byte 34 85 b t r refl all ends) (or_from _ _ (one_byte 34 76 b t r refl all ends) refl))))

word_no_character : (b : ℕ) (t r : List ℕ) → is_plain b ≡ true → list_all is_identifier_byte t ≡ true → EndsWord r → is_character (b ∷ (t ++ r)) ≡ false
unfolding is_character
word_no_character b t r plain all ends =
    or_from _ _ (not_quoted 39 b (t ++ r) refl plain)
    (or_from _ _ (one_byte 39 117 b t r refl all ends) (or_from _ _ (one_byte 39 85 b t r refl all ends) (or_from _ _ (one_byte 39 76 b t r refl all ends) refl)))

-- comments begin with a slash
pub no_comment : (b : ℕ) (u : List ℕ) → (b == 47) ≡ false → is_comment (b ∷ u) ≡ false
unfolding is_comment
no_comment b [] h = refl
no_comment b (c ∷ u) h = rw h refl

pub no_open_comment : (b : ℕ) (u : List ℕ) → (b == 47) ≡ false → is_open_comment (b ∷ u) ≡ false
unfolding is_open_comment
no_open_comment b [] h = refl
no_open_comment b (c ∷ u) h = rw h refl

-- digits begin no identifier
pub digit_no_start : (b : ℕ) → 48 ≤ b → b ≤ 57 → is_identifier_start b ≡ true → ⊥
digit_no_start b low high start =
    let a : leb 97 b ≡ false = lt-leb 97 b (omega arith) in
    let k : leb 65 b ≡ false = lt-leb 65 b (omega arith) in
    let l : eqb b 95 ≡ false = ne_eqb b 95 (λ e. absurd (omega arith)) in
    let d : eqb b 36 ≡ false = ne_eqb b 36 (λ e. absurd (omega arith)) in
    let h : leb 128 b ≡ false = lt-leb 128 b (omega arith) in
    let e : is_identifier_start b ≡ false = rw (a, k, l, d, h) refl in
    cc

-- letters aren't digits
pub start_no_digit : (b : ℕ) → is_identifier_start b ≡ true → is_digit b ≡ false
start_no_digit b start = by_test (is_digit b) refl
  where
    by_test : (t : Bool) → is_digit b ≡ t → t ≡ false
    by_test false e = refl
    by_test true e =
        let low = leb-true 48 b (and_parts _ _ e).0 in
        let high = leb-true b 57 (and_parts _ _ e).1 in
        absurd (digit_no_start b low high start)

pub no_punctuator : (f : ℕ → Bool) (b : ℕ) (u : List ℕ) → f b ≡ true → f 0 ≡ false → list_all (λ p. not (f (first p))) punctuators ≡ true → is_punctuator (b ∷ u) ≡ false
unfolding is_punctuator
no_punctuator f b u passes zero_fails all = no_entry f b u punctuators passes zero_fails all

-- a text of two bytes and more that begins like an identifier, and is no literal, is an identifier or nothing
pub word_part : (b c : ℕ) (u : List ℕ) → is_identifier_start b ≡ true → is_character (b ∷ c ∷ u) ≡ false → is_string (b ∷ c ∷ u) ≡ false
    → part_of (b ∷ c ∷ u) ≡ cond (list_all is_identifier_byte (c ∷ u)) (Some (token Ident)) None
unfolding part_of kind_of is_identifier is_number
word_part b c u start character string =
    let digit : is_digit b ≡ false = start_no_digit b start in
    let dot : (b == 46) ≡ false = apart is_identifier_start b 46 start refl in
    let slash : (b == 47) ≡ false = apart is_identifier_start b 47 start refl in
    let punct : is_punctuator (b ∷ c ∷ u) ≡ false = no_punctuator is_identifier_start b (c ∷ u) start refl refl in
    rw (no_comment b (c ∷ u) slash, no_open_comment b (c ∷ u) slash, start, digit, dot, character, string, punct)
    (by_test (list_all is_identifier_byte (c ∷ u)))
  where
    by_test : (t : Bool) → option_map token (cond t (Some Ident) None) ≡ cond t (Some (token Ident)) None
    by_test true = refl
    by_test false = refl

-- the bytes of a run, and what is behind it
pub record Run (p : ℕ → Bool) (xs : List ℕ) : Type 0 where
  pub after : List ℕ
  pub split : xs ≡ take_while p xs ++ after
  pub each : list_all p (take_while p xs) ≡ true
  pub stops : (b : ℕ) (bs : List ℕ) → after ≡ b ∷ bs → p b ≡ false

pub run_of : (p : ℕ → Bool) (xs : List ℕ) → Run p xs
run_of p [] = record { after = []; split = refl; each = refl; stops = λ b bs e. absurd (cc) }
run_of p (x ∷ xs) = by_test (p x) refl (run_of p xs)
  where
    by_test : (t : Bool) → p x ≡ t → Run p xs → Run p (x ∷ xs)
    by_test true e r =
        let run : take_while p (x ∷ xs) ≡ x ∷ take_while p xs = rw e (rw one-add refl) in
        record {
          after = r.after;
          split = rw run (ap (λ (l : List ℕ). x ∷ l) r.split);
          each = rw run (rw e r.each);
          stops = r.stops;
        }
    by_test false e r =
        let run : take_while p (x ∷ xs) ≡ [] = rw e refl in
        record { after = x ∷ xs; split = rw run refl; each = rw run refl; stops = λ b bs e'. (let s : x ≡ b = cc in subst (λ c. p c ≡ false) s e) }

-- a text with a byte in it that fails isn't all of them
pub some_fails : (p : ℕ → Bool) (xs : List ℕ) (b : ℕ) (bs : List ℕ) → p b ≡ false → list_all p (xs ++ (b ∷ bs)) ≡ false
some_fails p [] b bs h = rw h refl
some_fails p (x ∷ xs) b bs h = and_right (p x) _ (some_fails p xs b bs h)

-- one byte that begins an identifier is one
one_word : (b : ℕ) → is_identifier_start b ≡ true → part_of (b ∷ []) ≡ Some (token Ident)
unfolding part_of kind_of is_identifier is_comment is_open_comment
one_word b start =
    let w1 : (b == 10) ≡ false = apart is_identifier_start b 10 start refl in
    let w2 : (b == 32) ≡ false = apart is_identifier_start b 32 start refl in
    let w3 : (b == 9) ≡ false = apart is_identifier_start b 9 start refl in
    let w4 : (b == 11) ≡ false = apart is_identifier_start b 11 start refl in
    let w5 : (b == 12) ≡ false = apart is_identifier_start b 12 start refl in
    let w6 : (b == 13) ≡ false = apart is_identifier_start b 13 start refl in
    rw (w1, w2, w3, w4, w5, w6, start) refl

-- what begins an identifier is no quote
pub start_plain : (b : ℕ) → is_identifier_start b ≡ true → is_plain b ≡ true
start_plain b start =
    let q : (b == 34) ≡ false = apart is_identifier_start b 34 start refl in
    let a : (b == 39) ≡ false = apart is_identifier_start b 39 start refl in
    rw (q, a) refl

-- an identifier as a whole
pub word_is : (b : ℕ) (t : List ℕ) → is_identifier_start b ≡ true → list_all is_identifier_byte t ≡ true → part_of (b ∷ t) ≡ Some (token Ident)
word_is b [] start h = one_word b start
word_is b (c ∷ t) start h =
    let plain = start_plain b start in
    let same : b ∷ ((c ∷ t) ++ []) ≡ b ∷ c ∷ t = ap (λ (l : List ℕ). b ∷ l) (append-nil (c ∷ t)) in
    word_part b c t start (ap is_character (sym same) ∙ word_no_character b (c ∷ t) [] plain h tt) (ap is_string (sym same) ∙ word_no_string b (c ∷ t) [] plain h tt)
    ∙ ap (λ q. cond q (Some (token Ident)) None) h

-- an identifier with no quote right behind it is what stands in front of its text
pub word_stands : (b : ℕ) (bs : List ℕ) → is_identifier_start b ≡ true
    → is_quote (get_or (drop (length (take_while is_identifier_byte bs)) bs) 0 0) ≡ false
    → first_part false (b ∷ bs) ≡ (token Ident, suc (length (take_while is_identifier_byte bs)))
word_stands b bs start behind =
    let r = run_of is_identifier_byte bs in
    let t = take_while is_identifier_byte bs in
    ap (λ (l : List ℕ). first_part false (b ∷ l)) r.split
    ∙ stands_first false (token Ident) (b ∷ t) r.after (λ e. cc) (inr (λ e. absurd (cc), word_is b t start r.each, longest r))
  where
    plain : is_plain b ≡ true
    plain = start_plain b start

    ends : (t : List ℕ) (m : ℕ) (ms : List ℕ) → list_all is_identifier_byte t ≡ true → EndsWord (m ∷ ms) → part_of (b ∷ (t ++ (m ∷ ms))) ≡ None
    ends [] m ms all stop =
        word_part b m ms start (word_no_character b [] (m ∷ ms) plain refl stop) (word_no_string b [] (m ∷ ms) plain refl stop)
        ∙ ap (λ q. cond q (Some (token Ident)) None) (some_fails is_identifier_byte [] m ms stop.0)
    ends (c ∷ t) m ms all stop =
        word_part b c (t ++ (m ∷ ms)) start (word_no_character b (c ∷ t) (m ∷ ms) plain all stop) (word_no_string b (c ∷ t) (m ∷ ms) plain all stop)
        ∙ ap (λ q. cond q (Some (token Ident)) None) (some_fails is_identifier_byte (c ∷ t) m ms stop.0)

    no_quote : (r : Run is_identifier_byte bs) (m : ℕ) (ms : List ℕ) → r.after ≡ m ∷ ms → is_plain m ≡ true
    no_quote r m ms e =
        let t = take_while is_identifier_byte bs in
        let after : drop (length t) bs ≡ r.after = ap (drop (length t)) r.split ∙ drop-append_seam t r.after in
        let first_is : get_or (drop (length t) bs) 0 0 ≡ m = ap (λ (l : List ℕ). get_or l 0 0) (after ∙ e) in
        ap (λ k. not (is_quote k)) (sym first_is) ∙ ap not behind

    longest : (r : Run is_identifier_byte bs) → NoLonger part_of (b ∷ take_while is_identifier_byte bs) r.after
    longest r [] rest some e = absurd (some refl)
    longest r (m ∷ ms) rest some e =
        ends (take_while is_identifier_byte bs) m ms r.each (r.stops m (ms ++ rest) e, no_quote r m (ms ++ rest) e)
