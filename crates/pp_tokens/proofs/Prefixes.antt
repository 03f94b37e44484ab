-- An identifier as what stands first in a text, or as the prefix of a literal.
use Rattle.std.specs.Prelude.{◌≡◌, ℕ, zero, suc, ◌+◌, ◌-◌, ◌≤◌, ◌<◌, Bool, true, false, cond, ◌&&◌, ◌||◌, List, [], ◌∷◌, ◌++◌, length, take, drop, take_while, get_or, Some, None, refl, ◌==◌, nat_eq, ◌⊎◌, codes, bytes_eq}
use Rattle.std.specs.List.{list_all, starts_with}
use Rattle.std.proofs.Common.{sym, ◌∙◌, ap, inl, inr, subst, arith}
use Rattle.std.proofs.lemmas.Bool.{eqb-true, eq-eqb, and_left, or_parts, and_parts, or_cases, or_from}
use Rattle.std.proofs.lemmas.Slice.Eq.{bytes_eq-Decides}
use Rattle.std.proofs.lemmas.List.{drop-drop, get_or-drop, length-drop}
use Rattle.std.proofs.lemmas.List.Sums.{take_while-cons}
use Rattle.std.proofs.Math.Bool.{and-true}
use Rattle.std.proofs.Math.Seq.{take-append_seam, drop-append_seam}
use Rattle.pp_tokens.specs.declared.token.Kind.TheVariants.{Ident, Char, Str}
use Rattle.pp_tokens.specs.declared.unpaired.Unpaired.{Unpaired}
use Rattle.pp_tokens.specs.Grammar.{is_identifier_start, is_identifier_byte, is_quoted, is_string, is_character}
use Rattle.pp_tokens.specs.Lines.{token, part_of, NoLonger, first_part}
use Rattle.pp_tokens.specs.parts.Literals.{opens_character, opens_string, opens_literal, literal_kind}
use Rattle.pp_tokens.specs.parts.Unpaired.{closing_length, delimiter_length, KnowsUnpaired}
use Rattle.pp_tokens.proofs.Reading.{stands_first}
use Rattle.pp_tokens.proofs.FirstBytes.{apart, not_quoted, start_plain, word_part, word_is, some_fails, Run, run_of}
use Rattle.pp_tokens.proofs.Closing.{rest_is, run_front, earlier_unpaired}
use Rattle.pp_tokens.proofs.Opened.{OpensLiteral, u8_string, u_string, U_string, L_string, u_character, U_character, L_character, literal_first, prefix_first}

-- WORDS THAT ARE NO PREFIX

and_or : (s a b : Bool) → (s && (a || b)) ≡ false → ((s && a) ≡ false) × ((s && b) ≡ false)
and_or true true b h = absurd (cc)
and_or true false b h = (refl, h)
and_or false a b h = (refl, refl)

-- no literal with this prefix is a word and what follows it, where the word isn't the prefix right before the quote
no_prefix : (prefix word : List ℕ) (quote q : ℕ) (ms : List ℕ) → list_all is_identifier_byte prefix ≡ true → list_all is_identifier_byte word ≡ true
    → is_identifier_byte quote ≡ false → is_identifier_byte q ≡ false → ((q == quote) && bytes_eq word prefix) ≡ false
    → (starts_with nat_eq (word ++ (q ∷ ms)) prefix && is_quoted quote (drop (length prefix) (word ++ (q ∷ ms)))) ≡ false
no_prefix [] [] quote q ms prefixes words quotes stops h = and_left (q == quote) _ (sym (and-true (q == quote)) ∙ h)
no_prefix [] (c ∷ word) quote q ms prefixes words quotes stops h =
    and_left (c == quote) _ (apart is_identifier_byte c quote (and_parts _ _ words).0 quotes)
no_prefix (x ∷ prefix) [] quote q ms prefixes words quotes stops h =
    let other : (x == q) ≡ false = apart is_identifier_byte x q (and_parts _ _ prefixes).0 stops in
    rw other refl
no_prefix (x ∷ prefix) (c ∷ word) quote q ms prefixes words quotes stops h =
    by_test (x == c) refl (no_prefix prefix word quote q ms (and_parts _ _ prefixes).1 (and_parts _ _ words).1 quotes stops)
  where
    by_test : (s : Bool) → (x == c) ≡ s
        → (((q == quote) && bytes_eq word prefix) ≡ false → (starts_with nat_eq (word ++ (q ∷ ms)) prefix && is_quoted quote (drop (length prefix) (word ++ (q ∷ ms)))) ≡ false)
        → (starts_with nat_eq (c ∷ (word ++ (q ∷ ms))) (x ∷ prefix) && is_quoted quote (drop (length (x ∷ prefix)) (c ∷ (word ++ (q ∷ ms))))) ≡ false
    by_test false e ih = rw e refl
    by_test true e ih =
        let same : (c == x) ≡ true = eq-eqb c x (sym (eqb-true x c e)) in
        let h' : ((q == quote) && bytes_eq word prefix) ≡ false = sym (ap (λ s. (q == quote) && (s && bytes_eq word prefix)) same) ∙ h in
        rw e (ih h')

string_none : (b : ℕ) (t : List ℕ) (q : ℕ) (ms : List ℕ) → is_identifier_start b ≡ true → list_all is_identifier_byte (b ∷ t) ≡ true → is_identifier_byte q ≡ false
    → ((q == 34) && opens_string (b ∷ t)) ≡ false → is_string (b ∷ (t ++ (q ∷ ms))) ≡ false
unfolding is_string
string_none b t q ms start all stops h =
    let u8 = and_or (q == 34) (bytes_eq (b ∷ t) (codes "u8")) (opens_character (b ∷ t)) h in
    let u = and_or (q == 34) (bytes_eq (b ∷ t) (codes "u")) (bytes_eq (b ∷ t) (codes "U") || bytes_eq (b ∷ t) (codes "L")) u8.1 in
    let l = and_or (q == 34) (bytes_eq (b ∷ t) (codes "U")) (bytes_eq (b ∷ t) (codes "L")) u.1 in
    or_from _ _ (not_quoted 34 b (t ++ (q ∷ ms)) refl (start_plain b start))
    (or_from _ _ (no_prefix (codes "u8") (b ∷ t) 34 q ms refl all refl stops u8.0)
    (or_from _ _ (no_prefix (codes "u") (b ∷ t) 34 q ms refl all refl stops u.0)
    (or_from _ _ (no_prefix (codes "U") (b ∷ t) 34 q ms refl all refl stops l.0)
    (or_from _ _ (no_prefix (codes "L") (b ∷ t) 34 q ms refl all refl stops l.1) refl))))

character_none : (b : ℕ) (t : List ℕ) (q : ℕ) (ms : List ℕ) → is_identifier_start b ≡ true → list_all is_identifier_byte (b ∷ t) ≡ true → is_identifier_byte q ≡ false
    → ((q == 39) && opens_character (b ∷ t)) ≡ false → is_character (b ∷ (t ++ (q ∷ ms))) ≡ false
unfolding is_character
character_none b t q ms start all stops h =
    let u = and_or (q == 39) (bytes_eq (b ∷ t) (codes "u")) (bytes_eq (b ∷ t) (codes "U") || bytes_eq (b ∷ t) (codes "L")) h in
    let l = and_or (q == 39) (bytes_eq (b ∷ t) (codes "U")) (bytes_eq (b ∷ t) (codes "L")) u.1 in
    or_from _ _ (not_quoted 39 b (t ++ (q ∷ ms)) refl (start_plain b start))
    (or_from _ _ (no_prefix (codes "u") (b ∷ t) 39 q ms refl all refl stops u.0)
    (or_from _ _ (no_prefix (codes "U") (b ∷ t) 39 q ms refl all refl stops l.0)
    (or_from _ _ (no_prefix (codes "L") (b ∷ t) 39 q ms refl all refl stops l.1) refl)))

-- a word that isn't the prefix right before the quote, and what follows it, is no part
no_longer_word : (b : ℕ) (t : List ℕ) (q : ℕ) (ms : List ℕ) → is_identifier_start b ≡ true → list_all is_identifier_byte t ≡ true → is_identifier_byte q ≡ false
    → opens_literal (b ∷ t) q ≡ false → part_of (b ∷ (t ++ (q ∷ ms))) ≡ None
no_longer_word b t q ms start all stops h =
    let none = or_parts ((q == 34) && opens_string (b ∷ t)) ((q == 39) && opens_character (b ∷ t)) h in
    let here : is_identifier_byte b ≡ true = rw start refl in
    let whole : list_all is_identifier_byte (b ∷ t) ≡ true = rw here all in
    by_cases t all (string_none b t q ms start whole stops none.0) (character_none b t q ms start whole stops none.1)
  where
    by_cases : (t : List ℕ) → list_all is_identifier_byte t ≡ true → is_string (b ∷ (t ++ (q ∷ ms))) ≡ false → is_character (b ∷ (t ++ (q ∷ ms))) ≡ false
        → part_of (b ∷ (t ++ (q ∷ ms))) ≡ None
    by_cases [] all string character =
        word_part b q ms start character string ∙ ap (λ s. cond s (Some (token Ident)) None) (some_fails is_identifier_byte [] q ms stops)
    by_cases (c ∷ t) all string character =
        word_part b c (t ++ (q ∷ ms)) start character string ∙ ap (λ s. cond s (Some (token Ident)) None) (some_fails is_identifier_byte (c ∷ t) q ms stops)

-- A WORD AND WHAT IS BEHIND IT

-- the identifier in front of a text, cut off
pub record IsWord (b : ℕ) (bs word behind : List ℕ) (n : ℕ) : Type 0 where
  pub run : Run is_identifier_byte bs
  pub word_is : word ≡ b ∷ take_while is_identifier_byte bs
  pub behind_is : behind ≡ run.after
  pub size : n ≡ length word

pub is_word : (b : ℕ) (bs word behind : List ℕ) (n : ℕ) → is_identifier_start b ≡ true → n ≡ length (take_while is_identifier_byte (b ∷ bs))
    → word ≡ take n (b ∷ bs) → behind ≡ drop n (b ∷ bs) → IsWord b bs word behind n
is_word b bs word behind n start size front back =
    let r = run_of is_identifier_byte bs in
    let t = take_while is_identifier_byte bs in
    let here : is_identifier_byte b ≡ true = rw start refl in
    let all : take_while is_identifier_byte (b ∷ bs) ≡ b ∷ t = take_while-cons is_identifier_byte b bs ∙ ap (λ s. cond s (b ∷ t) []) here in
    let n_is : n ≡ suc (length t) = size ∙ ap length all in
    let word_is : word ≡ b ∷ t =
    front ∙ ap (λ m. take m (b ∷ bs)) n_is ∙ ap (λ (l : List ℕ). b ∷ take (length t) l) r.split ∙ ap (λ (l : List ℕ). b ∷ l) (take-append_seam t r.after) in
    record {
      run = r;
      word_is = word_is;
      behind_is = back ∙ ap (λ m. drop m (b ∷ bs)) n_is ∙ ap (drop (length t)) r.split ∙ drop-append_seam t r.after;
      size = n_is ∙ sym (ap length word_is);
    }

whole_word : (b : ℕ) (bs word behind : List ℕ) (n : ℕ) → IsWord b bs word behind n → b ∷ bs ≡ word ++ behind
whole_word b bs word behind n w = rw (w.word_is, w.behind_is) (ap (λ (l : List ℕ). b ∷ l) w.run.split)

-- what is behind the word begins with no quote whose prefix the word is
pub word_first : (b : ℕ) (bs word behind : List ℕ) (n : ℕ) → is_identifier_start b ≡ true → IsWord b bs word behind n
    → (length behind ≡ 0) ⊎ (opens_literal word (get_or behind 0 0) ≡ false) → first_part false (b ∷ bs) ≡ (token Ident, n)
word_first b bs word behind n start w apart =
    let t = take_while is_identifier_byte bs in
    let size : suc (length t) ≡ n = sym (w.size ∙ ap length w.word_is) in
    ap (λ (l : List ℕ). first_part false (b ∷ l)) w.run.split
    ∙ stands_first false (token Ident) (b ∷ t) w.run.after (λ e. cc) (inr (λ e. absurd (cc), word_is b t start w.run.each, longest))
    ∙ ap (λ m. (token Ident, m)) size
  where
    opens_none : (q : ℕ) (ms : List ℕ) → behind ≡ q ∷ ms → (length behind ≡ 0) ⊎ (opens_literal word (get_or behind 0 0) ≡ false) → opens_literal word q ≡ false
    opens_none q ms e (inl empty) = absurd (omega (arith, ap length e))
    opens_none q ms e (inr none) = ap (λ (l : List ℕ). opens_literal word (get_or l 0 0)) (sym e) ∙ none

    longest : NoLonger part_of (b ∷ take_while is_identifier_byte bs) w.run.after
    longest [] rest some e = absurd (some refl)
    longest (m ∷ ms) rest some e =
        let none : opens_literal word m ≡ false = opens_none m (ms ++ rest) (w.behind_is ∙ e) apart in
        no_longer_word b (take_while is_identifier_byte bs) m ms start w.run.each (w.run.stops m (ms ++ rest) e) (ap (λ (l : List ℕ). opens_literal l m) (sym w.word_is) ∙ none)

-- PREFIXES

string_prefix : (word : List ℕ) → opens_string word ≡ true → OpensLiteral word 34 Str
string_prefix word h =
    elim (or_cases (bytes_eq word (codes "u8")) (opens_character word) h) [
      | inl e ↦ subst (λ w. OpensLiteral w 34 Str) (sym ((bytes_eq-Decides word (codes "u8")).0 e)) u8_string
      | inr h' ↦ elim (or_cases (bytes_eq word (codes "u")) (bytes_eq word (codes "U") || bytes_eq word (codes "L")) h') [
        | inl e ↦ subst (λ w. OpensLiteral w 34 Str) (sym ((bytes_eq-Decides word (codes "u")).0 e)) u_string
        | inr h'' ↦ elim (or_cases (bytes_eq word (codes "U")) (bytes_eq word (codes "L")) h'') [
          | inl e ↦ subst (λ w. OpensLiteral w 34 Str) (sym ((bytes_eq-Decides word (codes "U")).0 e)) U_string
          | inr e ↦ subst (λ w. OpensLiteral w 34 Str) (sym ((bytes_eq-Decides word (codes "L")).0 e)) L_string
        ]
      ]
    ]

character_prefix : (word : List ℕ) → opens_character word ≡ true → OpensLiteral word 39 Char
character_prefix word h =
    elim (or_cases (bytes_eq word (codes "u")) (bytes_eq word (codes "U") || bytes_eq word (codes "L")) h) [
      | inl e ↦ subst (λ w. OpensLiteral w 39 Char) (sym ((bytes_eq-Decides word (codes "u")).0 e)) u_character
      | inr h' ↦ elim (or_cases (bytes_eq word (codes "U")) (bytes_eq word (codes "L")) h') [
        | inl e ↦ subst (λ w. OpensLiteral w 39 Char) (sym ((bytes_eq-Decides word (codes "U")).0 e)) U_character
        | inr e ↦ subst (λ w. OpensLiteral w 39 Char) (sym ((bytes_eq-Decides word (codes "L")).0 e)) L_character
      ]
    ]

prefix_opens : (word : List ℕ) (quote : ℕ) → opens_literal word quote ≡ true → OpensLiteral word quote (literal_kind quote)
prefix_opens word quote h =
    elim (or_cases ((quote == 34) && opens_string word) ((quote == 39) && opens_character word) h) [
      | inl s ↦ (let both = and_parts (quote == 34) (opens_string word) s in
          subst (λ q. OpensLiteral word q (literal_kind q)) (sym (eqb-true quote 34 both.0)) (string_prefix word both.1))
      | inr s ↦ (let both = and_parts (quote == 39) (opens_character word) s in
          subst (λ q. OpensLiteral word q (literal_kind q)) (sym (eqb-true quote 39 both.0)) (character_prefix word both.1))
    ]

pub prefixed_first : (b : ℕ) (bs word behind rest : List ℕ) (n quote m : ℕ) → IsWord b bs word behind n → behind ≡ quote ∷ rest
    → opens_literal word quote ≡ true → closing_length quote false rest ≡ Some m → first_part false (b ∷ bs) ≡ (token (literal_kind quote), n + 1 + m)
prefixed_first b bs word behind rest n quote m w split opens found =
    let size : length word + suc m ≡ n + 1 + m = omega (arith, w.size) in
    ap (first_part false) (whole_word b bs word behind n w ∙ ap (λ (l : List ℕ). word ++ l) split)
    ∙ literal_first word quote (literal_kind quote) rest m (prefix_opens word quote opens).opens found
    ∙ ap (λ k. (token (literal_kind quote), k)) size

pub prefix_alone : (b : ℕ) (bs word behind rest : List ℕ) (n quote : ℕ) → IsWord b bs word behind n → behind ≡ quote ∷ rest
    → opens_literal word quote ≡ true → closing_length quote false rest ≡ None → first_part false (b ∷ bs) ≡ (token Ident, n)
prefix_alone b bs word behind rest n quote w split opens none =
    ap (first_part false) (whole_word b bs word behind n w ∙ ap (λ (l : List ℕ). word ++ l) split)
    ∙ prefix_first word quote (literal_kind quote) rest (λ e. (let e' = sym w.word_is ∙ e in cc)) (prefix_opens word quote opens) none
    ∙ ap (λ k. (token Ident, k)) (sym w.size)

-- WHAT IS KNOWN BEFORE THE WORD

all_at : (f : ℕ → Bool) (xs : List ℕ) (n k : ℕ) → list_all f (take n xs) ≡ true → k < n → n ≤ length xs → f (get_or xs k 0) ≡ true
all_at f [] n k all below within = absurd (omega arith)
all_at f (x ∷ xs) zero k all below within = absurd (omega arith)
all_at f (x ∷ xs) (suc n) zero all below within = (and_parts _ _ all).0
all_at f (x ∷ xs) (suc n) (suc k) all below within = all_at f xs n k (and_parts _ _ all).1 (omega arith) (omega arith)

-- no quote or delimiter stands within a word
pub known_before : (known : Unpaired) (text rest : List ℕ) (at n : ℕ) → rest ≡ drop at text → n ≡ length (take_while is_identifier_byte rest) → n ≤ length rest
    → KnowsUnpaired known text (at + n) → KnowsUnpaired known text at
known_before known text rest at n split size within knows =
    record {
      strings = earlier_unpaired (closing_length 34 false) 34 text at (at + n) known.strings (other 34 refl) knows.strings;
      characters = earlier_unpaired (closing_length 39 false) 39 text at (at + n) known.characters (other 39 refl) knows.characters;
      angles = earlier_unpaired (delimiter_length 62) 60 text at (at + n) known.angles (other 60 refl) knows.angles;
      quotes = earlier_unpaired (delimiter_length 34) 34 text at (at + n) known.quotes (other 34 refl) knows.quotes;
    }
  where
    other : (q : ℕ) → is_identifier_byte q ≡ false → (place : ℕ) → at ≤ place → place < at + n → get_or text place 0 ≡ q → ⊥
    other q fails place from below is =
        let k : ℕ = place - at in
        let there : at + k ≡ place = omega arith in
        let passes : is_identifier_byte (get_or rest k 0) ≡ true = all_at is_identifier_byte rest n k (run_front is_identifier_byte rest n size) (omega arith) within in
        let same : get_or rest k 0 ≡ q = ap (λ (l : List ℕ). get_or l k 0) split ∙ get_or-drop at text k 0 ∙ ap (λ p. get_or text p 0) there ∙ is in
        let h : true ≡ false = sym passes ∙ ap is_identifier_byte same ∙ fails in
        cc

-- THE WORD AT A PLACE OF A TEXT

pub word_placed : (text rest word behind : List ℕ) (at n : ℕ) → at < length text → is_identifier_start (get_or text at 0) ≡ true → rest ≡ drop at text
    → n ≡ length (take_while is_identifier_byte rest) → word ≡ take n rest → behind ≡ drop n rest → IsWord (get_or text at 0) (drop (at + 1) text) word behind n
word_placed text rest word behind at n below start split size front back =
    let same : rest ≡ get_or text at 0 ∷ drop (at + 1) text = split ∙ rest_is text at below in
    is_word (get_or text at 0) (drop (at + 1) text) word behind n start
    (size ∙ ap (λ l. length (take_while is_identifier_byte l)) same) (front ∙ ap (take n) same) (back ∙ ap (drop n) same)

pub behind_placed : (text rest behind : List ℕ) (at n : ℕ) → rest ≡ drop at text → behind ≡ drop n rest → 0 < length behind
    → behind ≡ get_or text (at + n) 0 ∷ drop (at + n + 1) text
behind_placed text rest behind at n split back some =
    let same : behind ≡ drop (at + n) text = back ∙ ap (drop n) split ∙ drop-drop n at text in
    same ∙ rest_is text (at + n) (omega (arith, ap length same, length-drop (at + n) text))
