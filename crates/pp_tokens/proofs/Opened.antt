-- Literals, lone quotes and header names as what stands first in a text.
use Rattle.std.specs.Prelude.{◌≡◌, ◌≢◌, ℕ, suc, ◌+◌, Bool, true, false, cond, not, ◌&&◌, ◌||◌, List, [], ◌∷◌, ◌++◌, length, Option, Some, None, option_map, refl, ◌==◌, nat_eq, ◌⊎◌}
use Rattle.std.specs.List.{starts_with}
use Rattle.std.proofs.Common.{sym, ◌∙◌, ap, inl, inr, subst, arith, append_assoc}
use Rattle.std.proofs.lemmas.Bool.{eqb-true, eq-eqb, ne_eqb, and_right, or_cases, or_from}
use Rattle.std.proofs.lemmas.List.{length-append}
use Rattle.pp_tokens.specs.declared.token.Kind.{Kind}
use Rattle.pp_tokens.specs.declared.token.Kind.TheVariants.{Ident, Char, Str, Header, Other}
use Rattle.pp_tokens.specs.Grammar.{closes, closes_header, is_empty, is_header, is_identifier, is_number, is_string, is_character, is_punctuator, kind_of}
use Rattle.pp_tokens.specs.Lines.{token, part_of, is_comment, is_open_comment, NoLonger, NoHeader, longest_from, header_part, first_part}
use Rattle.pp_tokens.specs.parts.Literals.{literal_kind, closing_delimiter}
use Rattle.pp_tokens.specs.parts.Text.{is_quote}
use Rattle.pp_tokens.specs.parts.Unpaired.{closing_length, delimiter_length}
use Rattle.pp_tokens.proofs.Longest.{none_longest}
use Rattle.pp_tokens.proofs.Reading.{stands_first}
use Rattle.pp_tokens.proofs.TextLemmas.{header_stands}
use Rattle.pp_tokens.proofs.Closing.{closing_cut, closes_once, none_closes, delimiter_found, delimiter_cut}

-- LITERALS

-- a text that begins with this prefix, or none, and this quote, and has a byte behind, is such a literal or no part
abbrev pub Opens : List ℕ → ℕ → Kind → Type 0
Opens prefix quote kind =
    (c : ℕ) (u : List ℕ) → part_of (prefix ++ (quote ∷ c ∷ u)) ≡ cond (closes quote false (c ∷ u)) (Some (token kind)) None

by_closing : (kind : Kind) (t : Bool) → option_map token (cond (t || false) (Some kind) None) ≡ cond t (Some (token kind)) None
by_closing kind true = refl
by_closing kind false = refl

string_opens : Opens [] 34 Str
unfolding part_of kind_of is_identifier is_number is_string is_character is_punctuator is_comment is_open_comment
string_opens c u = by_closing Str (closes 34 false (c ∷ u))

character_opens : Opens [] 39 Char
unfolding part_of kind_of is_identifier is_number is_string is_character is_punctuator is_comment is_open_comment
character_opens c u = by_closing Char (closes 39 false (c ∷ u))

-- a prefix of such literals, which is an identifier where none of them begins
pub record OpensLiteral (prefix : List ℕ) (quote : ℕ) (kind : Kind) : Type 0 where
  pub opens : Opens prefix quote kind
  pub alone : part_of (prefix ++ (quote ∷ [])) ≡ None
  pub word : part_of prefix ≡ Some (token Ident)

pub u8_string : OpensLiteral (117 ∷ 56 ∷ []) 34 Str
unfolding part_of kind_of is_identifier is_number is_string is_character is_punctuator is_comment is_open_comment closes
u8_string = record { opens = λ c u. by_closing Str (closes 34 false (c ∷ u)); alone = refl; word = refl }

pub u_string : OpensLiteral (117 ∷ []) 34 Str
unfolding part_of kind_of is_identifier is_number is_string is_character is_punctuator is_comment is_open_comment closes
u_string = record { opens = λ c u. by_closing Str (closes 34 false (c ∷ u)); alone = refl; word = refl }

pub U_string : OpensLiteral (85 ∷ []) 34 Str
unfolding part_of kind_of is_identifier is_number is_string is_character is_punctuator is_comment is_open_comment closes
U_string = record { opens = λ c u. by_closing Str (closes 34 false (c ∷ u)); alone = refl; word = refl }

pub L_string : OpensLiteral (76 ∷ []) 34 Str
unfolding part_of kind_of is_identifier is_number is_string is_character is_punctuator is_comment is_open_comment closes
L_string = record { opens = λ c u. by_closing Str (closes 34 false (c ∷ u)); alone = refl; word = refl }

pub u_character : OpensLiteral (117 ∷ []) 39 Char
unfolding part_of kind_of is_identifier is_number is_string is_character is_punctuator is_comment is_open_comment closes
u_character = record { opens = λ c u. by_closing Char (closes 39 false (c ∷ u)); alone = refl; word = refl }

pub U_character : OpensLiteral (85 ∷ []) 39 Char
unfolding part_of kind_of is_identifier is_number is_string is_character is_punctuator is_comment is_open_comment closes
U_character = record { opens = λ c u. by_closing Char (closes 39 false (c ∷ u)); alone = refl; word = refl }

pub L_character : OpensLiteral (76 ∷ []) 39 Char
unfolding part_of kind_of is_identifier is_number is_string is_character is_punctuator is_comment is_open_comment closes
L_character = record { opens = λ c u. by_closing Char (closes 39 false (c ∷ u)); alone = refl; word = refl }

longer_some : (prefix : List ℕ) (x : ℕ) (l : List ℕ) → prefix ++ (x ∷ l) ≢ []
longer_some [] x l e = cc
longer_some (p ∷ ps) x l e = cc

-- what closes is the longest part
closed_first : (prefix : List ℕ) (quote : ℕ) (kind : Kind) (t after : List ℕ) → Opens prefix quote kind → closes quote false t ≡ true
    → first_part false (prefix ++ (quote ∷ (t ++ after))) ≡ (token kind, length prefix + suc (length t))
unfolding closes
closed_first prefix quote kind [] after opens h = absurd (cc)
closed_first prefix quote kind (c ∷ u) after opens h =
    ap (first_part false) (sym (append_assoc prefix (quote ∷ c ∷ u) after))
    ∙ stands_first false (token kind) (prefix ++ (quote ∷ c ∷ u)) after (longer_some prefix quote (c ∷ u)) (inr (λ e. absurd (cc), is, longest))
    ∙ ap (λ n. (token kind, n)) (length-append prefix (quote ∷ c ∷ u))
  where
    is : part_of (prefix ++ (quote ∷ c ∷ u)) ≡ Some (token kind)
    is = opens c u ∙ ap (λ s. cond s (Some (token kind)) None) h

    longest : NoLonger part_of (prefix ++ (quote ∷ c ∷ u)) after
    longest more rest some e =
        ap part_of (append_assoc prefix (quote ∷ c ∷ u) more) ∙ opens c (u ++ more)
        ∙ ap (λ s. cond s (Some (token kind)) None) (closes_once quote (c ∷ u) more some h)

pub literal_first : (prefix : List ℕ) (quote : ℕ) (kind : Kind) (bs : List ℕ) (n : ℕ) → Opens prefix quote kind → closing_length quote false bs ≡ Some n
    → first_part false (prefix ++ (quote ∷ bs)) ≡ (token kind, length prefix + suc n)
literal_first prefix quote kind bs n opens h =
    let c = closing_cut quote false bs n h in
    ap (λ l. first_part false (prefix ++ (quote ∷ l))) c.split ∙ closed_first prefix quote kind c.front c.rest opens c.passes
    ∙ ap (λ m. (token kind, length prefix + suc m)) (sym c.size)

-- where nothing closes, a longer front is no part
none_longer : (prefix : List ℕ) (quote : ℕ) (kind : Kind) (bs : List ℕ) → Opens prefix quote kind → closing_length quote false bs ≡ None
    → (c : ℕ) (u rest : List ℕ) → bs ≡ (c ∷ u) ++ rest → part_of (prefix ++ (quote ∷ c ∷ u)) ≡ None
none_longer prefix quote kind bs opens none c u rest e =
    opens c u ∙ ap (λ s. cond s (Some (token kind)) None) (none_closes quote bs (c ∷ u) rest none e)

-- a quote with no partner stands alone
quote_first : (quote : ℕ) (kind : Kind) (bs : List ℕ) → Opens [] quote kind → part_of (quote ∷ []) ≡ Some (token Other) → closing_length quote false bs ≡ None
    → first_part false (quote ∷ bs) ≡ (token Other, 1)
quote_first quote kind bs opens is none = stands_first false (token Other) (quote ∷ []) bs (λ e. cc) (inr (λ e. absurd (cc), is, longest))
  where
    longest : NoLonger part_of (quote ∷ []) bs
    longest [] rest some e = absurd (some refl)
    longest (c ∷ u) rest some e = none_longer [] quote kind bs opens none c u rest e

-- a prefix before a quote with no partner is an identifier
pub prefix_first : (prefix : List ℕ) (quote : ℕ) (kind : Kind) (bs : List ℕ) → prefix ≢ [] → OpensLiteral prefix quote kind → closing_length quote false bs ≡ None
    → first_part false (prefix ++ (quote ∷ bs)) ≡ (token Ident, length prefix)
prefix_first prefix quote kind bs some opening none =
    stands_first false (token Ident) prefix (quote ∷ bs) some (inr (λ e. absurd (cc), opening.word, longest))
  where
    longest : NoLonger part_of prefix (quote ∷ bs)
    longest [] rest some e = absurd (some refl)
    longest (m ∷ []) rest some e =
        let same : quote ≡ m = cc in
        subst (λ q. part_of (prefix ++ (q ∷ [])) ≡ None) same opening.alone
    longest (m ∷ c ∷ u) rest some e =
        let same : quote ≡ m = cc in
        let split : bs ≡ (c ∷ u) ++ rest = cc in
        subst (λ q. part_of (prefix ++ (q ∷ c ∷ u)) ≡ None) same (none_longer prefix quote kind bs opening.opens none c u rest split)

-- with no prefix
quote_opens : (quote : ℕ) → is_quote quote ≡ true → Opens [] quote (literal_kind quote)
quote_opens quote h =
    elim (or_cases (quote == 34) (quote == 39) h) [
      | inl e ↦ subst (λ q. Opens [] q (literal_kind q)) (sym (eqb-true quote 34 e)) string_opens
      | inr e ↦ subst (λ q. Opens [] q (literal_kind q)) (sym (eqb-true quote 39 e)) character_opens
    ]

quote_is : (quote : ℕ) → is_quote quote ≡ true → part_of (quote ∷ []) ≡ Some (token Other)
unfolding part_of kind_of is_identifier is_number is_string is_character is_punctuator is_comment is_open_comment closes
quote_is quote h =
    elim (or_cases (quote == 34) (quote == 39) h) [
      | inl e ↦ subst (λ q. part_of (q ∷ []) ≡ Some (token Other)) (sym (eqb-true quote 34 e)) refl
      | inr e ↦ subst (λ q. part_of (q ∷ []) ≡ Some (token Other)) (sym (eqb-true quote 39 e)) refl
    ]

pub quoted_first : (quote : ℕ) (bs : List ℕ) (n : ℕ) → is_quote quote ≡ true → closing_length quote false bs ≡ Some n
    → first_part false (quote ∷ bs) ≡ (token (literal_kind quote), n + 1)
quoted_first quote bs n h found =
    let size : 0 + suc n ≡ n + 1 = omega arith in
    literal_first [] quote (literal_kind quote) bs n (quote_opens quote h) found ∙ ap (λ m. (token (literal_kind quote), m)) size

pub lone_first : (quote : ℕ) (bs : List ℕ) → is_quote quote ≡ true → closing_length quote false bs ≡ None → first_part false (quote ∷ bs) ≡ (token Other, 1)
lone_first quote bs h none = quote_first quote (literal_kind quote) bs (quote_opens quote h) (quote_is quote h) none

-- HEADER NAMES

-- what closes later than at its first byte doesn't begin with the delimiter
named : (d : ℕ) (t : List ℕ) → closes_header d t ≡ true → (length t ≡ 1 → ⊥) → not (starts_with nat_eq t (d ∷ [])) ≡ true
unfolding closes_header
named d [] h long = absurd (cc)
named d (c ∷ t) h long = by_test (c == d) refl t h long
  where
    by_test : (s : Bool) → (c == d) ≡ s → (t : List ℕ) → cond s (is_empty t) (not (c == 10) && closes_header d t) ≡ true → (length (c ∷ t) ≡ 1 → ⊥)
        → not (starts_with nat_eq (c ∷ t) (d ∷ [])) ≡ true
    by_test true is [] h long = absurd (long refl)
    by_test true is (k ∷ ks) h long = absurd (cc)
    by_test false is t h long = let other : (d == c) ≡ false = ne_eqb d c (λ e. (let e' : true ≡ false = sym (eq-eqb c d (sym e)) ∙ is in cc)) in rw other refl

-- a delimiter that closes at once encloses nothing
empty_name : (d : ℕ) (t : List ℕ) → closes_header d t ≡ true → length t ≡ 1 → not (starts_with nat_eq t (d ∷ [])) ≡ false
unfolding closes_header
empty_name d [] h one = absurd (omega arith)
empty_name d (c ∷ k ∷ ks) h one = absurd (omega arith)
empty_name d (c ∷ []) h one = by_test (c == d) refl h
  where
    by_test : (s : Bool) → (c == d) ≡ s → cond s true (not (c == 10) && false) ≡ true → not (starts_with nat_eq (c ∷ []) (d ∷ [])) ≡ false
    by_test true is h = let same : (d == c) ≡ true = eq-eqb d c (sym (eqb-true c d is)) in rw same refl
    by_test false is h = absurd (let e : (not (c == 10) && false) ≡ false = and_right (not (c == 10)) false refl in cc)

-- what a search for the closing delimiter tells where no header name begins
abbrev pub Unnamed : Option ℕ → Type 0
Unnamed o = (o ≡ None) ⊎ (o ≡ Some 1)

no_name : (d : ℕ) (bs t rest : List ℕ) → Unnamed (delimiter_length d bs) → bs ≡ t ++ rest → (not (starts_with nat_eq t (d ∷ [])) && closes_header d t) ≡ false
no_name d bs t rest unnamed split = by_test (closes_header d t) refl
  where
    by_test : (s : Bool) → closes_header d t ≡ s → (not (starts_with nat_eq t (d ∷ [])) && closes_header d t) ≡ false
    by_test false e = and_right _ _ e
    by_test true e =
        let found : delimiter_length d bs ≡ Some (length t) = ap (delimiter_length d) split ∙ delimiter_found d t rest e in
        elim unnamed [
          | inl none ↦ absurd (cc)
          | inr one ↦ (let size : length t ≡ 1 = cc in let empty : not (starts_with nat_eq t (d ∷ [])) ≡ false = empty_name d t e size in rw empty refl)
        ]

-- no front of the text is a header name
no_header : (b : ℕ) (bs : List ℕ) → (b ≡ 60) ⊎ (b ≡ 34) → Unnamed (delimiter_length (closing_delimiter b) bs) → NoHeader (b ∷ bs)
unfolding is_header
no_header b bs opens unnamed [] rest e = refl
no_header b bs (inl is) unnamed (f ∷ t) rest e =
    let first_byte : f ≡ 60 = cc in
    let split : bs ≡ t ++ rest = cc in
    let u : Unnamed (delimiter_length 62 bs) = subst (λ c. Unnamed (delimiter_length (closing_delimiter c) bs)) is unnamed in
    rw first_byte (or_from _ _ (no_name 62 bs t rest u split) refl)
no_header b bs (inr is) unnamed (f ∷ t) rest e =
    let first_byte : f ≡ 34 = cc in
    let split : bs ≡ t ++ rest = cc in
    let u : Unnamed (delimiter_length 34 bs) = subst (λ c. Unnamed (delimiter_length (closing_delimiter c) bs)) is unnamed in
    rw first_byte (no_name 34 bs t rest u split)

pub unnamed_first : (b : ℕ) (bs : List ℕ) → (b ≡ 60) ⊎ (b ≡ 34) → Unnamed (delimiter_length (closing_delimiter b) bs)
    → first_part true (b ∷ bs) ≡ first_part false (b ∷ bs)
unfolding first_part
unnamed_first b bs opens unnamed =
    let none : longest_from header_part [] (b ∷ bs) ≡ None =
    none_longest header_part [] (b ∷ bs) (λ more rest some e. (let h : is_header more ≡ false = no_header b bs opens unnamed more rest e in rw h refl)) in
    rw none refl

is_name : (b : ℕ) (t : List ℕ) → (b ≡ 60) ⊎ (b ≡ 34) → closes_header (closing_delimiter b) t ≡ true → (length t ≡ 1 → ⊥) → is_header (b ∷ t) ≡ true
unfolding is_header
is_name b t (inl is) h long =
    let h' : closes_header 62 t ≡ true = subst (λ c. closes_header (closing_delimiter c) t ≡ true) is h in
    let n : not (starts_with nat_eq t (62 ∷ [])) ≡ true = named 62 t h' long in
    rw (is, n, h') refl
is_name b t (inr is) h long =
    let h' : closes_header 34 t ≡ true = subst (λ c. closes_header (closing_delimiter c) t ≡ true) is h in
    let n : not (starts_with nat_eq t (34 ∷ [])) ≡ true = named 34 t h' long in
    rw (is, n, h') refl

pub name_first : (b : ℕ) (bs : List ℕ) (n : ℕ) → (b ≡ 60) ⊎ (b ≡ 34) → delimiter_length (closing_delimiter b) bs ≡ Some n → (n ≡ 1 → ⊥)
    → first_part true (b ∷ bs) ≡ (token Header, n + 1)
name_first b bs n opens found long =
    let c = delimiter_cut (closing_delimiter b) bs n found in
    let header : is_header (b ∷ c.front) ≡ true = is_name b c.front opens c.passes (λ e. long (c.size ∙ e)) in
    let size : suc (length c.front) ≡ n + 1 = omega (arith, c.size) in
    ap (λ (l : List ℕ). first_part true (b ∷ l)) c.split ∙ header_stands (b ∷ c.front) c.rest header (λ e. cc) ∙ ap (λ m. (token Header, m)) size
