-- Parts that hold no newline: all but a newline and a comment.
use Rattle.std.specs.Prelude.{◌≡◌, ℕ, Bool, true, false, cond, not, ◌&&◌, ◌||◌, List, [], ◌∷◌, length, drop, Option, Some, None, option_map, refl, ◌==◌, nat_eq, codes, bytes_eq}
use Rattle.std.specs.List.{list_all, list_any, starts_with}
use Rattle.std.proofs.Common.{sym, ◌∙◌, ap, inl, inr, arith}
use Rattle.std.proofs.lemmas.Bool.{eqb-true, not-true, and_parts, or_cases}
use Rattle.std.proofs.lemmas.Slice.Eq.{bytes_eq-Decides}
use Rattle.pp_tokens.specs.declared.token.Kind.{Kind}
use Rattle.pp_tokens.specs.declared.token.Kind.TheVariants.{Ident, Number, Char, Str, Punct, Other}
use Rattle.pp_tokens.specs.Grammar.{is_identifier_start, is_identifier_byte, is_identifier, is_newline, is_white, continues_number, number_goes_on, is_digit, begins_with_digit, is_number, is_empty, closes, is_quoted, is_literal, is_string, is_character, closes_header, is_delimited, is_header, punctuators, is_punctuator, is_one_byte, kind_of}
use Rattle.pp_tokens.specs.Lines.{Part, newline, white, comment, open_comment, token, is_one, is_comment, is_open_comment, part_of}
use Rattle.pp_tokens.specs.parts.Text.{no_newline}
use Rattle.pp_tokens.specs.parts.Gathered.{newlines, IsPart, is_long}
use Rattle.pp_tokens.proofs.FirstBytes.{apart}
use Rattle.pp_tokens.proofs.LinedRests.{newline_next}

-- a byte that is no newline, and a text that has none
one_more : (b : ℕ) (bs : List ℕ) → (b == 10) ≡ false → no_newline bs ≡ true → no_newline (b ∷ bs) ≡ true
one_more b bs e h = rw e h

passes_first : (p : ℕ → Bool) (b : ℕ) (bs : List ℕ) → p 10 ≡ false → p b ≡ true → no_newline bs ≡ true → no_newline (b ∷ bs) ≡ true
passes_first p b bs fails passes h = one_more b bs (apart p b 10 passes fails) h

pub all_pass : (p : ℕ → Bool) (bs : List ℕ) → p 10 ≡ false → list_all p bs ≡ true → no_newline bs ≡ true
all_pass p [] fails h = refl
all_pass p (b ∷ bs) fails h = passes_first p b bs fails (and_parts (p b) (list_all p bs) h).0 (all_pass p bs fails (and_parts (p b) (list_all p bs) h).1)

-- IDENTIFIERS AND NUMBERS

identifier_line : (t : List ℕ) → is_identifier t ≡ true → no_newline t ≡ true
unfolding is_identifier
identifier_line [] h = refl
identifier_line (b ∷ bs) h =
    let both = and_parts (is_identifier_start b) (list_all is_identifier_byte bs) h in
    passes_first is_identifier_start b bs refl both.0 (all_pass is_identifier_byte bs refl both.1)

number_goes_line : (a : ℕ) (bs : List ℕ) → number_goes_on a bs ≡ true → no_newline bs ≡ true
unfolding number_goes_on
number_goes_line a [] h = refl
number_goes_line a (b ∷ bs) h =
    let both = and_parts (continues_number a b) (number_goes_on b bs) h in
    passes_first (continues_number a) b bs refl both.0 (number_goes_line b bs both.1)

number_line : (t : List ℕ) → is_number t ≡ true → no_newline t ≡ true
unfolding is_number
number_line [] h = refl
number_line (b ∷ bs) h =
    let both = and_parts (is_digit b || ((b == 46) && begins_with_digit bs)) (number_goes_on b bs) h in
    let behind : no_newline bs ≡ true = number_goes_line b bs both.1 in
    elim (or_cases (is_digit b) ((b == 46) && begins_with_digit bs) both.0) [
      | inl digit ↦ passes_first is_digit b bs refl digit behind
      | inr dot ↦ passes_first (λ c. c == 46) b bs refl (and_parts (b == 46) (begins_with_digit bs) dot).0 behind
    ]

-- LITERALS AND HEADER NAMES

empty_line : (bs : List ℕ) → is_empty bs ≡ true → no_newline bs ≡ true
empty_line [] h = refl
empty_line (b ∷ bs) h = absurd (cc)

closes_line : (quote : ℕ) (escaped : Bool) (bs : List ℕ) → (quote == 10) ≡ false → closes quote escaped bs ≡ true → no_newline bs ≡ true
unfolding closes
closes_line quote escaped [] other h = refl
closes_line quote true (b ∷ bs) other h =
    let both = and_parts (not (is_newline b)) (closes quote false bs) h in
    one_more b bs (not-true (b == 10) both.0) (closes_line quote false bs other both.1)
closes_line quote false (b ∷ bs) other h = by_test (b == quote) refl h (closes_line quote (b == 92) bs other)
  where
    by_test : (t : Bool) → (b == quote) ≡ t → cond t (is_empty bs) (not (is_newline b) && closes quote (b == 92) bs) ≡ true
        → (closes quote (b == 92) bs ≡ true → no_newline bs ≡ true) → no_newline (b ∷ bs) ≡ true
    by_test true e h' ih = one_more b bs (ap (λ k. k == 10) (eqb-true b quote e) ∙ other) (empty_line bs h')
    by_test false e h' ih =
        let both = and_parts (not (is_newline b)) (closes quote (b == 92) bs) h' in
        one_more b bs (not-true (b == 10) both.0) (ih both.1)

quoted_line : (quote : ℕ) (t : List ℕ) → (quote == 10) ≡ false → is_quoted quote t ≡ true → no_newline t ≡ true
quoted_line quote [] other h = refl
quoted_line quote (b ∷ bs) other h =
    let both = and_parts (b == quote) (closes quote false bs) h in
    one_more b bs (ap (λ k. k == 10) (eqb-true b quote both.0) ∙ other) (closes_line quote false bs other both.1)

prefixed_line : (p t : List ℕ) → starts_with nat_eq t p ≡ true → no_newline p ≡ true → no_newline (drop (length p) t) ≡ true → no_newline t ≡ true
prefixed_line [] t h front behind = behind
prefixed_line (x ∷ p) [] h front behind = refl
prefixed_line (x ∷ p) (b ∷ t) h front behind =
    let both = and_parts (nat_eq x b) (starts_with nat_eq t p) h in
    let line = and_parts (not (x == 10)) (no_newline p) front in
    one_more b t (ap (λ k. k == 10) (sym (eqb-true x b both.0)) ∙ not-true (x == 10) line.0) (prefixed_line p t both.1 line.1 behind)

literal_line : (prefixes : List (List ℕ)) (quote : ℕ) (t : List ℕ) → (quote == 10) ≡ false → list_all no_newline prefixes ≡ true → is_literal prefixes quote t ≡ true → no_newline t ≡ true
literal_line prefixes quote t other each h =
    elim (or_cases (is_quoted quote t) (list_any begins prefixes) h) [ inl quoted ↦ quoted_line quote t other quoted | inr some ↦ by_prefix prefixes each some ]
  where
    begins : List ℕ → Bool
    begins = λ p. starts_with nat_eq t p && is_quoted quote (drop (length p) t)

    by_prefix : (ps : List (List ℕ)) → list_all no_newline ps ≡ true → list_any (λ p. starts_with nat_eq t p && is_quoted quote (drop (length p) t)) ps ≡ true → no_newline t ≡ true
    by_prefix [] all some = absurd (cc)
    by_prefix (p ∷ ps) all some =
        let line = and_parts (no_newline p) (list_all no_newline ps) all in
        elim (or_cases (starts_with nat_eq t p && is_quoted quote (drop (length p) t)) (list_any (λ q. starts_with nat_eq t q && is_quoted quote (drop (length q) t)) ps) some) [
          | inl here ↦
              (let both = and_parts (starts_with nat_eq t p) (is_quoted quote (drop (length p) t)) here in
              prefixed_line p t both.0 line.0 (quoted_line quote (drop (length p) t) other both.1))
          | inr later ↦ by_prefix ps line.1 later
        ]

closes_header_line : (delimiter : ℕ) (bs : List ℕ) → (delimiter == 10) ≡ false → closes_header delimiter bs ≡ true → no_newline bs ≡ true
unfolding closes_header
closes_header_line delimiter [] other h = refl
closes_header_line delimiter (b ∷ bs) other h = by_test (b == delimiter) refl h (closes_header_line delimiter bs other)
  where
    by_test : (t : Bool) → (b == delimiter) ≡ t → cond t (is_empty bs) (not (is_newline b) && closes_header delimiter bs) ≡ true
        → (closes_header delimiter bs ≡ true → no_newline bs ≡ true) → no_newline (b ∷ bs) ≡ true
    by_test true e h' ih = one_more b bs (ap (λ k. k == 10) (eqb-true b delimiter e) ∙ other) (empty_line bs h')
    by_test false e h' ih =
        let both = and_parts (not (is_newline b)) (closes_header delimiter bs) h' in
        one_more b bs (not-true (b == 10) both.0) (ih both.1)

delimited_line : (opening closing : ℕ) (t : List ℕ) → (opening == 10) ≡ false → (closing == 10) ≡ false → is_delimited opening closing t ≡ true → no_newline t ≡ true
delimited_line opening closing [] o c h = refl
delimited_line opening closing (b ∷ bs) o c h =
    let both = and_parts (b == opening) _ h in
    let closed = (and_parts (not (starts_with nat_eq bs (closing ∷ []))) (closes_header closing bs) both.1).1 in
    one_more b bs (ap (λ k. k == 10) (eqb-true b opening both.0) ∙ o) (closes_header_line closing bs c closed)

header_line : (t : List ℕ) → is_header t ≡ true → no_newline t ≡ true
unfolding is_header
header_line t h =
    elim (or_cases (is_delimited 60 62 t) (is_delimited 34 34 t) h) [ inl angle ↦ delimited_line 60 62 t refl refl angle | inr quote ↦ delimited_line 34 34 t refl refl quote ]

-- TOKENS

entry_line : (t : List ℕ) (ps : List (List ℕ)) → list_all no_newline ps ≡ true → list_any (bytes_eq t) ps ≡ true → no_newline t ≡ true
entry_line t [] each h = absurd (cc)
entry_line t (p ∷ ps) each h =
    let line = and_parts (no_newline p) (list_all no_newline ps) each in
    elim (or_cases (bytes_eq t p) (list_any (bytes_eq t) ps) h) [
      | inl here ↦ ap no_newline ((bytes_eq-Decides t p).0 here) ∙ line.0
      | inr later ↦ entry_line t ps line.1 later
    ]

byte_line : (t : List ℕ) → is_one_byte t ≡ true → no_newline t ≡ true
byte_line [] h = refl
byte_line (b ∷ []) h = passes_first (λ c. not (is_white c || is_newline c)) b [] refl h refl
byte_line (b ∷ c ∷ bs) h = absurd (cc)

-- the first of two that is there passes
one_of : {A : Type 0} → (t : Bool) (x y : A) (o : Option A) (line : Bool) → (t ≡ true → line ≡ true) → (o ≡ Some y → line ≡ true) → cond t (Some x) o ≡ Some y → line ≡ true
one_of true x y o line here later h = here refl
one_of false x y o line here later h = later h

token_line : (t : List ℕ) (k : Kind) → kind_of t ≡ Some k → no_newline t ≡ true
unfolding kind_of is_character is_string is_punctuator
token_line t k h =
    one_of (is_identifier t) Ident k _ (no_newline t) (identifier_line t)
    (one_of (is_number t) Number k _ (no_newline t) (number_line t)
    (one_of (is_character t) Char k _ (no_newline t) (literal_line (codes "u" ∷ codes "U" ∷ codes "L" ∷ []) 39 t refl refl)
    (one_of (is_string t) Str k _ (no_newline t) (literal_line (codes "u8" ∷ codes "u" ∷ codes "U" ∷ codes "L" ∷ []) 34 t refl refl)
    (one_of (is_punctuator t) Punct k _ (no_newline t) (entry_line t punctuators refl)
    (one_of (is_one_byte t) Other k None (no_newline t) (byte_line t) (λ e. absurd (cc))))))) h

-- PARTS

white_line : (t : List ℕ) → is_one is_white t ≡ true → no_newline t ≡ true
white_line [] h = refl
white_line (b ∷ []) h = passes_first is_white b [] refl h refl
white_line (b ∷ c ∷ bs) h = absurd (cc)

kind_line : (t : List ℕ) (o : Option Kind) (p : Part) → kind_of t ≡ o → option_map token o ≡ Some p → no_newline t ≡ true
kind_line t None p is h = absurd (cc)
kind_line t (Some k) p is h = token_line t k is

-- what is no newline and no comment
part_line : (t : List ℕ) (p : Part) → is_long p ≡ false → part_of t ≡ Some p → no_newline t ≡ true
unfolding part_of
part_line t p short h =
    one_short (is_one is_newline t) newline _ refl
    (one_of (is_one is_white t) white p _ (no_newline t) (white_line t)
    (one_short (is_comment t) comment _ refl
    (one_short (is_open_comment t) open_comment _ refl (kind_line t (kind_of t) p refl)))) h
  where
    one_short : (test : Bool) (x : Part) (o : Option Part) → is_long x ≡ true → (o ≡ Some p → no_newline t ≡ true) → cond test (Some x) o ≡ Some p → no_newline t ≡ true
    one_short true x o long later e =
        let same : x ≡ p = cc in
        let wrong : true ≡ false = sym long ∙ ap is_long same ∙ short in
        absurd (cc)
    one_short false x o long later e = later e

-- HOW MANY NEWLINES

pub none_counted : (t : List ℕ) → no_newline t ≡ true → newlines t ≡ 0
none_counted [] h = refl
none_counted (b ∷ bs) h =
    let both = and_parts (not (b == 10)) (no_newline bs) h in
    let e : (b == 10) ≡ false = not-true (b == 10) both.0 in
    newline_next b bs ∙ rw e (let later : newlines bs ≡ 0 = none_counted bs both.1 in omega (arith, later))

pub short_newlines : (p : Part) (t : List ℕ) → is_long p ≡ false → IsPart p t → newlines t ≡ 0
short_newlines p t short (inl is) = none_counted t (part_line t p short is)
short_newlines p t short (inr (is, header)) = none_counted t (header_line t header)

one_newline : (t : List ℕ) → is_one is_newline t ≡ true → newlines t ≡ 1
one_newline [] h = absurd (cc)
one_newline (b ∷ []) h = newline_next b [] ∙ rw h refl
one_newline (b ∷ c ∷ bs) h = absurd (cc)

pub newline_newlines : (t : List ℕ) → IsPart newline t → newlines t ≡ 1
unfolding part_of
newline_newlines t (inr (is, header)) = absurd (cc)
newline_newlines t (inl is) = by_test (is_one is_newline t) refl is
  where
    not_kind : (o : Option Kind) → option_map token o ≡ Some newline → ⊥
    not_kind None e = absurd (cc)
    not_kind (Some k) e = absurd (cc)

    by_test : (test : Bool) → is_one is_newline t ≡ test
        → cond test (Some newline) (cond (is_one is_white t) (Some white) (cond (is_comment t) (Some comment) (cond (is_open_comment t) (Some open_comment) (option_map token (kind_of t))))) ≡ Some newline
        → newlines t ≡ 1
    by_test true e h = one_newline t e
    by_test false e h =
        absurd (other (is_one is_white t) white _ (λ e. cc) (other (is_comment t) comment _ (λ e. cc) (other (is_open_comment t) open_comment _ (λ e. cc) (not_kind (kind_of t)))) h)
      where
        other : (test : Bool) (x : Part) (o : Option Part) → (x ≡ newline → ⊥) → (o ≡ Some newline → ⊥) → cond test (Some x) o ≡ Some newline → ⊥
        other true x o apart later e = apart (cc)
        other false x o apart later e = later e
