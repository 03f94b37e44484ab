-- Parts that begin with an ordinary byte: each of their bytes is ordinary, or they are literals with a prefix.
use Rattle.std.specs.Prelude.{◌≡◌, ◌≢◌, ℕ, suc, ◌+◌, Bool, true, false, cond, not, ◌&&◌, ◌||◌, List, [], ◌∷◌, ◌++◌, length, drop, Option, Some, None, option_map, refl, ◌==◌, nat_eq, codes, bytes_eq, ◌⊎◌}
use Rattle.std.specs.List.{list_all, list_any, starts_with}
use Rattle.std.proofs.Common.{sym, ◌∙◌, ap, inl, inr, arith}
use Rattle.std.proofs.lemmas.Bool.{eqb-true, and_parts, or_cases}
use Rattle.std.proofs.lemmas.Slice.Eq.{bytes_eq-Decides}
use Rattle.pp_tokens.specs.declared.token.Kind.{Kind}
use Rattle.pp_tokens.specs.declared.token.Kind.TheVariants.{Ident, Number, Char, Str, Punct, Other}
use Rattle.pp_tokens.specs.Grammar.{is_identifier_start, is_identifier_byte, is_identifier, is_newline, is_white, continues_number, number_goes_on, is_digit, begins_with_digit, is_number, closes, is_quoted, is_literal, is_string, is_character, punctuators, is_punctuator, is_one_byte, kind_of}
use Rattle.pp_tokens.specs.Lines.{Part, white, token, is_one, part_of, first_part}
use Rattle.pp_tokens.specs.parts.Text.{is_quote}
use Rattle.pp_tokens.specs.parts.TextLines.{is_ordinary}
use Rattle.pp_tokens.specs.parts.Gathered.{is_long}
use Rattle.pp_tokens.specs.parts.Literals.{literal_kind}
use Rattle.pp_tokens.proofs.FirstBytes.{apart, first, no_comment, no_open_comment}
use Rattle.pp_tokens.proofs.Closing.{closing_found}
use Rattle.pp_tokens.proofs.Opened.{quoted_first}

-- a literal without a byte of its prefix, before this rest: what is left of the prefix, and what stands between quotes
pub record Quoted (u rest : List ℕ) : Type 0 where
  pub prefix : List ℕ
  pub quoted : List ℕ
  pub kind : Kind
  pub split : u ≡ prefix ++ quoted
  pub each : list_all is_ordinary prefix ≡ true
  pub some : quoted ≢ []
  pub found : first_part false (quoted ++ rest) ≡ (token kind, length quoted)

-- what goes on with a part behind an ordinary byte
abbrev pub GoesOn : List ℕ → List ℕ → Type 0
GoesOn u rest = (list_all is_ordinary u ≡ true) ⊎ Quoted u rest

-- ORDINARY BYTES

-- bytes of a kind to which no other byte belongs are ordinary
record OnlyOrdinary (f : ℕ → Bool) : Type 0 where
  newline : f 10 ≡ false
  double : f 34 ≡ false
  single : f 39 ≡ false
  slash : f 47 ≡ false

is_ordinary_by : (f : ℕ → Bool) (b : ℕ) → OnlyOrdinary f → f b ≡ true → is_ordinary b ≡ true
is_ordinary_by f b o h =
    rw (apart f b 10 h o.newline, apart f b 34 h o.double, apart f b 39 h o.single, apart f b 47 h o.slash) refl

all_ordinary : (f : ℕ → Bool) (bs : List ℕ) → OnlyOrdinary f → list_all f bs ≡ true → list_all is_ordinary bs ≡ true
all_ordinary f [] o h = refl
all_ordinary f (b ∷ bs) o h =
    let both = and_parts (f b) (list_all f bs) h in
    rw (is_ordinary_by f b o both.0) (all_ordinary f bs o both.1)

-- an ordinary byte isn't one that is not
other_byte : (b k : ℕ) → is_ordinary b ≡ true → is_ordinary k ≡ false → (b == k) ≡ false
other_byte b k h fails = apart is_ordinary b k h fails

-- IDENTIFIERS AND NUMBERS

word_goes_on : (b : ℕ) (u : List ℕ) → is_identifier (b ∷ u) ≡ true → list_all is_ordinary u ≡ true
unfolding is_identifier
word_goes_on b u h =
    all_ordinary is_identifier_byte u (record { newline = refl; double = refl; single = refl; slash = refl })
    (and_parts (is_identifier_start b) (list_all is_identifier_byte u) h).1

number_goes : (a : ℕ) (u : List ℕ) → number_goes_on a u ≡ true → list_all is_ordinary u ≡ true
unfolding number_goes_on
number_goes a [] h = refl
number_goes a (b ∷ bs) h =
    let both = and_parts (continues_number a b) (number_goes_on b bs) h in
    rw (is_ordinary_by (continues_number a) b (record { newline = refl; double = refl; single = refl; slash = refl }) both.0) (number_goes b bs both.1)

number_ordinary : (b : ℕ) (u : List ℕ) → is_number (b ∷ u) ≡ true → list_all is_ordinary u ≡ true
unfolding is_number
number_ordinary b u h = number_goes b u (and_parts (is_digit b || ((b == 46) && begins_with_digit u)) (number_goes_on b u) h).1

-- LITERALS

-- the rest behind a front
cut_off_front : (u p : List ℕ) → starts_with nat_eq u p ≡ true → u ≡ p ++ drop (length p) u
cut_off_front u [] h = refl
cut_off_front [] (x ∷ p) h = absurd (cc)
cut_off_front (b ∷ u) (x ∷ p) h =
    let both = and_parts (nat_eq x b) (starts_with nat_eq u p) h in
    (λ i. sym (eqb-true x b both.0) i ∷ cut_off_front u p both.1 i)

-- what stands between two quotes stands first
quotes_first : (quote : ℕ) (t rest : List ℕ) → is_quote quote ≡ true → is_quoted quote t ≡ true
    → (t ≢ []) × (first_part false (t ++ rest) ≡ (token (literal_kind quote), length t))
quotes_first quote [] rest q h = absurd (cc)
quotes_first quote (b ∷ bs) rest q h =
    let both = and_parts (b == quote) (closes quote false bs) h in
    let same : b ≡ quote = eqb-true b quote both.0 in
    let size : length bs + 1 ≡ suc (length bs) = omega arith in (
      (λ e. cc),
      ap (λ k. first_part false (k ∷ (bs ++ rest))) same
          ∙ quoted_first quote (bs ++ rest) (length bs) q (closing_found quote false bs rest both.1)
          ∙ ap (λ n. (token (literal_kind quote), n)) size,
    )

abbrev ordinary_prefix : List ℕ → Bool
ordinary_prefix p = list_all is_ordinary p && not (bytes_eq p [])

prefixed : (quote b : ℕ) (u p rest : List ℕ) → is_quote quote ≡ true → ordinary_prefix p ≡ true
    → (starts_with nat_eq (b ∷ u) p && is_quoted quote (drop (length p) (b ∷ u))) ≡ true → Quoted u rest
prefixed quote b u [] rest q each h = absurd (cc)
prefixed quote b u (x ∷ p) rest q each h =
    let both = and_parts (starts_with nat_eq (b ∷ u) (x ∷ p)) (is_quoted quote (drop (length p) u)) h in
    let begins = and_parts (nat_eq x b) (starts_with nat_eq u p) both.0 in
    let first = quotes_first quote (drop (length p) u) rest q both.1 in
    let all = and_parts (list_all is_ordinary (x ∷ p)) true each in
    record {
      prefix = p;
      quoted = drop (length p) u;
      kind = literal_kind quote;
      split = cut_off_front u p begins.1;
      each = (and_parts (is_ordinary x) (list_all is_ordinary p) all.0).1;
      some = first.0;
      found = first.1;
    }

literal_goes_on : (prefixes : List (List ℕ)) (quote b : ℕ) (u rest : List ℕ) → is_quote quote ≡ true → (b == quote) ≡ false → list_all ordinary_prefix prefixes ≡ true
    → is_literal prefixes quote (b ∷ u) ≡ true → Quoted u rest
literal_goes_on prefixes quote b u rest q other each h =
    elim (or_cases (is_quoted quote (b ∷ u)) (list_any (λ p. starts_with nat_eq (b ∷ u) p && is_quoted quote (drop (length p) (b ∷ u))) prefixes) h) [
      | inl quoted ↦ absurd (let e : true ≡ false = sym (and_parts (b == quote) (closes quote false u) quoted).0 ∙ other in cc)
      | inr some ↦ by_prefix prefixes each some
    ]
  where
    by_prefix : (ps : List (List ℕ)) → list_all ordinary_prefix ps ≡ true → list_any (λ p. starts_with nat_eq (b ∷ u) p && is_quoted quote (drop (length p) (b ∷ u))) ps ≡ true → Quoted u rest
    by_prefix [] all some = absurd (cc)
    by_prefix (p ∷ ps) all some =
        let line = and_parts (ordinary_prefix p) (list_all ordinary_prefix ps) all in
        elim (or_cases (starts_with nat_eq (b ∷ u) p && is_quoted quote (drop (length p) (b ∷ u))) (list_any (λ q. starts_with nat_eq (b ∷ u) q && is_quoted quote (drop (length q) (b ∷ u))) ps) some) [
          | inl here ↦ prefixed quote b u p rest q line.0 here
          | inr later ↦ by_prefix ps line.1 later
        ]

-- PUNCTUATORS AND OTHER BYTES

-- an entry of which the first byte is ordinary has no other
abbrev ordinary_entry : List ℕ → Bool
ordinary_entry p = not (is_ordinary (first p)) || list_all is_ordinary p

all_of_entry : (b : ℕ) (u : List ℕ) → is_ordinary b ≡ true → ordinary_entry (b ∷ u) ≡ true → list_all is_ordinary u ≡ true
all_of_entry b u h entry =
    elim (or_cases (not (is_ordinary b)) (list_all is_ordinary (b ∷ u)) entry) [
      | inl fails ↦ absurd (let e : false ≡ true = ap not (sym h) ∙ fails in cc)
      | inr each ↦ (and_parts (is_ordinary b) (list_all is_ordinary u) each).1
    ]

entry_goes_on : (b : ℕ) (u : List ℕ) (ps : List (List ℕ)) → is_ordinary b ≡ true → list_all ordinary_entry ps ≡ true → list_any (bytes_eq (b ∷ u)) ps ≡ true → list_all is_ordinary u ≡ true
entry_goes_on b u [] h each some = absurd (cc)
entry_goes_on b u (p ∷ ps) h each some =
    let line = and_parts (ordinary_entry p) (list_all ordinary_entry ps) each in
    elim (or_cases (bytes_eq (b ∷ u) p) (list_any (bytes_eq (b ∷ u)) ps) some) [
      | inl here ↦ all_of_entry b u h (ap ordinary_entry ((bytes_eq-Decides (b ∷ u) p).0 here) ∙ line.0)
      | inr later ↦ entry_goes_on b u ps h line.1 later
    ]

byte_goes_on : (b : ℕ) (u : List ℕ) → is_one_byte (b ∷ u) ≡ true → list_all is_ordinary u ≡ true
byte_goes_on b [] h = refl
byte_goes_on b (c ∷ u) h = absurd (cc)

-- TOKENS

one_of : {A : Type 0} → (t : Bool) (x y : A) (o : Option A) (P : Type 0) → (t ≡ true → P) → (o ≡ Some y → P) → cond t (Some x) o ≡ Some y → P
one_of true x y o P here later h = here refl
one_of false x y o P here later h = later h

token_goes_on : (b : ℕ) (u rest : List ℕ) (k : Kind) → is_ordinary b ≡ true → kind_of (b ∷ u) ≡ Some k → GoesOn u rest
unfolding kind_of is_character is_string is_punctuator
token_goes_on b u rest k ordinary h =
    let t : List ℕ = b ∷ u in
    one_of (is_identifier t) Ident k _ (GoesOn u rest) (λ e. inl (word_goes_on b u e))
    (one_of (is_number t) Number k _ (GoesOn u rest) (λ e. inl (number_ordinary b u e))
    (one_of (is_character t) Char k _ (GoesOn u rest)
    (λ e. inr (literal_goes_on (codes "u" ∷ codes "U" ∷ codes "L" ∷ []) 39 b u rest refl (other_byte b 39 ordinary refl) refl e))
    (one_of (is_string t) Str k _ (GoesOn u rest)
    (λ e. inr (literal_goes_on (codes "u8" ∷ codes "u" ∷ codes "U" ∷ codes "L" ∷ []) 34 b u rest refl (other_byte b 34 ordinary refl) refl e))
    (one_of (is_punctuator t) Punct k _ (GoesOn u rest) (λ e. inl (entry_goes_on b u punctuators ordinary refl e))
    (one_of (is_one_byte t) Other k None (GoesOn u rest) (λ e. inl (byte_goes_on b u e)) (λ e. absurd (cc))))))) h

-- PARTS

no_newline_here : (b : ℕ) (u : List ℕ) → is_ordinary b ≡ true → is_one is_newline (b ∷ u) ≡ false
no_newline_here b [] h = other_byte b 10 h refl
no_newline_here b (c ∷ u) h = refl

white_goes_on : (b : ℕ) (u : List ℕ) → is_one is_white (b ∷ u) ≡ true → list_all is_ordinary u ≡ true
white_goes_on b [] h = refl
white_goes_on b (c ∷ u) h = absurd (cc)

-- a part that begins with an ordinary byte is white space or a token
pub part_goes_on : (b : ℕ) (u rest : List ℕ) (p : Part) → is_ordinary b ≡ true → part_of (b ∷ u) ≡ Some p → (is_long p ≡ false) × GoesOn u rest
unfolding part_of
part_goes_on b u rest p ordinary h =
    let slash = other_byte b 47 ordinary refl in
    by_white (is_one is_white (b ∷ u)) refl
    (sym (rw (no_newline_here b u ordinary, no_comment b u slash, no_open_comment b u slash) refl) ∙ h)
  where
    by_kind : (o : Option Kind) → kind_of (b ∷ u) ≡ o → option_map token o ≡ Some p → (is_long p ≡ false) × GoesOn u rest
    by_kind None e is = absurd (cc)
    by_kind (Some k) e is = (let same : token k ≡ p = cc in (ap is_long (sym same), token_goes_on b u rest k ordinary e))

    by_white : (t : Bool) → is_one is_white (b ∷ u) ≡ t → cond t (Some white) (option_map token (kind_of (b ∷ u))) ≡ Some p → (is_long p ≡ false) × GoesOn u rest
    by_white true e is = (let same : white ≡ p = cc in (ap is_long (sym same), inl (white_goes_on b u e)))
    by_white false e is = by_kind (kind_of (b ∷ u)) refl is
