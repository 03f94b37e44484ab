-- A whole text is a token exactly where the token stands first in it and is as long.
use Rattle.std.specs.Prelude.{◌≡◌, ◌≢◌, ℕ, Bool, true, false, cond, List, [], ◌∷◌, ◌++◌, length, Option, Some, None, option_map, refl, ◌==◌}
use Rattle.std.proofs.Common.{sym, ◌∙◌, ap, inl, inr, arith}
use Rattle.std.proofs.lemmas.Bool.{eqb-true, eqb-false, eq-eqb}
use Rattle.std.proofs.lemmas.List.{append-nil, length-append}
use Rattle.pp_tokens.specs.declared.token.Kind.{Kind}
use Rattle.pp_tokens.specs.Grammar.{is_newline, is_white, is_identifier, is_number, number_goes_on, is_string, is_character, is_punctuator, closes, kind_of}
use Rattle.pp_tokens.specs.Lines.{Part, newline, white, comment, open_comment, token, part_of, is_comment, is_open_comment, Stands, NoLonger, first_part}
use Rattle.pp_tokens.specs.parts.Text.{whole_kind}
use Rattle.pp_tokens.proofs.Reading.{stands_first, first_stands, Front}
use Rattle.pp_tokens.proofs.TextLemmas.{white_byte}

-- A TOKEN IS THE PART THAT IT IS

newline_no_kind : (b : ℕ) → is_newline b ≡ true → kind_of (b ∷ []) ≡ None
unfolding kind_of is_identifier is_number number_goes_on is_string is_character is_punctuator
newline_no_kind b h = ap (λ k. kind_of (k ∷ [])) (eqb-true b 10 h)

white_no_kind : (b : ℕ) → is_white b ≡ true → kind_of (b ∷ []) ≡ None
unfolding kind_of is_identifier is_number number_goes_on is_string is_character is_punctuator
white_no_kind b h =
    elim (white_byte b h) [
      | inl e ↦ ap (λ k. kind_of (k ∷ [])) e
      | inr (inl e) ↦ ap (λ k. kind_of (k ∷ [])) e
      | inr (inr (inl e)) ↦ ap (λ k. kind_of (k ∷ [])) e
      | inr (inr (inr (inl e))) ↦ ap (λ k. kind_of (k ∷ [])) e
      | inr (inr (inr (inr e))) ↦ ap (λ k. kind_of (k ∷ [])) e
    ]

block_no_kind : (bs : List ℕ) → kind_of (47 ∷ 42 ∷ bs) ≡ None
unfolding kind_of is_identifier is_number number_goes_on is_string is_character is_punctuator
block_no_kind bs = refl

line_no_kind : (bs : List ℕ) → kind_of (47 ∷ 47 ∷ bs) ≡ None
unfolding kind_of is_identifier is_number number_goes_on is_string is_character is_punctuator
line_no_kind bs = refl

-- a text that is a part of another sort is no token
no_token : (o : Option Kind) (k : Kind) → o ≡ Some k → o ≡ None → ⊥
no_token o k is none = let h : ◌≡◌ {A = Option Kind} (Some k) None = sym is ∙ none in cc

pub token_is_part : (t : List ℕ) (k : Kind) → kind_of t ≡ Some k → part_of t ≡ Some (token k)
unfolding part_of is_comment is_open_comment
token_is_part [] k is = rw is refl
token_is_part (b ∷ []) k is = by_tests (is_newline b) (is_white b) refl refl
  where
    by_tests : (n w : Bool) → is_newline b ≡ n → is_white b ≡ w
        → cond n (Some newline) (cond w (Some white) (option_map token (kind_of (b ∷ [])))) ≡ Some (token k)
    by_tests true w h h' = absurd (no_token (kind_of (b ∷ [])) k is (newline_no_kind b h))
    by_tests false true h h' = absurd (no_token (kind_of (b ∷ [])) k is (white_no_kind b h'))
    by_tests false false h h' = ap (option_map token) is
token_is_part (a ∷ b ∷ bs) k is = by_tests (a == 47) (b == 42) (b == 47) refl refl refl
  where
    by_tests : (r s t : Bool) → (a == 47) ≡ r → (b == 42) ≡ s → (b == 47) ≡ t → part_of (a ∷ b ∷ bs) ≡ Some (token k)
    by_tests false s t h e e' = rw h (ap (option_map token) is)
    by_tests true true t h e e' =
        absurd (no_token (kind_of (a ∷ b ∷ bs)) k is ((λ i. kind_of (eqb-true a 47 h i ∷ eqb-true b 42 e i ∷ bs)) ∙ block_no_kind bs))
    by_tests true false true h e e' =
        absurd (no_token (kind_of (a ∷ b ∷ bs)) k is ((λ i. kind_of (eqb-true a 47 h i ∷ eqb-true b 47 e' i ∷ bs)) ∙ line_no_kind bs))
    by_tests true false false h e e' = rw (h, e, e') (ap (option_map token) is)

-- a part that is a token is that token
token_of_choice : (n w c o : Bool) (x : Option Kind) (k : Kind)
    → cond n (Some newline) (cond w (Some white) (cond c (Some comment) (cond o (Some open_comment) (option_map token x)))) ≡ Some (token k) → x ≡ Some k
token_of_choice true w c o x k h = absurd (cc)
token_of_choice false true c o x k h = absurd (cc)
token_of_choice false false true o x k h = absurd (cc)
token_of_choice false false false true x k h = absurd (cc)
token_of_choice false false false false None k h = absurd (cc)
token_of_choice false false false false (Some j) k h = cc

part_is_token : (t : List ℕ) (k : Kind) → part_of t ≡ Some (token k) → kind_of t ≡ Some k
unfolding part_of
part_is_token t k h = token_of_choice _ _ _ _ (kind_of t) k h

-- THE WHOLE TEXT

none_behind : (t : List ℕ) → NoLonger part_of t []
none_behind t [] rest some e = absurd (some refl)
none_behind t (m ∷ ms) rest some e = absurd (cc)

token_first : (t : List ℕ) (k : Kind) → t ≢ [] → kind_of t ≡ Some k → first_part false t ≡ (token k, length t)
token_first t k some is =
    ap (first_part false) (sym (append-nil t))
    ∙ stands_first false (token k) t [] some (inr (λ e. absurd (cc), token_is_part t k is, none_behind t))

-- a front that is as long as the text is the text
whole_front : (text front rest : List ℕ) → text ≡ front ++ rest → length front ≡ length text → front ≡ text
whole_front text front [] split size = sym (append-nil front) ∙ sym split
whole_front text front (r ∷ rest) split size =
    absurd (let sum : length text ≡ length (front ++ (r ∷ rest)) = ap length split in omega (arith, length-append front (r ∷ rest), sum))

-- a token that stands first and is as long as the text is the text's
front_kind : (text : List ℕ) (k : Kind) (n : ℕ) → Front false text (token k, n) → n ≡ length text → kind_of text ≡ Some k
front_kind text k n f size = by_reading f.stands
  where
    whole : f.front ≡ text
    whole = whole_front text f.front f.rest f.split (sym f.size ∙ size)

    by_reading : Stands false (token k) f.front f.rest → kind_of text ≡ Some k
    by_reading (inl (due, p, header)) = absurd (cc)
    by_reading (inr (none, is, longest)) = part_is_token text k (ap part_of (sym whole) ∙ is)

none_told : (text : List ℕ) → kind_of text ≡ None → (f : Part × ℕ) → Front false text f → whole_kind f (length text) ≡ None
none_told text none (token k, n) f = by_size (n == length text) refl
  where
    by_size : (t : Bool) → (n == length text) ≡ t → cond t (Some k) None ≡ None
    by_size false h = refl
    by_size true h = absurd (no_token (kind_of text) k (front_kind text k n f (eqb-true n (length text) h)) none)
none_told text none (newline, n) f = refl
none_told text none (white, n) f = refl
none_told text none (comment, n) f = refl
none_told text none (open_comment, n) f = refl

-- the kind of a text is that of what stands first in it, where that is the whole text
pub kind_is : (text : List ℕ) → text ≢ [] → kind_of text ≡ whole_kind (first_part false text) (length text)
kind_is text some = by_kind (kind_of text) refl
  where
    by_kind : (o : Option Kind) → kind_of text ≡ o → kind_of text ≡ whole_kind (first_part false text) (length text)
    by_kind None h = h ∙ sym (none_told text h (first_part false text) (first_stands false text some))
    by_kind (Some k) h =
        (let same : (length text == length text) ≡ true = eq-eqb (length text) (length text) refl in
        rw (h, token_first text k some h, same) refl)

-- an empty text is no token
pub empty_kind : (text : List ℕ) → length text ≡ 0 → kind_of text ≡ None
unfolding kind_of is_identifier is_number is_string is_character is_punctuator closes
empty_kind [] h = refl
empty_kind (b ∷ bs) h = absurd (omega arith)

pub some_text : (text : List ℕ) → (length text == 0) ≡ false → text ≢ []
some_text text h none = eqb-false (length text) 0 h (ap length none)
