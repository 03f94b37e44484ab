-- White space and newlines in front of a text, and where a header name is due.
use Rattle.std.specs.Prelude.{◌≡◌, ◌≢◌, ℕ, ◌<◌, Bool, true, false, List, [], ◌∷◌, ◌++◌, length, zero, suc, refl, ◌==◌, drop, get_or, None, ◌⊎◌}
use Rattle.std.proofs.Common.{sym, ◌∙◌, ap, inl, inr, arith}
use Rattle.std.proofs.lemmas.Bool.{eqb-true, or_cases, or_parts}
use Rattle.pp_tokens.specs.declared.token.Kind.TheVariants.{Header}
use Rattle.pp_tokens.specs.Grammar.{is_white, is_identifier, is_number, number_goes_on, is_string, is_character, is_header, is_punctuator, kind_of}
use Rattle.pp_tokens.specs.Lines.{newline, white, token, part_of, is_comment, is_open_comment, NoLonger, longest_from, header_part, first_part}
use Rattle.pp_tokens.specs.parts.Text.{opens_header}
use Rattle.pp_tokens.proofs.FirstBytes.{apart}
use Rattle.pp_tokens.proofs.Longest.{none_longest}
use Rattle.pp_tokens.proofs.Reading.{stands_first}
use Rattle.pp_tokens.proofs.Numbers.{single_stands}

pub newline_stands : (bs : List ℕ) → first_part false (10 ∷ bs) ≡ (newline, 1)
unfolding part_of kind_of is_identifier is_number number_goes_on is_string is_character is_punctuator is_comment is_open_comment
newline_stands bs = single_stands 10 bs newline refl (λ c u. refl)

-- one byte of white space stands alone
pub white_byte : (b : ℕ) → is_white b ≡ true → (b ≡ 32) ⊎ ((b ≡ 9) ⊎ ((b ≡ 11) ⊎ ((b ≡ 12) ⊎ (b ≡ 13))))
white_byte b h =
    elim (or_cases (b == 32) _ h) [
      | inl e ↦ inl (eqb-true b 32 e)
      | inr h1 ↦ elim (or_cases (b == 9) _ h1) [
        | inl e ↦ inr (inl (eqb-true b 9 e))
        | inr h2 ↦ elim (or_cases (b == 11) _ h2) [
          | inl e ↦ inr (inr (inl (eqb-true b 11 e)))
          | inr h3 ↦ elim (or_cases (b == 12) (b == 13) h3) [
            | inl e ↦ inr (inr (inr (inl (eqb-true b 12 e))))
            | inr e ↦ inr (inr (inr (inr (eqb-true b 13 e))))
          ]
        ]
      ]
    ]

pub white_stands : (b : ℕ) (bs : List ℕ) → is_white b ≡ true → first_part false (b ∷ bs) ≡ (white, 1)
unfolding part_of kind_of is_identifier is_number number_goes_on is_string is_character is_punctuator is_comment is_open_comment
white_stands b bs h =
    elim (white_byte b h) [
      | inl e ↦ rw e (single_stands 32 bs white refl (λ c u. refl))
      | inr (inl e) ↦ rw e (single_stands 9 bs white refl (λ c u. refl))
      | inr (inr (inl e)) ↦ rw e (single_stands 11 bs white refl (λ c u. refl))
      | inr (inr (inr (inl e))) ↦ rw e (single_stands 12 bs white refl (λ c u. refl))
      | inr (inr (inr (inr e))) ↦ rw e (single_stands 13 bs white refl (λ c u. refl))
    ]

-- a header name that is due is what stands there
pub header_stands : (t after : List ℕ) → is_header t ≡ true → t ≢ [] → first_part true (t ++ after) ≡ (token Header, length t)
header_stands t after header some = stands_first true (token Header) t after some (inl (refl, refl, header))

-- where no header name begins, it is the same whether one is due
pub not_begun : (due : Bool) (b : ℕ) (bs : List ℕ) → (b == 60) ≡ false → (b == 34) ≡ false → first_part due (b ∷ bs) ≡ first_part false (b ∷ bs)
unfolding first_part is_header
not_begun false b bs angle quote = refl
not_begun true b bs angle quote =
    let none : longest_from header_part [] (b ∷ bs) ≡ None = none_longest header_part [] (b ∷ bs) no_front in
    rw none refl
  where
    no_front : NoLonger header_part [] (b ∷ bs)
    no_front [] rest some e = absurd (some refl)
    no_front (m ∷ ms) rest some e =
        let same : b ≡ m = cc in
        let a : (m == 60) ≡ false = ap (λ k. k == 60) (sym same) ∙ angle in
        let q : (m == 34) ≡ false = ap (λ k. k == 34) (sym same) ∙ quote in
        rw (a, q) refl

-- FROM THE FIRST BYTE OF A TEXT

pub newline_first : (text : List ℕ) → get_or text 0 0 ≡ 10 → first_part false text ≡ (newline, 1)
newline_first [] h = absurd (omega arith)
newline_first (b ∷ bs) h = ap (λ k. first_part false (k ∷ bs)) h ∙ newline_stands bs

pub white_first : (text : List ℕ) → is_white (get_or text 0 0) ≡ true → first_part false text ≡ (white, 1)
white_first [] h = absurd (cc)
white_first (b ∷ bs) h = white_stands b bs h

-- where neither delimiter stands no header name begins
pub no_delimiter : (text : List ℕ) (at : ℕ) → at < length text → opens_header (get_or text at 0) ≡ false
    → first_part true (drop at text) ≡ first_part false (drop at text)
no_delimiter [] at h none = absurd (omega arith)
no_delimiter (b ∷ bs) zero h none = let both = or_parts (b == 60) (b == 34) none in not_begun true b bs both.0 both.1
no_delimiter (b ∷ bs) (suc at) h none = no_delimiter bs at (omega arith) none

-- so it's the same whether or not one is due
pub due_or_not : (text : List ℕ) (at : ℕ) (due : Bool) → at < length text → opens_header (get_or text at 0) ≡ false
    → first_part due (drop at text) ≡ first_part false (drop at text)
due_or_not text at true below none = no_delimiter text at below none
due_or_not text at false below none = refl

-- a byte that passes a test which both delimiters fail is neither
pub opens_none : (test : ℕ → Bool) (b : ℕ) → test b ≡ true → test 60 ≡ false → test 34 ≡ false → opens_header b ≡ false
opens_none test b passes angle quote =
    let a : (b == 60) ≡ false = apart test b 60 passes angle in
    let q : (b == 34) ≡ false = apart test b 34 passes quote in
    rw (a, q) refl

pub delimiter_is : (b : ℕ) → opens_header b ≡ true → (b ≡ 60) ⊎ (b ≡ 34)
delimiter_is b h =
    elim (or_cases (b == 60) (b == 34) h) [
      | inl e ↦ inl (eqb-true b 60 e)
      | inr e ↦ inr (eqb-true b 34 e)
    ]
