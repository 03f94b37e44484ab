-- Tokens that the bytes tell with which they begin: words, and the names of directives of which nothing is kept.
use Rattle.std.specs.Prelude.{◌≡◌, ℕ, suc, zero, ◌+◌, ◌≤◌, ◌<◌, Bool, true, false, not, ◌&&◌, ◌||◌, List, [], ◌∷◌, length, take, drop, get_or, ◌==◌, Option, Some, None, option_map, refl}
use Rattle.std.specs.Char.{is_newline}
use Rattle.std.proofs.Common.{sym, ◌∙◌, ap, arith, subst, inl, inr, length-drop}
use Rattle.std.proofs.lemmas.List.{get_or-drop}
use Rattle.pp_tokens.specs.declared.token.Kind.{Kind}
use Rattle.pp_tokens.specs.declared.token.Kind.TheVariants.{Header}
use Rattle.pp_tokens.specs.Grammar.{is_identifier_start, is_white, kind_of}
use Rattle.pp_tokens.specs.DirectiveLines.{may_tell}
use Rattle.pp_tokens.specs.Lines.{Part, token, part_of, is_one, first_part, spells_hash}
use Rattle.pp_tokens.specs.parts.Gathered.{IsPart}
use Rattle.pp_tokens.specs.parts.TextLines.{begins_idle, FirstToken, IsIdleName, IsText}
use Rattle.pp_tokens.proofs.FirstBytes.{apart, no_comment, no_open_comment}
use Rattle.pp_tokens.proofs.LexSteps.{first_fits, part_at}

-- WORDS

no_newline : (b : ℕ) (u : List ℕ) → is_identifier_start b ≡ true → is_one is_newline (b ∷ u) ≡ false
no_newline b [] start = apart is_identifier_start b 10 start refl
no_newline b (c ∷ u) start = refl

no_white : (b : ℕ) (u : List ℕ) → is_identifier_start b ≡ true → is_one is_white (b ∷ u) ≡ false
no_white b [] start =
    let w1 : (b == 32) ≡ false = apart is_identifier_start b 32 start refl in
    let w2 : (b == 9) ≡ false = apart is_identifier_start b 9 start refl in
    let w3 : (b == 11) ≡ false = apart is_identifier_start b 11 start refl in
    let w4 : (b == 12) ≡ false = apart is_identifier_start b 12 start refl in
    let w5 : (b == 13) ≡ false = apart is_identifier_start b 13 start refl in
    rw (w1, w2, w3, w4, w5) refl
no_white b (c ∷ u) start = refl

-- what begins as an identifier does is a token
word_token : (b : ℕ) (u : List ℕ) (p : Part) → is_identifier_start b ≡ true → part_of (b ∷ u) ≡ Some p → (k : Kind) × (p ≡ token k)
unfolding part_of
word_token b u p start is =
    let slash : (b == 47) ≡ false = apart is_identifier_start b 47 start refl in
    by_kind (kind_of (b ∷ u)) (sym (rw (no_newline b u start, no_white b u start, no_comment b u slash, no_open_comment b u slash) refl) ∙ is)
  where
    by_kind : (o : Option Kind) → option_map token o ≡ Some p → (k : Kind) × (p ≡ token k)
    by_kind None e = absurd (cc)
    by_kind (Some k) e = (k, (let same : p ≡ token k = cc in same))

-- the first bytes of a text
front_byte : (n : ℕ) (xs : List ℕ) → 0 < n → 0 < length xs → (u : List ℕ) × (take n xs ≡ get_or xs 0 0 ∷ u)
front_byte zero xs some more = absurd (omega (arith, some))
front_byte (suc n) [] some more = absurd (omega (arith, more))
front_byte (suc n) (b ∷ bs) some more = (take n bs, refl)

-- a token, and what it begins with
record Begun (text : List ℕ) (at : ℕ) : Type 0 where
  token : FirstToken text at
  some : 0 < token.size
  within : at + token.size ≤ length text
  more : List ℕ
  spelled : take token.size (drop at text) ≡ get_or text at 0 ∷ more

begun : (text : List ℕ) (at : ℕ) → at < length text → is_identifier_start (get_or text at 0) ≡ true → Begun text at
begun text at below start =
    let xs = drop at text in
    let found = first_part false xs in
    let size = first_fits text at false found.0 found.1 below refl in
    let still : at + 0 ≡ at = omega arith in
    let first : get_or xs 0 0 ≡ get_or text at 0 = get_or-drop at text 0 0 ∙ ap (λ i. get_or text i 0) still in
    let front = front_byte found.1 xs size.0 (omega (arith, length-drop at text, below)) in
    let spelled : take found.1 xs ≡ get_or text at 0 ∷ front.0 = front.1 ∙ ap (λ b. b ∷ front.0) first in
    let is = told found.0 (get_or text at 0) front.0 start (subst (IsPart found.0) spelled (part_at text at false found.0 found.1 below refl)) in
    record {
      token = record { kind = is.0; size = found.1; within = below; first = ap {B = Part × ℕ} (λ p. (p, found.1)) is.1 };
      some = size.0;
      within = size.1;
      more = front.0;
      spelled = spelled;
    }
  where
    told : (p : Part) (b : ℕ) (u : List ℕ) → is_identifier_start b ≡ true → IsPart p (b ∷ u) → (k : Kind) × (p ≡ token k)
    told p b u start (inl is) = word_token b u p start is
    told p b u start (inr header) = (Header, header.0)

-- it begins a line of text
pub word_is_text : (text : List ℕ) (at : ℕ) → at < length text → is_identifier_start (get_or text at 0) ≡ true → IsText text at
word_is_text text at below start =
    let t = begun text at below start in
    let b = get_or text at 0 in
    let hash : (b == 35) ≡ false = apart is_identifier_start b 35 start refl in
    let percent : (b == 37) ≡ false = apart is_identifier_start b 37 start refl in
    (t.token, ap spells_hash t.spelled ∙ rw (hash, percent) refl)

-- NAMES

no_and : (t : Bool) → (t && false) ≡ false
no_and true = refl
no_and false = refl

-- one byte is none of those names
told_by_one : (a : ℕ) → may_tell (a ∷ []) ≡ false
told_by_one a = λ k. ((no_and (a == 105) k || no_and (a == 105) k) || (no_and (a == 105) k || no_and (a == 101) k)) || no_and (a == 108) k

told_by_two : (a b : ℕ) (u : List ℕ) → begins_idle a b ≡ true → may_tell (a ∷ b ∷ u) ≡ false
told_by_two a b u h = by_test (a == 105) refl (a == 108) refl (a == 101) refl (b == 108) refl h
  where
    by_test : (i : Bool) → (a == 105) ≡ i → (l : Bool) → (a == 108) ≡ l → (e : Bool) → (a == 101) ≡ e → (s : Bool) → (b == 108) ≡ s
        → not (i || (l || (e && s))) ≡ true → may_tell (a ∷ b ∷ u) ≡ false
    by_test true ei l el e ee s es h = absurd (cc)
    by_test false ei true el e ee s es h = absurd (cc)
    by_test false ei false el true ee true es h = absurd (cc)
    by_test false ei false el true ee false es h = rw (ei, el, ee, es) refl
    by_test false ei false el false ee s es h = rw (ei, el, ee) refl

told_by_front : (n : ℕ) (xs : List ℕ) → 0 < n → n ≤ length xs → begins_idle (get_or xs 0 0) (get_or xs 1 0) ≡ true → may_tell (take n xs) ≡ false
told_by_front zero xs some within h = absurd (omega (arith, some))
told_by_front (suc n) [] some within h = absurd (omega (arith, within))
told_by_front (suc zero) (a ∷ bs) some within h = told_by_one a
told_by_front (suc (suc n)) (a ∷ []) some within h = absurd (omega (arith, within))
told_by_front (suc (suc n)) (a ∷ b ∷ bs) some within h = told_by_two a b (take n bs) h

-- the first two bytes tell that a name is idle
pub idle_begun : (text : List ℕ) (at : ℕ) → at < length text → is_identifier_start (get_or text at 0) ≡ true → begins_idle (get_or text at 0) (get_or text (at + 1) 0) ≡ true
    → IsIdleName text at
idle_begun text at below start h =
    let t = begun text at below start in
    let xs = drop at text in
    let still : at + 0 ≡ at = omega arith in
    let first : get_or xs 0 0 ≡ get_or text at 0 = get_or-drop at text 0 0 ∙ ap (λ i. get_or text i 0) still in
    let second : get_or xs 1 0 ≡ get_or text (at + 1) 0 = get_or-drop at text 1 0 in
    (t.token, told_by_front t.token.size xs t.some (omega (arith, t.within, length-drop at text)) ((λ i. begins_idle (first i) (second i)) ∙ h))
