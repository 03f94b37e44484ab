-- Punctuators that are no front of a longer one, and a `#` that stands alone.
use Rattle.std.specs.Prelude.{◌≡◌, ℕ, ◌<◌, Bool, true, false, cond, not, List, [], ◌∷◌, length, get_or, refl, ◌==◌, codes, ◌||◌}
use Rattle.std.specs.List.{list_all, list_any}
use Rattle.std.proofs.Common.{sym, ◌∙◌, ap, subst, arith, length-drop, drop, take, ◌+◌}
use Rattle.std.proofs.lemmas.List.{get_or-drop}
use Rattle.std.proofs.lemmas.Bool.{eqb-true, and_parts, and_right}
use Rattle.pp_tokens.specs.declared.token.Kind.TheVariants.{Punct, Other}
use Rattle.pp_tokens.specs.Grammar.{is_white, is_newline, is_identifier_start}
use Rattle.pp_tokens.specs.Lines.{Part, token, first_part, spells_hash}
use Rattle.pp_tokens.specs.Plain.{is_text_mark}
use Rattle.pp_tokens.specs.parts.Text.{is_quote, begins_number, begins_comment, is_single, is_pair, is_triple, is_quadruple, takes_equals, is_doubled, is_mixed, is_second}
use Rattle.pp_tokens.proofs.MarkLemmas.{Mark, alone_first, punctuator_first, short_mark}

-- what holds of each of these bytes holds of one of them
of_each : (test : ℕ → Bool) (a : ℕ) (ks : List ℕ) → list_all test ks ≡ true → list_any (λ m. a == m) ks ≡ true → test a ≡ true
of_each test a [] all h = absurd (cc)
of_each test a (k ∷ ks) all h = by_test (a == k) refl (of_each test a ks (and_parts _ _ all).1)
  where
    by_test : (t : Bool) → (a == k) ≡ t → (list_any (λ m. a == m) ks ≡ true → test a ≡ true) → test a ≡ true
    by_test true e later = subst (λ b. test b ≡ true) (sym (eqb-true a k e)) (and_parts _ _ all).0
    by_test false e later = later (ap (λ t. t || list_any (λ m. a == m) ks) (sym e) ∙ h)

-- a test that each of these punctuators fails
fails : (test : ℕ → Bool) (a : ℕ) → list_all (λ k. not (test k)) (codes ";,(){}[]") ≡ true → is_text_mark a ≡ true → test a ≡ false
fails test a all h = not_holds (test a) (of_each (λ k. not (test k)) a (codes ";,(){}[]") all h)
  where
    not_holds : (t : Bool) → not t ≡ true → t ≡ false
    not_holds false h = refl
    not_holds true h = absurd (cc)

mark : (a c : ℕ) → is_text_mark a ≡ true → Mark a c
mark a c h = record {
  white = fails is_white a refl h;
  newline = fails is_newline a refl h;
  word = fails is_identifier_start a refl h;
  quote = fails is_quote a refl h;
  number = fails (λ k. begins_number k c) a refl h;
  comment = fails (λ k. begins_comment k c) a refl h;
}

no_pair : (a b : ℕ) → is_text_mark a ≡ true → is_pair a b ≡ false
no_pair a b h =
    let equals : takes_equals a ≡ false = fails takes_equals a refl h in
    let doubled : is_doubled a ≡ false = fails is_doubled a refl h in
    let mixed : is_mixed a b ≡ false = fails (λ k. is_mixed k b) a refl h in
    rw (and_right (b == 61) _ equals, and_right (b == a) _ doubled, mixed) refl

-- such a punctuator stands alone in front of any text
text_mark_first : (text : List ℕ) → 0 < length text → is_text_mark (get_or text 0 0) ≡ true → first_part false text ≡ (token Punct, 1)
text_mark_first text some h =
    let a = get_or text 0 0 in
    let b = get_or text 1 0 in
    let c = get_or text 2 0 in
    let d = get_or text 3 0 in
    let single : is_single a ≡ true = of_each is_single a (codes ";,(){}[]") refl h in
    alone_first text some (mark a b h) (fails (λ k. is_quadruple k b c d) a refl h) (fails (λ k. is_triple k b c) a refl h) (no_pair a b h)
    ∙ ap (λ t. (token (cond t Punct Other), 1)) single

-- the same from a place on
pub text_mark_at : (text : List ℕ) (at : ℕ) → at < length text → is_text_mark (get_or text at 0) ≡ true → first_part false (drop at text) ≡ (token Punct, 1)
text_mark_at text at below h =
    let still : at + 0 ≡ at = omega arith in
    let first : get_or (drop at text) 0 0 ≡ get_or text at 0 = get_or-drop at text 0 0 ∙ ap (λ i. get_or text i 0) still in
    text_mark_first (drop at text) (omega (arith, length-drop at text, below)) (ap is_text_mark first ∙ h)

-- A `#`

hash_mark : (b : ℕ) → Mark 35 b
hash_mark b = record { white = refl; newline = refl; word = refl; quote = refl; number = refl; comment = refl }

-- it stands alone in front of what begins with no second byte of a punctuator
hash_first : (text : List ℕ) → 0 < length text → get_or text 0 0 ≡ 35 → is_second (get_or text 1 0) ≡ false → first_part false text ≡ (token Punct, 1)
hash_first text some is alone =
    let a = get_or text 0 0 in
    let b = get_or text 1 0 in
    punctuator_first text some (subst (λ h. Mark h b) (sym is) (hash_mark b)) (ap is_single is)
    ∙ ap {B = Part × ℕ} (λ n. (token Punct, n)) (short_mark a b (get_or text 2 0) (get_or text 3 0) alone)

pub hash_at : (text : List ℕ) (at : ℕ) → at < length text → get_or text at 0 ≡ 35 → is_second (get_or text (at + 1) 0) ≡ false → first_part false (drop at text) ≡ (token Punct, 1)
hash_at text at below is alone =
    let still : at + 0 ≡ at = omega arith in
    let first : get_or (drop at text) 0 0 ≡ get_or text at 0 = get_or-drop at text 0 0 ∙ ap (λ i. get_or text i 0) still in
    hash_first (drop at text) (omega (arith, length-drop at text, below)) (first ∙ is) (ap is_second (get_or-drop at text 1 0) ∙ alone)

one_byte : (xs : List ℕ) → 0 < length xs → take 1 xs ≡ get_or xs 0 0 ∷ []
one_byte [] some = absurd (omega (arith, some))
one_byte (b ∷ bs) some = refl

pub hash_spelled : (text : List ℕ) (at : ℕ) → at < length text → get_or text at 0 ≡ 35 → spells_hash (take 1 (drop at text)) ≡ true
hash_spelled text at below is =
    let still : at + 0 ≡ at = omega arith in
    let first : get_or (drop at text) 0 0 ≡ get_or text at 0 = get_or-drop at text 0 0 ∙ ap (λ i. get_or text i 0) still in
    ap spells_hash (one_byte (drop at text) (omega (arith, length-drop at text, below)) ∙ ap (λ b. b ∷ []) (first ∙ is))
