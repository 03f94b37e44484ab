-- Whether a header name is due, word by word.
use Rattle.std.specs.Prelude.{◌≡◌, ℕ, Bool, true, false, cond, ◌&&◌, ◌||◌, List, [], ◌∷◌, ◌++◌, codes, bytes_eq, refl, ◌⊎◌}
use Rattle.std.proofs.Common.{sym, ◌∙◌, ap, inl, inr}
use Rattle.std.proofs.lemmas.Slice.Eq.{bytes_eq-Decides}
use Rattle.pp_tokens.specs.declared.due.Before.{Before}
use Rattle.pp_tokens.specs.declared.due.Before.TheVariants.{Nothing, Hash, Include, Condition, Probe, Probed, Other}
use Rattle.pp_tokens.specs.Lines.{spells_hash, ends_with_probe, header_due}
use Rattle.pp_tokens.specs.parts.Text.{after_word, is_due}

-- what stands on a line with these words more
unfoldable pub after_words : Before → List (List ℕ) → Before
after_words before [] = before
after_words before (w ∷ ws) = after_words (after_word before w) ws

pub one_word_more : (before : Before) (ws : List (List ℕ)) (w : List ℕ) → after_words before (ws ++ (w ∷ [])) ≡ after_word (after_words before ws) w
unfolding after_words
one_word_more before [] w = refl
one_word_more before (v ∷ ws) w = one_word_more (after_word before v) ws w

other_stays : (ws : List (List ℕ)) → after_words Other ws ≡ Other
unfolding after_words after_word
other_stays [] = refl
other_stays (w ∷ ws) = other_stays ws

-- within a condition: what stands there says whether its last word is `__has_include`
abbrev Within : Before → List ℕ → Type 0
Within s w = (s ≡ cond (bytes_eq w (codes "__has_include")) Probe Condition) ⊎ ((s ≡ Probed) × (bytes_eq w (codes "__has_include") ≡ false))

abbrev opens : List ℕ → Bool
opens w = bytes_eq w (codes "(")

abbrev probes : List ℕ → Bool
probes w = bytes_eq w (codes "__has_include")

abbrev from_condition : List ℕ → Before
from_condition w = cond (probes w) Probe Condition

-- a word that opens is no `__has_include`
opens_no_probe : (w : List ℕ) → opens w ≡ true → probes w ≡ false
opens_no_probe w h = ap probes ((bytes_eq-Decides w (codes "(")).0 h)

-- one word more within a condition
within_step : (s : Before) (a b : List ℕ) → Within s a → Within (after_word s b) b × (is_due (after_word s b) ≡ (probes a && opens b))
unfolding after_word
within_step s a b (inr (is, other)) = rw (is, other) (inl refl, not_due (probes b))
  where
    not_due : (t : Bool) → is_due (cond t Probe Condition) ≡ false
    not_due true = refl
    not_due false = refl
within_step s a b (inl is) = by_test (probes a) refl (opens b) refl
  where
    not_due : (t : Bool) → is_due (cond t Probe Condition) ≡ false
    not_due true = refl
    not_due false = refl

    by_test : (t : Bool) → probes a ≡ t → (o : Bool) → opens b ≡ o → Within (after_word s b) b × (is_due (after_word s b) ≡ (probes a && opens b))
    by_test false e o f = let now : s ≡ Condition = is ∙ ap (λ t. cond t Probe Condition) e in rw (now, e) (inl refl, not_due (probes b))
    by_test true e true f =
        let now : s ≡ Probe = is ∙ ap (λ t. cond t Probe Condition) e in
        rw (now, e, f) (inr (refl, opens_no_probe b f), refl)
    by_test true e false f =
        let now : s ≡ Probe = is ∙ ap (λ t. cond t Probe Condition) e in
        rw (now, e, f) (inl refl, not_due (probes b))

within_words : (s : Before) (a b : List ℕ) (ws : List (List ℕ)) → Within s a → is_due (after_words s (b ∷ ws)) ≡ ends_with_probe (a ∷ b ∷ ws)
unfolding after_words
within_words s a b [] h = (within_step s a b h).1
within_words s a b (c ∷ ws) h = within_words (after_word s b) b c ws (within_step s a b h).0

-- behind the first word of a condition
condition_words : (c : List ℕ) (ws : List (List ℕ)) → is_due (after_words Condition (c ∷ ws)) ≡ ends_with_probe (c ∷ ws)
unfolding after_words after_word
condition_words c [] = not_due (probes c)
  where
    not_due : (t : Bool) → is_due (cond t Probe Condition) ≡ false
    not_due true = refl
    not_due false = refl
condition_words c (b ∷ ws) = within_words (after_word Condition c) c b ws (inl refl)

abbrev includes : List ℕ → Bool
includes w = bytes_eq w (codes "include") || bytes_eq w (codes "include_next")

abbrev tests : List ℕ → Bool
tests w = bytes_eq w (codes "if") || bytes_eq w (codes "elif")

includes_no_test : (w : List ℕ) → includes w ≡ true → tests w ≡ false
includes_no_test w h = by_test (bytes_eq w (codes "include")) refl
  where
    by_test : (t : Bool) → bytes_eq w (codes "include") ≡ t → tests w ≡ false
    by_test true e = ap tests ((bytes_eq-Decides w (codes "include")).0 e)
    by_test false e =
        let next : bytes_eq w (codes "include_next") ≡ true = sym (ap (λ t. t || bytes_eq w (codes "include_next")) e) ∙ h in
        ap tests ((bytes_eq-Decides w (codes "include_next")).0 next)

abbrev second : Bool → Bool → Before
second i t = cond i Include (cond t Condition Other)

three_words : (i t : Bool) (c : List ℕ) (ws : List (List ℕ)) → (i ≡ true → t ≡ false) → (t && ends_with_probe (c ∷ ws)) ≡ is_due (after_words (second i t) (c ∷ ws))
unfolding after_words after_word
three_words true true c ws h = absurd (let x : true ≡ false = h refl in cc)
three_words true false c ws h = sym (ap is_due (other_stays ws))
three_words false true c ws h = sym (condition_words c ws)
three_words false false c ws h = sym (ap is_due (other_stays ws))

two_words : (i t : Bool) → i ≡ is_due (second i t)
two_words true t = refl
two_words false true = refl
two_words false false = refl

pub due_is : (ws : List (List ℕ)) → header_due ws ≡ is_due (after_words Nothing ws)
unfolding header_due after_words after_word
due_is [] = refl
due_is (a ∷ []) = by_test (spells_hash a)
  where
    by_test : (t : Bool) → false ≡ is_due (cond t Hash Other)
    by_test true = refl
    by_test false = refl
due_is (a ∷ b ∷ []) = by_test (spells_hash a) refl
  where
    by_test : (t : Bool) → spells_hash a ≡ t → (spells_hash a && includes b) ≡ is_due (after_word (cond (spells_hash a) Hash Other) b)
    by_test true e = rw e (two_words (includes b) (tests b))
    by_test false e = rw e refl
due_is (a ∷ b ∷ c ∷ ws) = by_test (spells_hash a) refl
  where
    by_test : (t : Bool) → spells_hash a ≡ t → (spells_hash a && (tests b && ends_with_probe (c ∷ ws))) ≡ is_due (after_words (after_word (cond (spells_hash a) Hash Other) b) (c ∷ ws))
    by_test true e = rw e (three_words (includes b) (tests b) c ws (includes_no_test b))
    by_test false e = rw e (sym (ap is_due (other_stays ws)))
