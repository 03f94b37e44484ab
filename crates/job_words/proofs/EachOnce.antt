-- Texts, each at its first place alone.
use Rattle.std.proofs.Common.{◌≡◌, ℕ, ◌+◌, ◌<◌, ◌≤◌, ◌||◌, if◌then◌else◌, Bool, true, false, cond, bytes_eq, List, [], ◌∷◌, ◌++◌, length, take, get_or, refl, sym, ap, ◌∙◌, arith, length-append}
use Rattle.std.specs.Borrow.{Bor}
use Rattle.std.specs.HashSet.{HashSet, contains_by}
use Rattle.std.specs.List.{list_any}
use Rattle.std.proofs.lemmas.Cmp.{nat_list_eq_equiv}
use Rattle.std.proofs.lemmas.List.{take_more}
use Rattle.std.proofs.lemmas.List.Folds.{list_any-append}
use Rattle.tree_model.specs.Paths.{Text}
use Rattle.job_words.specs.Words.{add_once, each_once_behind, each_once}
use Rattle.job_words.specs.parts.Told.{HasTexts}

-- one text more
pub each_once_behind-append : (before texts : List Text) (text : Text) → each_once_behind before (texts ++ text ∷ []) ≡ add_once (each_once_behind before texts) text
unfolding each_once_behind
each_once_behind-append before [] text = refl
each_once_behind-append before (first ∷ texts) text = each_once_behind-append (add_once before first) texts text

add_once-length : (before : List Text) (text : Text) (test : Bool) → length (if test then before else before ++ text ∷ []) ≤ length before + 1
add_once-length before text true = omega arith
add_once-length before text false = omega (arith, length-append before (text ∷ []))

each_once_behind-length : (before texts : List Text) → length (each_once_behind before texts) ≤ length before + length texts
unfolding each_once_behind
each_once_behind-length before [] = omega arith
each_once_behind-length before (text ∷ texts) =
    let one = add_once-length before text (list_any (λ other. bytes_eq text other) before) in
    let rest = each_once_behind-length (add_once before text) texts in
    omega (arith, one, rest)

-- no more texts than there were
pub each_once-length : (texts : List Text) → length (each_once texts) ≤ length texts
each_once-length texts = omega (arith, each_once_behind-length [] texts)

-- a set and a list, with one text more
pub one-more : {S : Type 0} (old new : HashSet (Bor Text) S) (key : Bor Text) (texts : List Text) → HasTexts old texts
    → ((q : Bor Text) → contains_by (λ other. bytes_eq q.now other.now) new ≡ cond (bytes_eq key.now q.now) true (contains_by (λ other. bytes_eq q.now other.now) old))
    → HasTexts new (texts ++ key.now ∷ [])
one-more old new key texts has updates text =
    updates (record { ref_ptr = (0, 0); now = text })
    ∙ (ap (λ b. cond (bytes_eq key.now text) true b) (has text) ∙ ap (λ b. cond b true (list_any (λ other. bytes_eq text other) texts)) (nat_list_eq_equiv.symm key.now text))
    ∙ (either (bytes_eq text key.now) (list_any (λ other. bytes_eq text other) texts) ∙ sym (list_any-append (λ other. bytes_eq text other) texts (key.now ∷ [])))
  where
    either : (a b : Bool) → cond a true b ≡ (b || (a || false))
    either true true = refl
    either true false = refl
    either false true = refl
    either false false = refl

-- the text at a place, behind those in front of it
pub each_once-more : (texts : List Text) (i : ℕ) (text d : Text) (list more : List Text) → i < length texts → text ≡ get_or texts i d → list ≡ each_once (take i texts) → more ≡ add_once list text → more ≡ each_once (take (i + 1) texts)
each_once-more texts i text d list more within is before added =
    added
    ∙ ap (λ l. add_once l text) before
    ∙ ap (add_once (each_once (take i texts))) is
    ∙ sym (ap each_once (take_more texts i d within) ∙ each_once_behind-append [] (take i texts) (get_or texts i d))
