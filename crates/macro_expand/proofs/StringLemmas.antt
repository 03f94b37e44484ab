-- The spelling of a literal that `#` makes, token by token.
use Rattle.std.proofs.Common.{◌≡◌, ℕ, ◌+◌, ◌<◌, ◌≤◌, ◌==◌, Bool, true, false, ◌&&◌, ◌||◌, not, List, [], ◌∷◌, ◌++◌, map, length, get_or, drop, drop-cons, add-one, refl, ap, sym, ◌∙◌, if◌then◌else◌, append_assoc, append-nil, drop_of_length-le}
use Rattle.macro_defs.proofs.Fronts.{front_at}
use Rattle.macro_expand.specs.declared.marked.Marked.{Marked as Kept}
use Rattle.macro_expand.specs.Replacement.{escaped, spelling_of, spellings}
use Rattle.macro_expand.specs.Seen.{marked_of}

-- what was put out, before what is left, is the same where the first of what is left is put out
pub grows : {A : Type 0} (out next a rest tail whole : List A) → next ≡ out ++ a → rest ≡ a ++ tail → out ++ rest ≡ whole → next ++ tail ≡ whole
grows out next a rest tail whole made is keeps =
    ap (λ xs. xs ++ tail) made ∙ append_assoc out a tail ∙ ap (λ xs. out ++ xs) (sym is) ∙ keeps

pub nothing_left : {A : Type 0} (out rest whole : List A) → rest ≡ [] → out ++ rest ≡ whole → out ≡ whole
nothing_left out rest whole none keeps = sym (append-nil out) ∙ ap (λ xs. out ++ xs) (sym none) ∙ keeps

pub escaped-here : (bs : List ℕ) (i : ℕ) → i < length bs →
    escaped (drop i bs) ≡ (if (get_or bs i 0 == 92) || (get_or bs i 0 == 34) then 92 ∷ get_or bs i 0 ∷ [] else get_or bs i 0 ∷ []) ++ escaped (drop (i + 1) bs)
unfolding escaped
escaped-here bs i below = let e : drop i bs ≡ get_or bs i 0 ∷ drop (i + 1) bs = rw add-one (drop-cons bs i 0 below) in ap escaped e

pub escaped-done : (bs : List ℕ) (i : ℕ) → length bs ≤ i → escaped (drop i bs) ≡ []
unfolding escaped
escaped-done bs i past = ap escaped (drop_of_length-le bs past)

abbrev pub space_before : Bool → List ℕ
space_before wanted = if wanted then 32 ∷ [] else []

spaced : (b : Bool) (w : List ℕ) → (if b then 32 ∷ w else w) ≡ space_before b ++ w
spaced true w = refl
spaced false w = refl

pub spellings-here : (ts : List Kept) (i : ℕ) (t : Kept) (first : Bool) → i < length ts → t ≡ get_or ts i t →
    spellings first (map marked_of (drop i ts))
    ≡ (space_before (t.token.space && not first) ++ spelling_of t.token) ++ spellings false (map marked_of (drop (i + 1) ts))
unfolding spellings
spellings-here ts i t first below is =
    ap (λ us. spellings first (map marked_of us)) (front_at ts i t below is)
    ∙ ap (λ w. w ++ spellings false (map marked_of (drop (i + 1) ts))) (spaced (t.token.space && not first) (spelling_of t.token))

pub spellings-done : (ts : List Kept) (i : ℕ) (first : Bool) → length ts ≤ i → spellings first (map marked_of (drop i ts)) ≡ []
unfolding spellings
spellings-done ts i first past = ap (λ us. spellings first (map marked_of us)) (drop_of_length-le ts past)

pub two_more : (a b c x y z : List ℕ) → b ≡ a ++ x → c ≡ b ++ y → z ≡ x ++ y → c ≡ a ++ z
two_more a b c x y z p q r = q ∙ ap (λ w. w ++ y) p ∙ append_assoc a x y ∙ ap (λ w. a ++ w) (sym r)
