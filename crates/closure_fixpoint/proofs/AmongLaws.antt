-- A search by halves among texts in order.
use Rattle.std.proofs.Common.{◌≡◌, ◌⊎◌, ◌<◌, ◌≤◌, ◌+◌, ℕ, zero, suc, List, [], ◌∷◌, length, Some, refl, sym, ap, subst, ◌∙◌, inl, inr, arith, get_or}
use Rattle.std.specs.List.{slice_get, Contains, AllByRecursion}
use Rattle.std.specs.List.Sorted.{IsStrictlySortedBy}
use Rattle.std.specs.Ordering.{ordering_reverse}
use Rattle.std.specs.declared.cmp.Ordering.{Ordering}
use Rattle.std.specs.declared.cmp.Ordering.TheVariants.{Less, Equal, Greater}
use Rattle.std.proofs.lemmas.Bool.{cases_order}
use Rattle.std.proofs.lemmas.Cmp.{nat_list_cmp_total, tied_itself}
use Rattle.std.proofs.lemmas.Option.{slice_get_read, slice_get_within}
use Rattle.symbolic_expand.specs.Texts.{text_cmp}
use Rattle.tree_model.specs.Paths.{Text}

-- each place of a name lies between two
abbrev pub IsBetween : List Text → Text → ℕ → ℕ → Type 0
IsBetween names name low high = (k : ℕ) → slice_get names k ≡ Some name → (low ≤ k) × (k < high)

all_at : (P : Text → Type 0) (names : List Text) → AllByRecursion P names → (k : ℕ) (x : Text) → slice_get names k ≡ Some x → P x
all_at P [] all k x is = absurd (cc)
all_at P (y ∷ names) all zero x is = let same : y ≡ x = cc in subst P same all.0
all_at P (y ∷ names) all (suc k) x is = all_at P names all.1 k x is

in_order : (names : List Text) → IsStrictlySortedBy text_cmp names → (i j : ℕ) (x y : Text) → i < j → slice_get names i ≡ Some x → slice_get names j ≡ Some y → text_cmp x y ≡ Less
unfolding IsStrictlySortedBy
in_order [] sorted i j x y below p q = absurd (cc)
in_order (z ∷ names) sorted zero zero x y below p q = absurd (omega (arith, below))
in_order (z ∷ names) sorted zero (suc j) x y below p q =
    let same : z ≡ x = cc in
    subst (λ (w : Text). text_cmp w y ≡ Less) same (all_at (λ w. text_cmp z w ≡ Less) names sorted.0 j y q)
in_order (z ∷ names) sorted (suc i) zero x y below p q = absurd (omega (arith, below))
in_order (z ∷ names) sorted (suc i) (suc j) x y below p q = in_order names sorted.1 i j x y (omega (arith, below)) p q

less_not_equal : Less ≡ Equal → ⊥
less_not_equal is = absurd (cc)

greater_not_equal : Greater ≡ Equal → ⊥
greater_not_equal is = absurd (cc)

greater_not_less : Greater ≡ Less → ⊥
greater_not_less is = absurd (cc)

-- what compares so is neither the same nor on the other side
not_same : (x y : Text) (o : Ordering) → text_cmp x y ≡ o → (o ≡ Equal → ⊥) → x ≡ y → ⊥
not_same x y o is other same = other (sym is ∙ ap (λ (w : Text). text_cmp w y) same ∙ tied_itself nat_list_cmp_total y)

not_both : (x y : Text) → text_cmp x y ≡ Less → text_cmp y x ≡ Less → ⊥
not_both x y below above = greater_not_less (sym (nat_list_cmp_total.antisymm x y ∙ ap ordering_reverse above) ∙ below)

turned : (x y : Text) → text_cmp x y ≡ Greater → text_cmp y x ≡ Less
turned x y is = nat_list_cmp_total.antisymm y x ∙ ap ordering_reverse is

some_same : (names : List Text) (k : ℕ) (x y : Text) → slice_get names k ≡ Some x → slice_get names k ≡ Some y → x ≡ y
some_same names k x y p q = cc

-- the half behind a name that is less
pub upper_half : (names : List Text) (name : Text) (low high middle : ℕ) (x : Text) → IsStrictlySortedBy text_cmp names → middle < length names → x ≡ get_or names middle x → text_cmp x name ≡ Less
    → IsBetween names name low high → IsBetween names name (middle + 1) high
upper_half names name low high middle x sorted within is less between k there = go (cases_order k middle)
  where
    here : slice_get names middle ≡ Some x
    here = slice_get_read names (length names) middle x refl within is

    go : (k ≡ middle) ⊎ ((k < middle) ⊎ (middle < k)) → (middle + 1 ≤ k) × (k < high)
    go (inl same) = absurd (not_same x name Less less less_not_equal (some_same names middle x name here (subst (λ (n : ℕ). slice_get names n ≡ Some name) same there)))
    go (inr (inl before)) = absurd (not_both name x (in_order names sorted k middle name x before there here) less)
    go (inr (inr behind)) = (omega (arith, behind), (between k there).1)

-- the half before a name that is greater
pub lower_half : (names : List Text) (name : Text) (low high middle : ℕ) (x : Text) → IsStrictlySortedBy text_cmp names → middle < length names → x ≡ get_or names middle x → text_cmp x name ≡ Greater
    → IsBetween names name low high → IsBetween names name low middle
lower_half names name low high middle x sorted within is greater between k there = go (cases_order k middle)
  where
    here : slice_get names middle ≡ Some x
    here = slice_get_read names (length names) middle x refl within is

    go : (k ≡ middle) ⊎ ((k < middle) ⊎ (middle < k)) → (low ≤ k) × (k < middle)
    go (inl same) = absurd (not_same x name Greater greater greater_not_equal (some_same names middle x name here (subst (λ (n : ℕ). slice_get names n ≡ Some name) same there)))
    go (inr (inl before)) = ((between k there).0, before)
    go (inr (inr behind)) = absurd (not_both x name (in_order names sorted middle k x name behind here there) (turned x name greater))

pub all_between : (names : List Text) (name : Text) → IsBetween names name 0 (length names)
all_between names name k there = (omega arith, slice_get_within names k name there)

pub none_between : (names : List Text) (name : Text) (low high : ℕ) → high ≤ low → IsBetween names name low high → Contains names name → ⊥
none_between names name low high past between (k, below, is) =
    let at = between k (slice_get_read names (length names) k name refl below (sym is)) in absurd (omega (arith, past, at.0, at.1))
