-- Paths and those above them, and paths in order, each once.
use Rattle.std.proofs.Common.{◌≡◌, ◌<◌, ◌≤◌, ℕ, suc, List, [], ◌∷◌, ◌++◌, length, get_or, Bool, true, false, not, ◌&&◌, cond, refl, sym, ◌∙◌, ap, subst, arith, inl, inr, ◌⊎◌, Bor}
use Rattle.std.specs.Prelude.{All, IsTrue, ◌↔◌}
use Rattle.std.specs.List.{list_all, AllByRecursion}
use Rattle.std.specs.List.Sorted.{IsSortedBy, IsPermutation}
use Rattle.std.specs.Cmp.{IsStrictWeakOrder}
use Rattle.std.specs.Ordering.{nat_cmp, is_lt, ordering_reverse}
use Rattle.std.specs.declared.cmp.Ordering.{Ordering}
use Rattle.std.specs.declared.cmp.Ordering.TheVariants.{Less, Equal, Greater}
use Rattle.std.specs.Cmp.Lexicographic.{slice_cmp}
use Rattle.std.proofs.lemmas.Bool.{and_parts, and_from}
use Rattle.std.proofs.lemmas.Cmp.{nat_list_cmp_total}
use Rattle.std.proofs.lemmas.Map.Lookups.{exact_bytes}
use Rattle.std.proofs.lemmas.List.MinMax.{ranks_by}
use Rattle.std.proofs.lemmas.List.Sorted.{sorted_far, All-permutation, IsPermutation-sym}
use Rattle.std.proofs.lemmas.List.Elements.{All-from_recursion, recursion_from_All}
use Rattle.std.specs.Fn.{ComparesAs, Called, Mut}
use Rattle.std.proofs.lemmas.Fn.{always_returns_same}
use Rattle.base_types.specs.Members.{Member}
use Rattle.tree_model.specs.Paths.{Text, Path, spelled, IsCanonical}
use Rattle.tree_model.specs.Laws.{SpellingsAreApart}
use Rattle.tree_model.proofs.MemberLemmas.{Member-append, Member-append_left, Member-append_right}
use Rattle.closure_fixpoint.specs.Gathering.{comes_before, are_rising, is_repeated, unless_repeated, paths_once}
use Rattle.closure_fixpoint.proofs.MemberLaws.{test-all}

-- MEMBERS

pub each-member : {X : Type 0} (P : X → Type 0) (xs : List X) → AllByRecursion P xs → (x : X) → Member x xs → P x
each-member P [] all x m = elim m [ ]
each-member P (y ∷ xs) all x (inl e) = subst P e all.0
each-member P (y ∷ xs) all x (inr m) = each-member P xs all.1 x m

pub all-members : {X : Type 0} (P : X → Type 0) (xs : List X) → ((x : X) → Member x xs → P x) → AllByRecursion P xs
all-members P [] each = tt
all-members P (y ∷ xs) each = (each y (inl refl), all-members P xs (λ x m. each x (inr m)))

pub at-member : {X : Type 0} (P : X → Type 0) (xs : List X) → All P xs → (x : X) → Member x xs → P x
at-member P xs all = each-member P xs (recursion_from_All P xs all)

-- what a permutation has
pub moved-member : {X : Type 0} (xs ys : List X) → IsPermutation xs ys → (x : X) → Member x xs → Member x ys
moved-member xs ys moved x m =
    at-member (λ y. Member y ys) xs (All-permutation (λ y. Member y ys) ys xs (IsPermutation-sym xs ys moved) (All-from_recursion (λ y. Member y ys) ys (all-members (λ y. Member y ys) ys (λ y n. n)))) x m

-- PATHS ABOVE

-- ORDER

pub in_order : IsStrictWeakOrder comes_before
in_order = ranks_by nat_list_cmp_total spelled

abbrev cmp : Text → Text → Ordering
cmp = slice_cmp nat_cmp

neither-equal : (o : Ordering) → is_lt o ≡ false → is_lt (ordering_reverse o) ≡ false → o ≡ Equal
neither-equal Less e f = cc
neither-equal Equal e f = refl
neither-equal Greater e f = cc

-- canonical paths of which neither comes before the other are one
pub same-place : SpellingsAreApart → (a b : Path) → IsCanonical a → IsCanonical b → comes_before a b ≡ false → comes_before b a ≡ false → a ≡ b
same-place apart a b ca cb e f =
    let turned : cmp (spelled b) (spelled a) ≡ ordering_reverse (cmp (spelled a) (spelled b)) = nat_list_cmp_total.antisymm (spelled b) (spelled a) in
    apart a b ca cb (exact_bytes (spelled a) (spelled b) (neither-equal (cmp (spelled a) (spelled b)) e (ap is_lt (sym turned) ∙ f)))

-- each path comes before none of those in front of it
abbrev pub IsUp : List Path → Type 0
IsUp [] = Unit {0}
IsUp (path ∷ paths) = ((other : Path) → Member other paths → comes_before other path ≡ false) × IsUp paths

member-place : (xs : List Path) (x d : Path) → Member x xs → (k : ℕ) × (k < length xs) × (get_or xs k d ≡ x)
member-place [] x d m = elim m [ ]
member-place (y ∷ xs) x d (inl e) = (0, omega arith, e)
member-place (y ∷ xs) x d (inr m) = let there = member-place xs x d m in (suc there.0, omega (arith, there.1), there.2)

up-from : (xs : List Path) → ((i j : ℕ) (d : Path) → i ≤ j → j < length xs → comes_before (get_or xs j d) (get_or xs i d) ≡ false) → IsUp xs
up-from [] h = tt
up-from (x ∷ xs) h = (first, up-from xs (λ i j d p q. h (suc i) (suc j) d (omega arith) (omega arith)))
  where
    first : (other : Path) → Member other xs → comes_before other x ≡ false
    first other m =
        let there = member-place xs other x m in
        subst (λ (o : Path). comes_before o x ≡ false) there.2 (h 0 (suc there.0) x (omega arith) (omega (arith, there.1)))

pub up-sorted : (xs : List Path) → IsSortedBy comes_before xs → IsUp xs
up-sorted xs sorted = up-from xs (sorted_far comes_before in_order xs sorted)

-- EACH ONCE

unless_repeated-member : (x path : Path) (behind : List Path) → Member x (unless_repeated path behind) → x ≡ path
unless_repeated-member x path behind m = by_test (is_repeated path behind) m
  where
    by_test : (b : Bool) → Member x (cond b [] (path ∷ [])) → x ≡ path
    by_test true m = elim m [ ]
    by_test false (inl e) = sym e
    by_test false (inr m) = elim m [ ]

pub once-of : (x : Path) (xs : List Path) → Member x (paths_once xs) → Member x xs
once-of x [] m = m
once-of x (y ∷ xs) m = by_part (Member-append x (unless_repeated y xs) (paths_once xs) m) (once-of x xs)
  where
    by_part : Member x (unless_repeated y xs) ⊎ Member x (paths_once xs) → (Member x (paths_once xs) → Member x xs) → Member x (y ∷ xs)
    by_part (inl k) rest = inl (sym (unless_repeated-member x y xs k))
    by_part (inr k) rest = inr (rest k)

module _ (apart : SpellingsAreApart) where
  -- a path that is repeated is the next one
  repeated-next : (y : Path) (xs : List Path) → IsUp (y ∷ xs) → ((x : Path) → Member x (y ∷ xs) → IsCanonical x) → is_repeated y xs ≡ true → Member y xs
  repeated-next y [] up each e = cc
  repeated-next y (z ∷ xs) up each e = inl (sym (same-place apart y z (each y (inl refl)) (each z (inr (inl refl))) (not_before (comes_before y z) e) (up.0 z (inl refl))))
    where
      not_before : (b : Bool) → not b ≡ true → b ≡ false
      not_before true e = cc
      not_before false e = refl

  pub of-once : (xs : List Path) → IsUp xs → ((x : Path) → Member x xs → IsCanonical x) → (x : Path) → Member x xs → Member x (paths_once xs)
  of-once [] up each x m = m
  of-once (y ∷ xs) up each x m = by_part m (is_repeated y xs) refl (of-once xs up.1 (λ w n. each w (inr n)))
    where
      by_part : Member x (y ∷ xs) → (b : Bool) → is_repeated y xs ≡ b → ((w : Path) → Member w xs → Member w (paths_once xs)) → Member x (unless_repeated y xs ++ paths_once xs)
      by_part (inr n) b e rest = Member-append_right x (unless_repeated y xs) (paths_once xs) (rest x n)
      by_part (inl same) true e rest = Member-append_right x (unless_repeated y xs) (paths_once xs) (rest x (subst (λ (w : Path). Member w xs) same (repeated-next y xs up each e)))
      by_part (inl same) false e rest = Member-append_left x (unless_repeated y xs) (paths_once xs) (subst (λ (b : Bool). Member x (cond b [] (y ∷ []))) (sym e) (inl same))

all-before : (y : Path) (xs : List Path) → ((x : Path) → Member x xs → comes_before y x ≡ true) → list_all (λ other. comes_before y other) xs ≡ true
all-before y [] each = refl
all-before y (x ∷ xs) each = both (comes_before y x) (list_all (λ other. comes_before y other) xs) (each x (inl refl)) (all-before y xs (λ w m. each w (inr m)))
  where
    both : (a b : Bool) → a ≡ true → b ≡ true → (a && b) ≡ true
    both true b ea eb = eb
    both false b ea eb = cc

-- a path that isn't repeated comes before all in front of it
before-all : (y : Path) (xs : List Path) → IsUp xs → is_repeated y xs ≡ false → (x : Path) → Member x xs → comes_before y x ≡ true
before-all y [] up e x m = elim m [ ]
before-all y (z ∷ xs) up e x m = by_test (comes_before y x) refl
  where
    was_before : (b : Bool) → not b ≡ false → b ≡ true
    was_before true e = refl
    was_before false e = cc

    not_below : Member x (z ∷ xs) → comes_before x z ≡ false
    not_below (inl same) = subst (λ (w : Path). comes_before w z ≡ false) same (irreflexive (comes_before z z) refl)
      where
        irreflexive : (b : Bool) → comes_before z z ≡ b → comes_before z z ≡ false
        irreflexive true e = in_order.one_way z z e
        irreflexive false e = e
    not_below (inr n) = up.0 x n

    by_test : (b : Bool) → comes_before y x ≡ b → comes_before y x ≡ true
    by_test true t = t
    by_test false t = let never : comes_before y z ≡ false = in_order.chain y x z t (not_below m) in let is : comes_before y z ≡ true = was_before (comes_before y z) e in absurd (cc)

pub once-rises : (xs : List Path) → IsUp xs → IsTrue (are_rising (paths_once xs))
once-rises [] up = refl
once-rises (y ∷ xs) up = by_test (is_repeated y xs) refl (once-rises xs up.1)
  where
    both : (a b : Bool) → a ≡ true → b ≡ true → (a && b) ≡ true
    both true b ea eb = eb
    both false b ea eb = cc

    by_test : (b : Bool) → is_repeated y xs ≡ b → are_rising (paths_once xs) ≡ true → are_rising (cond (is_repeated y xs) [] (y ∷ []) ++ paths_once xs) ≡ true
    by_test true e rest = subst (λ (b : Bool). are_rising (cond b [] (y ∷ []) ++ paths_once xs) ≡ true) (sym e) rest
    by_test false e rest =
        subst (λ (b : Bool). are_rising (cond b [] (y ∷ []) ++ paths_once xs) ≡ true) (sym e)
        (both (list_all (λ other. comes_before y other) (paths_once xs)) (are_rising (paths_once xs)) (all-before y (paths_once xs) (λ x m. before-all y xs up.1 e x (once-of x xs m))) rest)

-- IN ORDER ALREADY

up-from_rising : (xs : List Path) → IsTrue (are_rising xs) → IsUp xs
up-from_rising [] rising = tt
up-from_rising (x ∷ xs) rising =
    let pair = and_parts (list_all (λ other. comes_before x other) xs) (are_rising xs) rising in
    ((λ other m. in_order.one_way x other (test-all (λ other. comes_before x other) xs pair.0 other m)), up-from_rising xs pair.1)

-- a path that comes before the next of paths in order comes before them all
pub rises-on : (y : Path) (xs : List Path) → is_repeated y xs ≡ false → IsTrue (are_rising xs) → IsTrue (are_rising (y ∷ xs))
rises-on y xs e rising =
    and_from (list_all (λ other. comes_before y other) xs) (are_rising xs) (all-before y xs (λ x m. before-all y xs (up-from_rising xs rising) e x m)) rising

-- A SORT

pub up-from_sort : {F : Type 0} {g : Mut F (Bor Path × (Bor Path × Unit {0})) Ordering} {f : F} (xs : List Path)
    → ((lt : Path → Path → Bool) → IsStrictWeakOrder lt → ComparesAs g lt f → IsSortedBy lt xs)
    → ((a : Bor Path × (Bor Path × Unit {0})) (r : Ordering) (f' : F) → Called g f a r f' → (r ≡ slice_cmp nat_cmp (spelled a.0.now) (spelled a.1.0.now)) × (f' ≡ f)) → IsUp xs
up-from_sort {g = g} {f = f} xs up h =
    up-sorted xs (up comes_before in_order (always_returns_same g (λ a r. is_lt r ≡ comes_before a.0.now a.1.0.now) f (λ a r f' k. (ap is_lt (h a r f' k).0, (h a r f' k).1))))

module _ (nodes xs ys list : List Path) (same : ys ≡ xs) (up : IsUp xs) (once : list ≡ paths_once ys) where
  list-is : list ≡ paths_once xs
  list-is = once ∙ ap paths_once same

  pub sorted-rises : IsTrue (are_rising list)
  sorted-rises = subst (λ (l : List Path). IsTrue (are_rising l)) (sym list-is) (once-rises xs up)

  module _ (moved : IsPermutation nodes xs) (canonical : All IsCanonical nodes) where
    each-canonical : (x : Path) → Member x xs → IsCanonical x
    each-canonical = at-member IsCanonical xs (All-permutation IsCanonical nodes xs moved canonical)

    pub sorted-canonical : All IsCanonical list
    sorted-canonical =
        All-from_recursion IsCanonical list (all-members IsCanonical list (λ x m. each-canonical x (once-of x xs (subst (λ (l : List Path). Member x l) list-is m))))

    pub sorted-same : SpellingsAreApart → (path : Path) → Member path list ↔ Member path nodes
    sorted-same apart path = (
      λ m. moved-member xs nodes (IsPermutation-sym nodes xs moved) path (once-of path xs (subst (λ (l : List Path). Member path l) list-is m)),
      λ m. subst (λ (l : List Path). Member path l) (sym list-is) (of-once apart xs up each-canonical path (moved-member nodes xs moved path m)),
    )
