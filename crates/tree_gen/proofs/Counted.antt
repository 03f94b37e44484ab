-- Lists that are made from numbers.
use Rattle.std.proofs.Common.{◌≡◌, ℕ, zero, suc, ◌+◌, ◌*◌, ◌<◌, ◌≤◌, List, [], ◌∷◌, ◌++◌, length, length-append, map, refl, sym, ◌∙◌, ap, arith, add-one, append_assoc, Bool, true, false}
use Rattle.std.specs.List.{list_any, list_all, flat_map, range_with_len}
use Rattle.std.proofs.lemmas.List.{append-nil}
use Rattle.std.proofs.lemmas.List.FromFn.{map-range_with_len_more}
use Rattle.std.proofs.lemmas.Bool.{and_from, or_from}

pub all_counted : {X : Type 0} (t : X → Bool) (f : ℕ → X) (a n : ℕ) → ((i : ℕ) → i < a + n → t (f i) ≡ true) → list_all t (map f (range_with_len a n)) ≡ true
all_counted t f a zero each = refl
all_counted t f a (suc n) each = and_from _ _ (each a (omega arith)) (all_counted t f (a + 1) n (λ i low. each i (omega (arith, low))))

pub none_counted : {X : Type 0} (t : X → Bool) (f : ℕ → X) (a n : ℕ) → ((i : ℕ) → a ≤ i → i < a + n → t (f i) ≡ false) → list_any t (map f (range_with_len a n)) ≡ false
none_counted t f a zero each = refl
none_counted t f a (suc n) each =
    or_from _ _ (each a (omega arith) (omega arith)) (none_counted t f (a + 1) n (λ i low high. each i (omega (arith, low)) (omega (arith, high))))

texts_from : (f : ℕ → List ℕ) (a n j : ℕ) → a + n ≡ j → flat_map f (range_with_len a (suc n)) ≡ flat_map f (range_with_len a n) ++ f j
texts_from f a zero j e = let same : a ≡ j = omega (arith, e) in append-nil (f a) ∙ ap f same
texts_from f a (suc n) j e = ap (λ (text : List ℕ). f a ++ text) (texts_from f (a + 1) n j (omega (arith, e))) ∙ sym (append_assoc (f a) (flat_map f (range_with_len (a + 1) n)) (f j))

-- one text more
pub texts_more : (f : ℕ → List ℕ) (n : ℕ) → flat_map f (range_with_len 0 (n + 1)) ≡ flat_map f (range_with_len 0 n) ++ f n
texts_more f n = rw (add-one n) (texts_from f 0 n n (omega arith))

-- one member more
pub members_more : {X : Type 0} (before : List X) (f : ℕ → X) (n : ℕ) → before ++ map f (range_with_len 0 (n + 1)) ≡ (before ++ map f (range_with_len 0 n)) ++ f n ∷ []
members_more before f n =
    ap (λ (list : List _). before ++ list) (map-range_with_len_more f 0 n n (omega arith)) ∙ sym (append_assoc before (map f (range_with_len 0 n)) (f n ∷ []))

-- texts of at most 60 bytes each
pub texts_short : (f : ℕ → List ℕ) (a n : ℕ) → ((i : ℕ) → i < a + n → length (f i) ≤ 60) → length (flat_map f (range_with_len a n)) ≤ 60 * n
texts_short f a zero each = omega arith
texts_short f a (suc n) each =
    let rest = texts_short f (a + 1) n (λ i low. each i (omega (arith, low))) in
    omega (arith, length-append (f a) (flat_map f (range_with_len (a + 1) n)), each a (omega arith), rest)
