-- Lists put in order of number.
use Rattle.std.proofs.Common.{arith, ◌≡◌, ℕ, zero, suc, ◌+◌, ◌<◌, ◌≤◌, ◌==◌, Bool, true, false, cond, List, [], ◌∷◌, ◌++◌, map, length, Option, None, Some, refl, sym, ap, ◌∙◌, subst, append-nil, append_assoc, filter, ne_eqb, eq-eqb, slice_set, replicate, length-append, length-set}
use Rattle.std.specs.List.{AllByRecursion}
use Rattle.std.specs.Option.{option_to_list}
use Rattle.std.proofs.lemmas.List.{length-replicate, map-append}
use Rattle.std.proofs.lemmas.List.Elements.{filter-append, All-from_recursion, recursion_from_All}
use Rattle.job_ends.specs.declared.record.Done.{Done}
use Rattle.base_types.proofs.Lists.{all_append}
use Rattle.client_order.specs.parts.Merged.{with_number, in_order, job_number, records_placed, in_places, AtMostOnce, EachBelow}

-- ---- filters ----

filter-cond : {X : Type 0} (p : X → Bool) (b : Bool) (x : X) (ys : List X) → filter p (cond b (x ∷ ys) ys) ≡ cond b (cond (p x) (x ∷ filter p ys) (filter p ys)) (filter p ys)
filter-cond p true x ys = refl
filter-cond p false x ys = refl

cond-comm : {X : Type 0} (a b : Bool) (x : X) (ys : List X) → cond a (cond b (x ∷ ys) ys) ys ≡ cond b (cond a (x ∷ ys) ys) ys
cond-comm true true x ys = refl
cond-comm true false x ys = refl
cond-comm false true x ys = refl
cond-comm false false x ys = refl

pub filter-comm : {X : Type 0} (p q : X → Bool) (xs : List X) → filter p (filter q xs) ≡ filter q (filter p xs)
filter-comm p q [] = refl
filter-comm p q (x ∷ xs) =
    filter-cond p (q x) x (filter q xs)
    ∙ (ap (λ ys. cond (q x) (cond (p x) (x ∷ ys) ys) ys) (filter-comm p q xs)
    ∙ (cond-comm (q x) (p x) x (filter q (filter p xs))
    ∙ sym (filter-cond q (p x) x (filter p xs))))

map-cond : {X Y : Type 0} (f : X → Y) (b : Bool) (x : X) (ys : List X) → map f (cond b (x ∷ ys) ys) ≡ cond b (f x ∷ map f ys) (map f ys)
map-cond f true x ys = refl
map-cond f false x ys = refl

pub map-filter : {X Y : Type 0} (f : X → Y) (p : Y → Bool) (xs : List X) → map f (filter (λ x. p (f x)) xs) ≡ filter p (map f xs)
map-filter f p [] = refl
map-filter f p (x ∷ xs) = map-cond f (p (f x)) x (filter (λ y. p (f y)) xs) ∙ ap (λ ys. cond (p (f x)) (f x ∷ ys) ys) (map-filter f p xs)

all-cond : {X : Type 0} (P : X → Type 0) (b : Bool) (x : X) (ys : List X) → P x → AllByRecursion P ys → AllByRecursion P (cond b (x ∷ ys) ys)
all-cond P true x ys at all = (at, all)
all-cond P false x ys at all = all

pub all-filter : {X : Type 0} (P : X → Type 0) (p : X → Bool) (xs : List X) → AllByRecursion P xs → AllByRecursion P (filter p xs)
all-filter P p [] all = tt
all-filter P p (x ∷ xs) all = all-cond P (p x) x (filter p xs) all.0 (all-filter P p xs all.1)

pub all-weaker : {X : Type 0} (P Q : X → Type 0) → ((x : X) → P x → Q x) → (xs : List X) → AllByRecursion P xs → AllByRecursion Q xs
all-weaker P Q f [] all = tt
all-weaker P Q f (x ∷ xs) all = (f x all.0, all-weaker P Q f xs all.1)

pub all-first : {X : Type 0} (P : X → Type 0) (xs ys : List X) → AllByRecursion P (xs ++ ys) → AllByRecursion P xs
all-first P [] ys all = tt
all-first P (x ∷ xs) ys all = (all.0, all-first P xs ys all.1)

pub all-second : {X : Type 0} (P : X → Type 0) (xs ys : List X) → AllByRecursion P (xs ++ ys) → AllByRecursion P ys
all-second P [] ys all = all
all-second P (x ∷ xs) ys all = all-second P xs ys all.1

-- what passes a filter passes its test
all-passes-cond : {X : Type 0} (p : X → Bool) (b : Bool) (x : X) (ys : List X) → p x ≡ b → AllByRecursion (λ y. p y ≡ true) ys → AllByRecursion (λ y. p y ≡ true) (cond b (x ∷ ys) ys)
all-passes-cond p true x ys e all = (e, all)
all-passes-cond p false x ys e all = all

pub all-passes : {X : Type 0} (p : X → Bool) (xs : List X) → AllByRecursion (λ y. p y ≡ true) (filter p xs)
all-passes p [] = tt
all-passes p (x ∷ xs) = all-passes-cond p (p x) x (filter p xs) refl (all-passes p xs)

-- a filter that none passes, and one that all pass
pub filter-none : {X : Type 0} (p : X → Bool) (xs : List X) → AllByRecursion (λ x. p x ≡ false) xs → filter p xs ≡ []
filter-none p [] all = refl
filter-none p (x ∷ xs) all = rw all.0 (filter-none p xs all.1)

pub filter-all : {X : Type 0} (p : X → Bool) (xs : List X) → AllByRecursion (λ x. p x ≡ true) xs → filter p xs ≡ xs
filter-all p [] all = refl
filter-all p (x ∷ xs) all = rw all.0 (ap (λ l. x ∷ l) (filter-all p xs all.1))

-- ---- in order of number ----

module _ {X : Type 0} (number : X → ℕ) where
  pub with-number-append : (n : ℕ) (xs ys : List X) → with_number number n (xs ++ ys) ≡ with_number number n xs ++ with_number number n ys
  with-number-append n xs ys = filter-append (λ x. number x == n) xs ys

  pub in-order-nil : (from count : ℕ) → in_order number from count [] ≡ []
  in-order-nil from zero = refl
  in-order-nil from (suc count) = in-order-nil (suc from) count

  pub in-order-filter : (p : X → Bool) (from count : ℕ) (xs : List X) → filter p (in_order number from count xs) ≡ in_order number from count (filter p xs)
  in-order-filter p from zero xs = refl
  in-order-filter p from (suc count) xs =
      filter-append p (with_number number from xs) (in_order number (suc from) count xs)
      ∙ (ap (λ l. l ++ filter p (in_order number (suc from) count xs)) (filter-comm p (λ x. number x == from) xs)
      ∙ ap (λ l. with_number number from (filter p xs) ++ l) (in-order-filter p (suc from) count xs))

  pub all-in-order : (P : X → Type 0) (from count : ℕ) (xs : List X) → AllByRecursion P xs → AllByRecursion P (in_order number from count xs)
  all-in-order P from zero xs all = tt
  all-in-order P from (suc count) xs all =
      all_append P (with_number number from xs) (in_order number (suc from) count xs) (all-filter P (λ x. number x == from) xs all) (all-in-order P (suc from) count xs all)

  -- the first is below all numbers that are asked for
  pub in-order-below : (from count : ℕ) (x : X) (xs : List X) → number x < from → in_order number from count (x ∷ xs) ≡ in_order number from count xs
  in-order-below from zero x xs below = refl
  in-order-below from (suc count) x xs below =
      let other : (number x == from) ≡ false = ne_eqb (number x) from (λ e. absurd (omega (arith, below, e))) in
      rw other (ap (λ l. with_number number from xs ++ l) (in-order-below (suc from) count x xs (omega (arith, below))))

pub in-order-map : {X Y : Type 0} (f : X → Y) (number : Y → ℕ) (from count : ℕ) (xs : List X) → map f (in_order (λ x. number (f x)) from count xs) ≡ in_order number from count (map f xs)
in-order-map f number from zero xs = refl
in-order-map f number from (suc count) xs =
    map-append f (with_number (λ x. number (f x)) from xs) (in_order (λ x. number (f x)) (suc from) count xs)
    ∙ (ap (λ l. l ++ map f (in_order (λ x. number (f x)) (suc from) count xs)) (map-filter f (λ y. number y == from) xs)
    ∙ ap (λ l. with_number number from (map f xs) ++ l) (in-order-map f number (suc from) count xs))

-- ---- places ----

-- from number k on, each place has what has its number
abbrev pub Show : ℕ → List (Option Done) → List Done → Type 0
Show k [] records = Unit {0}
Show k (p ∷ places) records = (with_number job_number k records ≡ option_to_list p) × Show (suc k) places records

show-none : (k n : ℕ) → Show k (replicate n None) []
show-none k zero = tt
show-none k (suc n) = (refl, show-none (suc k) n)

pub in-places : (k : ℕ) (places : List (Option Done)) (records : List Done) → Show k places records → in_places places ≡ in_order job_number k (length places) records
in-places k [] records show = refl
in-places k (p ∷ places) records show =
    ap (λ l. l ++ in_places places) (sym show.0) ∙ ap (λ l. with_number job_number k records ++ l) (in-places (suc k) places records show.1)

with-more-other : (k : ℕ) (records : List Done) (d : Done) → (d.job ≡ k → ⊥) → with_number job_number k (records ++ d ∷ []) ≡ with_number job_number k records
with-more-other k records d ne =
    let other : (d.job == k) ≡ false = ne_eqb d.job k ne in
    with-number-append job_number k records (d ∷ []) ∙ rw other (append-nil (with_number job_number k records))

with-more-same : (k : ℕ) (records : List Done) (d : Done) → d.job ≡ k → with_number job_number k records ≡ [] → with_number job_number k (records ++ d ∷ []) ≡ d ∷ []
with-more-same k records d e none =
    let same : (d.job == k) ≡ true = eq-eqb d.job k e in
    with-number-append job_number k records (d ∷ []) ∙ rw (none, same) refl

show-other : (k : ℕ) (places : List (Option Done)) (records : List Done) (d : Done) → d.job < k → Show k places records → Show k places (records ++ d ∷ [])
show-other k [] records d below show = tt
show-other k (p ∷ places) records d below show =
    (with-more-other k records d (λ e. absurd (omega (arith, below, e))) ∙ show.0, show-other (suc k) places records d (omega (arith, below)) show.1)

-- a record more, where its number has none
show-more : (k i : ℕ) (places : List (Option Done)) (records : List Done) (d : Done) → d.job ≡ k + i → with_number job_number d.job records ≡ [] → Show k places records
    → Show k (slice_set places i (Some d)) (records ++ d ∷ [])
show-more k zero [] records d e none show = tt
show-more k (suc i) [] records d e none show = tt
show-more k zero (p ∷ places) records d e none show =
    let here : d.job ≡ k = omega (arith, e) in
    (with-more-same k records d here (ap (λ n. with_number job_number n records) (sym here) ∙ none), show-other (suc k) places records d (omega (arith, here)) show.1)
show-more k (suc i) (p ∷ places) records d e none show =
    (with-more-other k records d (λ same. absurd (omega (arith, e, same))) ∙ show.0, show-more (suc k) i places records d (omega (arith, e)) none show.1)

short-front : {X : Type 0} (xs : List X) (x : X) (ys : List X) → length (xs ++ x ∷ ys) ≤ 1 → xs ≡ []
short-front [] x ys le = refl
short-front (z ∷ xs) x ys le = absurd (omega (arith, le, length-append xs (x ∷ ys)))

-- a number that stands in front and at most once in all stands nowhere behind
none-before : (records : List Done) (d : Done) (rest : List Done) → AtMostOnce (records ++ d ∷ rest) → with_number job_number d.job records ≡ []
none-before records d rest once =
    let same : (d.job == d.job) ≡ true = eq-eqb d.job d.job refl in
    let parts : with_number job_number d.job (records ++ d ∷ rest) ≡ with_number job_number d.job records ++ d ∷ with_number job_number d.job rest = with-number-append job_number d.job records (d ∷ rest) ∙ rw same refl in
    short-front (with_number job_number d.job records) d (with_number job_number d.job rest) (subst (λ (l : List Done). length l ≤ 1) parts (once d.job))

pub length-placed : (rest : List Done) (places : List (Option Done)) → length (records_placed rest places) ≡ length places
length-placed [] places = refl
length-placed (d ∷ rest) places = length-placed rest (slice_set places d.job (Some d)) ∙ length-set places d.job (Some d)

show-placed : (rest records : List Done) (places : List (Option Done)) → AtMostOnce (records ++ rest) → Show 0 places records → Show 0 (records_placed rest places) (records ++ rest)
show-placed [] records places once show = subst (λ (l : List Done). Show 0 places l) (sym (append-nil records)) show
show-placed (d ∷ rest) records places once show =
    let split : (records ++ d ∷ []) ++ rest ≡ records ++ d ∷ rest = append_assoc records (d ∷ []) rest in
    subst (λ (l : List Done). Show 0 (records_placed rest (slice_set places d.job (Some d))) l) split
    (show-placed rest (records ++ d ∷ []) (slice_set places d.job (Some d)) (subst AtMostOnce (sym split) once)
    (show-more 0 d.job places records d (omega arith) (none-before records d rest once) show))

-- the records that were put into places stand there in order of number
pub in-placed : (n : ℕ) (records : List Done) → AtMostOnce records → in_places (records_placed records (replicate n None)) ≡ in_order job_number 0 n records
in-placed n records once =
    in-places 0 (records_placed records (replicate n None)) records (show-placed records [] (replicate n None) once (show-none 0 n))
    ∙ ap (λ m. in_order job_number 0 m records) (length-placed records (replicate n None) ∙ length-replicate n None)

pub records_placed-append : (xs ys : List Done) (places : List (Option Done)) → records_placed (xs ++ ys) places ≡ records_placed ys (records_placed xs places)
records_placed-append [] ys places = refl
records_placed-append (d ∷ xs) ys places = records_placed-append xs ys (slice_set places d.job (Some d))

pub below-first : (n : ℕ) (xs ys : List Done) → EachBelow n (xs ++ ys) → EachBelow n xs
below-first n xs ys below = All-from_recursion (λ (d : Done). d.job < n) xs (all-first (λ (d : Done). d.job < n) xs ys (recursion_from_All (λ (d : Done). d.job < n) (xs ++ ys) below))

pub below-second : (n : ℕ) (xs ys : List Done) → EachBelow n (xs ++ ys) → EachBelow n ys
below-second n xs ys below = All-from_recursion (λ (d : Done). d.job < n) ys (all-second (λ (d : Done). d.job < n) xs ys (recursion_from_All (λ (d : Done). d.job < n) (xs ++ ys) below))

pub placed_more : (xs : List Done) (d : Done) (places : List (Option Done)) → records_placed (xs ++ d ∷ []) places ≡ slice_set (records_placed xs places) d.job (Some d)
placed_more xs d places = records_placed-append xs (d ∷ []) places
